use Rattle.std.proofs.Common.{◌∙◌, sym, ap, subst, ◌≡◌, ◌≤◌, ℕ, false}
use Rattle.mrc_index.specs.Pairs.{has_pair, IsLeast}
use Rattle.std.specs.Option.{IfNone}
use Rattle.mrc_index.proofs.PairLaws.{head_fact, least_is, none_is, above_is}
use Rattle.mrc_index.proofs.pairs.Pairs.least.Goals as goal

pub returns-in_err-found-clause-none : goal.returns-in_err-found-clause-none
returns-in_err-found-clause-none c =
    subst (λ o. IfNone o ((n : ℕ)
    → c.args.from ≤ n → has_pair c.args.self.now c.args.port n ≡ false))
    (sym c.from_residual.ensures) (λ n a.
    ap (λ z. has_pair z c.args.port n) (sym c.self.view_is)
    ∙ (c.range.ensures.in_range tt).5 c.in_err-found.ensures.steps.0 (c.args.port, n)
    (above_is c.args.port c.args.from n a, tt))

pub returns-then-found-port-clause-some : goal.returns-then-found-port-clause-some
returns-then-found-port-clause-some c =
    let h = c.range.ensures.in_range tt in
    let k = c.in_ok-found.found.now in
    let key = head_fact _ _ _ k c.in_ok-found.ensures.steps h.1 in
    subst (λ z. IsLeast z c.args.port c.args.from k.1) c.self.view_is
    (least_is c.self.inside.pairs.keys c.args.port c.args.from k.0 k.1 c.if-found-port.true key.1
    key.0.0
    (λ n a t. head_fact _ _ _ k c.in_ok-found.ensures.steps (h.2 (c.args.port, n)
    (above_is c.args.port c.args.from n a, tt) t)))

pub returns-else-found-port-clause-none : goal.returns-else-found-port-clause-none
returns-else-found-port-clause-none c = λ n a.
    let h = c.range.ensures.in_range tt in
    let k = c.in_ok-found.found.now in
    let key = head_fact _ _ _ k c.in_ok-found.ensures.steps h.1 in
    ap (λ z. has_pair z c.args.port n) (sym c.self.view_is)
    ∙ none_is c.self.inside.pairs.keys c.args.port c.args.from k.0 k.1 c.if-found-port.false
    key.0.0
    (λ m b t. head_fact _ _ _ k c.in_ok-found.ensures.steps (h.2 (c.args.port, m)
    (above_is c.args.port c.args.from m b, tt) t)) n a
