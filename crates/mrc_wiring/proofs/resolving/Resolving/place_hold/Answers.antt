use Rattle.std.proofs.Common.{◌≡◌, ◌≤◌, [], Ok, sym, subst, ap, ◌∙◌, arith}
use Rattle.mrc_model.specs.FirstHoldings.{line_holdings, names_given}
use Rattle.mrc_wiring.specs.State.{State, IsState, IsGiven, held_more}
use Rattle.mrc_wiring.proofs.StateLemmas.{hold_over, hold_under, hold_kept}
use Rattle.mrc_wiring.proofs.resolving.Resolving.place_hold.Goals as goal

-- too many names
pub returns-then-names-gt-NAMES-clause-exact : goal.returns-then-names-gt-NAMES-clause-exact
returns-then-names-gt-NAMES-clause-exact c =
    let hs = line_holdings 0 0 c.args.self.now.table.lines in
    let given = subst (λ (s : State). IsGiven hs s.given) (sym c.self.view_is)
    c.requires.state.given in
    let count : c.count_with-names.result ≡ names_given c.args.task [] (held_more hs c.args.task
    c.args.port c.args.right) =
    c.count_with-names.ensures hs given
    ∙ ap (λ p. names_given c.args.task [] (held_more hs c.args.task p c.args.right)) c.port.view_is
    in
    hold_over c.args.self.now.table c.args.task c.args.port c.args.right c.count_with-names.result
    count c.if-names-gt-NAMES.true

-- few enough
pub returns-clause-exact : goal.returns-clause-exact
returns-clause-exact c =
    let hs = line_holdings 0 0 c.args.self.now.table.lines in
    let given = subst (λ (s : State). IsGiven hs s.given) (sym c.self.view_is)
    c.requires.state.given in
    let count : c.count_with-names.result ≡ names_given c.args.task [] (held_more hs c.args.task
    c.args.port c.args.right) =
    c.count_with-names.ensures hs given
    ∙ ap (λ p. names_given c.args.task [] (held_more hs c.args.task p c.args.right)) c.port.view_is
    in
    hold_under c.args.self.now.table c.args.task c.args.port c.args.right c.count_with-names.result
    count c.if-names-gt-NAMES.false
    ∙ ap (λ (s : State). Ok s.table) (sym c.in_ok-put_hold.ensures.exact)

-- the state has one more hold
pub returns-clause-kept : goal.returns-clause-kept
returns-clause-kept c =
    let hs = line_holdings 0 0 c.args.self.now.table.lines in
    let given = subst (λ (s : State). IsGiven hs s.given) (sym c.self.view_is)
    c.requires.state.given in
    let count : c.count_with-names.result ≡ names_given c.args.task [] (held_more hs c.args.task
    c.args.port c.args.right) =
    c.count_with-names.ensures hs given
    ∙ ap (λ p. names_given c.args.task [] (held_more hs c.args.task p c.args.right)) c.port.view_is
    in
    let few = c.if-names-gt-NAMES.false in
    let own : names_given c.args.task [] (held_more hs c.args.task c.args.port c.args.right) ≤ 4096
    = omega arith in
    subst IsState (sym c.in_ok-put_hold.ensures.exact) (hold_kept c.args.self.now c.args.task
    c.args.port c.args.right c.put_hold.new.self.given c.requires.state c.requires.there
    c.requires.port c.requires.plain own c.in_ok-put_hold.ensures.given)
