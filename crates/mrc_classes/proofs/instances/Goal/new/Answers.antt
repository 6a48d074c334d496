use Rattle.std.proofs.Common.{sym, ◌∙◌}
use Rattle.std.proofs.lemmas.Bool.{true≢false}
use Rattle.mrc_wiring.specs.Table.{wiring_of}
use Rattle.mrc_classes.proofs.Justified.{not_concluded}
use Rattle.mrc_classes.proofs.instances.Goal.new.Goals as goal

pub returns-then-not-is_in_range-clause-none : goal.returns-then-not-is_in_range-clause-none
returns-then-not-is_in_range-clause-none c = λ S x.
    let range = rw c.wired.ensures at c.is_in_range.ensures in
    true≢false (sym (range.1 x.in_range) ∙ c.if-not-is_in_range.true)

pub returns-then-not-is_conclusion-clause-none : goal.returns-then-not-is_conclusion-clause-none
returns-then-not-is_conclusion-clause-none c = λ S.
    let p = c.parts-row.result in
    not_concluded (wiring_of c.args.rules.now) S c.args.rule c.args.fact.now
    p.0 p.1 p.2 c.parts-row.ensures
    (λ e x. true≢false (sym (c.is_conclusion.ensures.1 e) ∙ c.if-not-is_conclusion.true))
