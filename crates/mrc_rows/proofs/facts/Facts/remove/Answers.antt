use Rattle.std.proofs.Common.{sym, ◌∙◌}
use Rattle.mrc_facts.proofs.Removing.{without}
use Rattle.mrc_rows.proofs.Wholes.{whole_as, whole_less_row, whole_less_other}
use Rattle.mrc_rows.proofs.facts.Facts.remove.Goals as goal

pub invariant_of-self-inside : goal.invariant_of-self-inside
invariant_of-self-inside c =
    let old = whole_as c.self.inside.rows c.self.inside.others c.self.inside.whole c.args.self.now c.self.view_is in
    ((without c.args.self.now c.args.fact.now, whole_less_row c.self.inside.rows c.self.inside.others c.args.self.now old c.args.fact.now c.remove.new.self (sym c.is_within.ensures ∙ c.if-is_within.true) c.remove.ensures.ascending c.remove.ensures.members), tt)

pub invariant_of-self-inside-else-is_within : goal.invariant_of-self-inside-else-is_within
invariant_of-self-inside-else-is_within c =
    let old = whole_as c.self.inside.rows c.self.inside.others c.self.inside.whole c.args.self.now c.self.view_is in
    ((without c.args.self.now c.args.fact.now, whole_less_other c.self.inside.rows c.self.inside.others c.args.self.now old c.args.fact.now c.remove-else-is_within.new.self (sym c.is_within.ensures ∙ c.if-is_within.false) c.remove-else-is_within.ensures.ascending c.remove-else-is_within.ensures.members), tt)
