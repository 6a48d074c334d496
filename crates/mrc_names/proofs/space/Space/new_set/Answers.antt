use Rattle.std.proofs.Common.{sym, ◌∙◌}
use Rattle.std.proofs.lemmas.Bool.{ne_eqb}
use Rattle.mrc_names.proofs.ChangingLaws.{set_no_name, set_no_set, set_joined}
use Rattle.mrc_names.proofs.space.Space.new_set.Goals as goal

pub returns-in_default-clause-refused : goal.returns-in_default-clause-refused
returns-in_default-clause-refused c =
    set_no_name c.args.self.now c.args.set c.args.in_set (ne_eqb c.args.set 0 c.if-set-eq0.false)
    (sym c.get.ensures ∙ c.in_default.is)

pub returns-then-is_set-clause-ok : goal.returns-then-is_set-clause-ok
returns-then-is_set-clause-ok c =
    set_joined c.args.self.now c.args.set c.args.in_set c.in-Some-get.held
    (ne_eqb c.args.set 0 c.if-set-eq0.false) (sym c.get.ensures ∙ c.in-Some-get.is)
    (sym c.is_set.ensures ∙ c.if-is_set.true)

pub returns-else-is_set-clause-refused : goal.returns-else-is_set-clause-refused
returns-else-is_set-clause-refused c =
    set_no_set c.args.self.now c.args.set c.args.in_set c.in-Some-get.held
    (ne_eqb c.args.set 0 c.if-set-eq0.false) (sym c.get.ensures ∙ c.in-Some-get.is)
    (sym c.is_set.ensures ∙ c.if-is_set.false)
