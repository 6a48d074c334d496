use Rattle.std.proofs.Common.{◌≡◌, Ok, Err, sym, ◌∙◌, subst}
use Rattle.std.proofs.lemmas.Int.{to_z-of_z}
use Rattle.mrc_model.specs.Reply.{Refused}
use Rattle.mrc_model.specs.CallModRefs.{change_refs}
use Rattle.mrc_names.specs.Changes.{change_of}
use Rattle.mrc_names.proofs.ChangingLaws.{refs_no_name, refs_refused, refs_changed}
use Rattle.mrc_names.proofs.space.Space.drop_refs.Goals as goal
use mir.Syntax.{w32}

pub returns-in_default-clause-refused : goal.returns-in_default-clause-refused
returns-in_default-clause-refused c =
    refs_no_name c.args.self.now c.args.name c.args.right c.args.delta
    (sym c.get.ensures ∙ c.in_default.is)

pub returns-in-Ok-clause-ok : goal.returns-in-Ok-clause-ok
returns-in-Ok-clause-ok c =
    refs_changed c.args.self.now c.change.new.self c.args.name c.args.right c.args.delta
    c.in-Some.held (change_of c.in-Ok.change) c.change.result (sym c.get.ensures ∙ c.in-Some.is)
    (subst (λ z. change_refs c.in-Some.held c.args.right z ≡ Ok (change_of c.in-Ok.change))
    (to_z-of_z w32 c.args.delta c.ranges.delta) c.in-Ok.ensures.ok)
    c.change.ensures

pub returns-in-Err-clause-refused : goal.returns-in-Err-clause-refused
returns-in-Err-clause-refused c =
    refs_refused c.args.self.now c.args.name c.args.right c.args.delta c.in-Some.held c.in-Err.code
    (sym c.get.ensures ∙ c.in-Some.is)
    (subst (λ z. change_refs c.in-Some.held c.args.right z ≡ Err (Refused c.in-Err.code))
    (to_z-of_z w32 c.args.delta c.ranges.delta) c.in-Err.ensures.refused)
