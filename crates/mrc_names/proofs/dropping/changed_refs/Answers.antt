use Rattle.std.proofs.Common.{◌≡◌, Ok, Err, subst}
use Rattle.std.proofs.lemmas.Int.{to_z-of_z}
use Rattle.mrc_model.specs.Reply.{Refused}
use Rattle.mrc_model.specs.CallModRefs.{plus, new_refs}
use Rattle.mrc_names.proofs.DroppingLaws.{refs_ok, refs_err}
use Rattle.mrc_names.proofs.dropping.changed_refs.Goals as goal
use mir.Syntax.{w32}

pub returns-in-Ok-clause-ok : goal.returns-in-Ok-clause-ok
returns-in-Ok-clause-ok c =
    refs_ok c.args.refs c.args.delta c.in-Ok.left c.dead_entry.result
    (subst (λ z. new_refs (plus c.args.refs z) ≡ Ok c.in-Ok.left)
    (to_z-of_z w32 c.args.delta c.ranges.delta) c.in-Ok.ensures.ok)
    c.dead_entry.ensures

pub returns-in-Err-clause-refused : goal.returns-in-Err-clause-refused
returns-in-Err-clause-refused c =
    refs_err c.args.refs c.args.delta c.in-Err.code
    (subst (λ z. new_refs (plus c.args.refs z) ≡ Err (Refused c.in-Err.code))
    (to_z-of_z w32 c.args.delta c.ranges.delta) c.in-Err.ensures.refused)
