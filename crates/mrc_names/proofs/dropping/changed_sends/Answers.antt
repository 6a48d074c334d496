use Rattle.std.proofs.Common.{◌≡◌, Ok, Err, subst}
use Rattle.std.proofs.lemmas.Int.{to_z-of_z}
use Rattle.mrc_model.specs.Reply.{Refused}
use Rattle.mrc_model.specs.CallModRefs.{plus, new_refs}
use Rattle.mrc_names.proofs.DroppingLaws.{sends_ok, sends_err}
use Rattle.mrc_names.proofs.dropping.changed_sends.Goals as goal
use mir.Syntax.{w32}

pub returns-in-Ok-clause-ok : goal.returns-in-Ok-clause-ok
returns-in-Ok-clause-ok c =
    sends_ok c.args.port c.args.sends c.args.delta c.in-Ok.left c.send_entry.result
    (subst (λ z. new_refs (plus c.args.sends z) ≡ Ok c.in-Ok.left)
    (to_z-of_z w32 c.args.delta c.ranges.delta) c.in-Ok.ensures.ok)
    c.send_entry.ensures

pub returns-in-Err-clause-refused : goal.returns-in-Err-clause-refused
returns-in-Err-clause-refused c =
    sends_err c.args.port c.args.sends c.args.delta c.in-Err.code
    (subst (λ z. new_refs (plus c.args.sends z) ≡ Err (Refused c.in-Err.code))
    (to_z-of_z w32 c.args.delta c.ranges.delta) c.in-Err.ensures.refused)
