use Rattle.std.proofs.Common.{◌≡◌, Ok, Err, subst}
use Rattle.std.proofs.lemmas.Int.{to_z-of_z}
use Rattle.mrc_model.specs.Reply.{Refused}
use Rattle.mrc_model.specs.CallModRefs.{plus, new_refs}
use Rattle.mrc_names.proofs.DroppingLaws.{beside_none, beside_ok, beside_err}
use Rattle.mrc_names.proofs.dropping.changed_beside.Goals as goal
use mir.Syntax.{w32}

pub returns-then-not-some-clause-refused : goal.returns-then-not-some-clause-refused
returns-then-not-some-clause-refused c =
    beside_none c.args.port c.args.sends c.args.in_set c.args.delta c.if-not-some.true

pub returns-in-Ok-clause-ok : goal.returns-in-Ok-clause-ok
returns-in-Ok-clause-ok c =
    beside_ok c.args.port c.args.sends c.args.in_set c.args.delta c.in-Ok.left c.if-not-some.false
    (subst (λ z. new_refs (plus c.args.sends z) ≡ Ok c.in-Ok.left)
    (to_z-of_z w32 c.args.delta c.ranges.delta) c.in-Ok.ensures.ok)

pub returns-in-Err-clause-refused : goal.returns-in-Err-clause-refused
returns-in-Err-clause-refused c =
    beside_err c.args.port c.args.sends c.args.in_set c.args.delta c.in-Err.code c.if-not-some.false
    (subst (λ z. new_refs (plus c.args.sends z) ≡ Err (Refused c.in-Err.code))
    (to_z-of_z w32 c.args.delta c.ranges.delta) c.in-Err.ensures.refused)
