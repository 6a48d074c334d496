use Rattle.std.proofs.Common.{◌≡◌, ◌≤◌, ◌+◌, ◌++◌, map, drop, length}
use Rattle.mrc_mig_parse.specs.Meanings.{item_of}
use Rattle.mrc_interface.specs.Bodies.{argument_of, form_of, body, slots_from}
use Rattle.mrc_interface.proofs.form.form_of.Given as goal

abbrev pub invariant-loop-argument : goal.invariant-loop-argument
invariant-loop-argument l =
    (length l.form.arguments ≤ l.argument-index + 1)
    × (record l.form {
      arguments = l.form.arguments
          ++ map argument_of
          (body l.kind (map item_of (drop l.argument-index l.arguments)));
      slots = l.form.slots
          ++ slots_from (length l.form.arguments)
          (body l.kind (map item_of (drop l.argument-index l.arguments)));
    } ≡ form_of l.name l.id l.kind (map item_of l.arguments))
