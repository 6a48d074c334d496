use Rattle.std.proofs.Common.{◌≡◌, ◌≤◌, ◌+◌, ◌++◌, map, drop, length}
use Rattle.mrc_base.specs.Limits.{limit_of_arguments}
use Rattle.mrc_mig_bodies.specs.Bodies.{item_of}
use Rattle.mrc_mig_forms.specs.Bodies.{argument_of, form_of, body, slots_from}
use Rattle.mrc_mig_forms.proofs.form.form_of.Given as goal

abbrev pub invariant-loop-entry : goal.invariant-loop-entry
invariant-loop-entry l =
    (length l.form.arguments + length (body (map item_of (drop l.entry-index l.entries)))
    ≤ limit_of_arguments + 1)
    × (record l.form {
      arguments = l.form.arguments
          ++ map argument_of (body (map item_of (drop l.entry-index l.entries)));
      slots = l.form.slots
          ++ slots_from (length l.form.arguments)
          (body (map item_of (drop l.entry-index l.entries)));
    } ≡ form_of l.fn.name l.fn.id l.fn.kind (map item_of l.entries))
