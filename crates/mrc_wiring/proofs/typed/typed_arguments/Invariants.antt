use Rattle.std.proofs.Common.{◌≡◌, ◌++◌, drop}
use Rattle.mrc_wiring.specs.ModelForms.{shapes_from, shapes_of}
use Rattle.mrc_wiring.proofs.typed.typed_arguments.Given as goal

-- the arguments so far and those that are left are all
abbrev pub invariant-loop-number : goal.invariant-loop-number
invariant-loop-number l =
    l.typed.items
    ++ shapes_from l.sorts l.interface l.form.slots l.number (drop l.number l.argument-items)
    ≡ shapes_of l.sorts l.interface l.form
