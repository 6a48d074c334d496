use Rattle.std.proofs.Common.{◌≡◌, ◌++◌, drop}
use Rattle.mrc_wiring.specs.ModelForms.{typed_from}
use Rattle.mrc_wiring.proofs.typed.typed_of.Given as goal

-- the forms so far and those of the interfaces that are left are all
abbrev pub invariant-loop-number : goal.invariant-loop-number
invariant-loop-number l =
    l.typed.items ++ typed_from l.kind l.sorts l.number (drop l.number l.interfaces)
    ≡ typed_from l.kind l.sorts 0 l.interfaces
