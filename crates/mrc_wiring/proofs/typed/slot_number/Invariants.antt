use Rattle.std.proofs.Common.{◌≡◌, drop, find}
use Rattle.mrc_wiring.specs.ModelForms.{is_at}
use Rattle.mrc_wiring.proofs.typed.slot_number.Given as goal

-- none of the slots so far is the argument
abbrev pub invariant-loop-slot : goal.invariant-loop-slot
invariant-loop-slot l =
    find (is_at l.argument) (drop l.slot-index l.slots) ≡ find (is_at l.argument) l.slots
