-- What was added so far.
use Rattle.std.proofs.Common.{◌≡◌, take, map}
use Rattle.mrc_stand_for.specs.Products.{admit_none}
use Rattle.mrc_stand_for.proofs.products.no_admit_lines.Given as goal

abbrev pub invariant-loop-slot : goal.invariant-loop-slot
invariant-loop-slot l =
    l.lines ≡ map admit_none (take l.slot-index l.slots)
