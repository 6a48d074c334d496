-- What was added so far.
use Rattle.std.proofs.Common.{◌≡◌, take, map}
use Rattle.std.specs.List.{flat_map}
use Rattle.mrc_stand_for.specs.Products.{admit_line}
use Rattle.mrc_stand_for.proofs.products.admit_lines.Given as goal

abbrev pub invariant-loop-slot : goal.invariant-loop-slot
invariant-loop-slot l =
    l.lines ≡ flat_map (λ slot. map (admit_line slot) l.classes) (take l.slot-index l.slots)
