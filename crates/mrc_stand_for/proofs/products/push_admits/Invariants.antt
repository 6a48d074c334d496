-- What was added so far.
use Rattle.std.proofs.Common.{◌≡◌, take, map, ◌++◌}
use Rattle.mrc_stand_for.specs.Products.{admit_line}
use Rattle.mrc_stand_for.proofs.products.push_admits.Given as goal

abbrev pub invariant-loop-class : goal.invariant-loop-class
invariant-loop-class l =
    l.lines ≡ l.fn.lines ++ map (admit_line l.slot) (take l.class-index l.classes)
