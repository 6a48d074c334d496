-- What was added so far.
use Rattle.std.proofs.Common.{◌≡◌, take, map, ◌++◌}
use Rattle.mrc_stand_for.specs.Products.{trust_line}
use Rattle.mrc_stand_for.proofs.products.push_right.Given as goal

abbrev pub invariant-loop-class : goal.invariant-loop-class
invariant-loop-class l =
    l.lines ≡ l.fn.lines ++ map (trust_line l.task l.verb l.right) (take l.class-index l.classes)
