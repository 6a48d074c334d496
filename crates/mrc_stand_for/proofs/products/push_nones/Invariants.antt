-- What was added so far.
use Rattle.std.proofs.Common.{◌≡◌, take, map, ◌++◌}
use Rattle.mrc_stand_for.specs.Products.{trust_none}
use Rattle.mrc_stand_for.proofs.products.push_nones.Given as goal

abbrev pub invariant-loop-verb : goal.invariant-loop-verb
invariant-loop-verb l =
    l.lines ≡ l.fn.lines ++ map (trust_none l.task) (take l.verb-index l.verbs)
