-- What was added so far.
use Rattle.std.proofs.Common.{◌≡◌, take, ◌++◌}
use Rattle.std.specs.List.{flat_map}
use Rattle.mrc_stand_for.specs.Products.{verb_lines}
use Rattle.mrc_stand_for.proofs.products.push_trusts.Given as goal

abbrev pub invariant-loop-verb : goal.invariant-loop-verb
invariant-loop-verb l =
    l.lines ≡ l.fn.lines
    ++ flat_map (verb_lines l.task l.rights l.classes) (take l.verb-index l.verbs)
