-- What was added so far.
use Rattle.std.proofs.Common.{◌≡◌, take, map}
use Rattle.mrc_stand_for.specs.Products.{verb_of}
use Rattle.mrc_stand_for.proofs.products.verbs_of.Given as goal

abbrev pub invariant-loop-verb : goal.invariant-loop-verb
invariant-loop-verb l =
    l.list ≡ map verb_of (take l.verb-index l.verbs)
