-- What is left goes on from what was added so far.
use Rattle.std.proofs.Common.{◌≡◌, drop}
use Rattle.mrc_stand_for.specs.Steps.{each}
use Rattle.mrc_stand_for.specs.Lists.{add_class, nothing_found}
use Rattle.mrc_stand_for.proofs.lists.classes_of.Given as goal

abbrev pub invariant-loop-class : goal.invariant-loop-class
invariant-loop-class l =
    each (add_class l.known l.line l.holder) nothing_found l.classes
    ≡ each (add_class l.known l.line l.holder) l.found (drop l.class-index l.classes)
