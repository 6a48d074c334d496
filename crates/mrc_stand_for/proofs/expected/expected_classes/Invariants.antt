-- What is left goes on from what was added so far.
use Rattle.std.proofs.Common.{◌≡◌, drop, []}
use Rattle.mrc_stand_for.specs.Steps.{each}
use Rattle.mrc_stand_for.specs.Expected.{add_expected}
use Rattle.mrc_stand_for.proofs.expected.expected_classes.Given as goal

abbrev pub invariant-loop-class : goal.invariant-loop-class
invariant-loop-class l =
    each (add_expected l.known l.line l.holder) [] l.classes
    ≡ each (add_expected l.known l.line l.holder) l.so_far (drop l.class-index l.classes)
