-- What was added so far.
use Rattle.std.proofs.Common.{◌≡◌, take, filter}
use Rattle.mrc_stand_for.specs.Expected.{is_births}
use Rattle.mrc_stand_for.proofs.expected.only_births.Given as goal

abbrev pub invariant-loop-class : goal.invariant-loop-class
invariant-loop-class l = l.births ≡ filter is_births (take l.class-index l.classes)
