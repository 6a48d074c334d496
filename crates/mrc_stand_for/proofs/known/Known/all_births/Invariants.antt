-- What was added so far.
use Rattle.std.proofs.Common.{◌≡◌}
use Rattle.std.specs.List.{flat_map, range_with_len}
use Rattle.mrc_stand_for.specs.Known.{kind_classes}
use Rattle.mrc_stand_for.proofs.known.Known.all_births.Given as goal

abbrev pub invariant-loop-number : goal.invariant-loop-number
invariant-loop-number l =
    l.classes ≡ flat_map (kind_classes l.self l.task) (range_with_len 0 l.number)
