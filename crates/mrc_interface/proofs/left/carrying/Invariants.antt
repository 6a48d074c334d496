-- The names so far are those of the rows so far.
use Rattle.std.proofs.Common.{◌≡◌, map, take, string_bytes}
use Rattle.std.specs.List.{filter_map}
use Rattle.mrc_interface.specs.Left.{name_if}
use Rattle.mrc_interface.proofs.left.carrying.Given as goal

abbrev pub invariant-loop-left : goal.invariant-loop-left
invariant-loop-left l =
    map string_bytes l.names.items ≡ filter_map name_if (take l.left-index l.left_out)
