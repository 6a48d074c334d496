use Rattle.std.proofs.Common.{◌≡◌, map, take}
use Rattle.std.specs.List.{filter_map}
use Rattle.mrc_mig_rows.specs.Rows.{row_of}
use Rattle.mrc_mig_forms.specs.Files.{left_of}
use Rattle.mrc_mig_forms.proofs.left.left_out_of.Given as goal

abbrev pub invariant-loop-row : goal.invariant-loop-row
invariant-loop-row l =
    l.found.items ≡ filter_map left_of (map row_of (take l.row-index l.rows))
