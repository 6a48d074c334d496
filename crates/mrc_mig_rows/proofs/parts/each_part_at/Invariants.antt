use Rattle.std.proofs.Common.{◌≡◌, ◌++◌, map, length}
use Rattle.mrc_mig_tokens.specs.Reading.{left}
use Rattle.mrc_mig_types.specs.Table.{known}
use Rattle.mrc_mig_rows.specs.Parts.{piece_of, pieces_from, closing_from}
use Rattle.mrc_mig_rows.proofs.parts.each_part_at.Given as goal

abbrev pub invariant-loop-parts : goal.invariant-loop-parts
invariant-loop-parts l =
    (map piece_of l.parts.items ++ pieces_from (known l.types) 0 (left l.rest) (left l.rest)
    ≡ pieces_from (known l.types) 0 (left l.fn.rest) (left l.fn.rest))
    × (closing_from 0 (left l.rest) ≡ closing_from 0 (left l.fn.rest))

abbrev pub decreases-loop-parts : goal.decreases-loop-parts
decreases-loop-parts l = length (left l.rest)
