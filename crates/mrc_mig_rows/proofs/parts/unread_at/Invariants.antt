use Rattle.std.proofs.Common.{◌≡◌, map, drop}
use Rattle.mrc_mig_rows.specs.Parts.{piece_of, unread_at}
use Rattle.mrc_mig_rows.proofs.parts.unread_at.Given as goal

abbrev pub invariant-loop-part : goal.invariant-loop-part
invariant-loop-part l =
    unread_at (map piece_of (drop l.part-index l.parts)) ≡ unread_at (map piece_of l.parts)
