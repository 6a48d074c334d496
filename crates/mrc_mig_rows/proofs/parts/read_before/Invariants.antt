use Rattle.std.proofs.Common.{◌≡◌, ◌++◌, map, drop}
use Rattle.mrc_mig_bodies.specs.Parameters.{parameter_of}
use Rattle.mrc_mig_rows.specs.Parts.{piece_of, read_before}
use Rattle.mrc_mig_rows.proofs.parts.read_before.Given as goal

abbrev pub invariant-loop-part : goal.invariant-loop-part
invariant-loop-part l =
    map parameter_of l.arguments.items ++ read_before (map piece_of (drop l.part-index l.parts))
    ≡ read_before (map piece_of l.parts)
