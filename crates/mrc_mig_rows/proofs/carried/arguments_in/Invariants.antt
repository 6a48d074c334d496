use Rattle.std.proofs.Common.{◌≡◌, map, take}
use Rattle.mrc_mig_bodies.specs.Parameters.{parameter_of}
use Rattle.mrc_mig_rows.specs.Parts.{piece_of, parameter_in}
use Rattle.mrc_mig_rows.proofs.carried.arguments_in.Given as goal

abbrev pub invariant-loop-part : goal.invariant-loop-part
invariant-loop-part l =
    map parameter_of l.arguments.items
    ≡ map parameter_in (map piece_of (take l.part-index l.parts))
