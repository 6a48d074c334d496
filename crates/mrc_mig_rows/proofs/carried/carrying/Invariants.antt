use Rattle.std.proofs.Common.{◌≡◌, map, take}
use Rattle.mrc_mig_bodies.specs.Parameters.{parameter_of}
use Rattle.mrc_mig_rows.specs.Carried.{carrier_of, carrying}
use Rattle.mrc_mig_rows.proofs.carried.carrying.Given as goal

abbrev pub invariant-loop-argument : goal.invariant-loop-argument
invariant-loop-argument l =
    map carrier_of l.found.items
    ≡ carrying l.kind l.by (map parameter_of (take l.argument-index l.settled))
