use Rattle.std.proofs.Common.{◌≡◌, ◌++◌, map, take, drop}
use Rattle.mrc_ports.specs.Parcels.{perished_argument}
use Rattle.mrc_ports.proofs.parcel.perish_arguments.Given as goal

abbrev pub invariant-loop-argument : goal.invariant-loop-argument
invariant-loop-argument l =
    l.arguments ≡ map (perished_argument l.dead) (take l.argument-index l.fn.arguments) ++ drop
    l.argument-index l.fn.arguments
