use Rattle.std.proofs.Common.{◌≡◌, ◌++◌, drop, map}
use Rattle.mrc_model.specs.World.{args_rights}
use Rattle.mrc_ports.specs.Parcels.{queued_of}
use Rattle.mrc_death.proofs.going.add_arguments.Given as goal

abbrev pub invariant-loop-argument : goal.invariant-loop-argument
invariant-loop-argument l =
    l.rights.items ++ args_rights (map queued_of (drop l.argument-index l.arguments))
    ≡ l.fn.rights.items ++ args_rights (map queued_of l.arguments)
