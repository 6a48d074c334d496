use Rattle.std.proofs.Common.{◌≡◌, ◌++◌, map, drop}
use Rattle.mrc_mig_bodies.specs.Parameters.{parameter_of}
use Rattle.mrc_mig_bodies.specs.Roles.{settled, settled_behind}
use Rattle.mrc_mig_bodies.proofs.roles.settled.Given as goal

abbrev pub invariant-loop-argument : goal.invariant-loop-argument
invariant-loop-argument l =
    map parameter_of l.settled.items
    ++ settled_behind l.has_port (map parameter_of (drop l.argument-index l.arguments))
    ≡ settled (map parameter_of l.arguments)
