use Rattle.std.proofs.Common.{◌≡◌, map, take}
use Rattle.std.specs.Option.{option_map}
use Rattle.mrc_mig_bodies.specs.Parameters.{parameter_of}
use Rattle.mrc_mig_bodies.specs.Roles.{request_port}
use Rattle.mrc_mig_bodies.proofs.roles.request_port.Given as goal

abbrev pub invariant-loop-argument : goal.invariant-loop-argument
invariant-loop-argument l = option_map parameter_of l.port
    ≡ request_port (map parameter_of (take l.argument-index l.arguments))
