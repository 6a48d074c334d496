use Rattle.std.proofs.Common.{◌≡◌, map, take}
use Rattle.std.specs.List.{flat_map}
use Rattle.mrc_mig_bodies.specs.Bodies.{item_of, request_items}
use Rattle.mrc_mig_bodies.specs.Parameters.{parameter_of}
use Rattle.mrc_mig_bodies.proofs.bodies.request_body.Given as goal

abbrev pub invariant-loop-argument : goal.invariant-loop-argument
invariant-loop-argument l = map item_of l.body.items
    ≡ flat_map (request_items l.kind l.by)
    (map parameter_of (take l.argument-index l.settled))
