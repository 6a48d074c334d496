use Rattle.std.proofs.Common.{◌≡◌, ◌≤◌, List, length}
use Rattle.mrc_model.specs.Message.{Arg, any_port_arg}
use Rattle.mrc_desc.specs.Reading.{args_of}
use Rattle.mrc_desc.proofs.Walks.{Continues}
use Rattle.mrc_desc.proofs.reading.has_ports.Given as goal

abbrev pub invariant-loop-rest : goal.invariant-loop-rest
invariant-loop-rest l =
    (length l.rest ≤ length l.bytes)
    × ((front : List Arg) × (any_port_arg front ≡ l.ports)
    × Continues (length l.bytes) front l.rest (args_of l.bytes))

abbrev pub decreases-loop-rest : goal.decreases-loop-rest
decreases-loop-rest l = length l.rest
