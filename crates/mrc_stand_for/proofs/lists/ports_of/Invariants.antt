-- What is left goes on from what was added so far.
use Rattle.std.proofs.Common.{◌≡◌, drop, []}
use Rattle.mrc_stand_for.specs.Steps.{each}
use Rattle.mrc_stand_for.specs.Lists.{add_port}
use Rattle.mrc_stand_for.proofs.lists.ports_of.Given as goal

abbrev pub invariant-loop-port : goal.invariant-loop-port
invariant-loop-port l =
    each (add_port l.known l.line) [] l.ports
    ≡ each (add_port l.known l.line) l.so_far (drop l.port-index l.ports)
