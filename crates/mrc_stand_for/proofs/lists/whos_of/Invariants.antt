-- What is left goes on from what was added so far.
use Rattle.std.proofs.Common.{◌≡◌, drop, []}
use Rattle.mrc_stand_for.specs.Steps.{each}
use Rattle.mrc_stand_for.specs.Lists.{add_who}
use Rattle.mrc_stand_for.proofs.lists.whos_of.Given as goal

abbrev pub invariant-loop-name : goal.invariant-loop-name
invariant-loop-name l =
    each (add_who l.known l.line) [] l.names
    ≡ each (add_who l.known l.line) l.so_far (drop l.name-index l.names)
