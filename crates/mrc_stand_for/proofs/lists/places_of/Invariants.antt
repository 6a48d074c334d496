-- What is left goes on from what was added so far.
use Rattle.std.proofs.Common.{◌≡◌, drop, []}
use Rattle.mrc_stand_for.specs.Steps.{each}
use Rattle.mrc_stand_for.specs.Lists.{add_place}
use Rattle.mrc_stand_for.proofs.lists.places_of.Given as goal

abbrev pub invariant-loop-place : goal.invariant-loop-place
invariant-loop-place l =
    each (add_place l.known l.line l.holder) [] l.places
    ≡ each (add_place l.known l.line l.holder) l.so_far (drop l.place-index l.places)
