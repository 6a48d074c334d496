-- What is left goes on from what was added so far.
use Rattle.std.proofs.Common.{◌≡◌, drop, []}
use Rattle.mrc_stand_for.specs.Steps.{each}
use Rattle.mrc_stand_for.specs.Standing.{add_sends}
use Rattle.mrc_stand_for.proofs.standing.all_sends.Given as goal

abbrev pub invariant-loop-holder : goal.invariant-loop-holder
invariant-loop-holder l =
    each (add_sends l.known l.line l.places) [] l.holders
    ≡ each (add_sends l.known l.line l.places) l.lines (drop l.holder-index l.holders)
