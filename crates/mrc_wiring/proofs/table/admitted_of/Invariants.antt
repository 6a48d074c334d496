-- What the lines so far admit.
use Rattle.std.proofs.Common.{◌≡◌, take}
use Rattle.mrc_wiring.specs.Table.{admitted_of}
use Rattle.mrc_wiring.proofs.table.admitted_of.Given as goal

abbrev pub invariant-loop-line : goal.invariant-loop-line
invariant-loop-line l =
    l.admitted.items ≡ admitted_of l.ports l.tasks l.births (take l.line-index l.lines)
