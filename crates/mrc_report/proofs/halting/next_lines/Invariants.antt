-- The numbers of the tasks so far, whose next lines wait in vain.
use Rattle.std.proofs.Common.{◌≡◌, ◌<◌, ℕ, IfSome, map}
use Rattle.mrc_confine.specs.Guards.{wiring_in}
use Rattle.mrc_live.specs.Runs.{event_of}
use Rattle.mrc_report.specs.Halts.{WaitsInVain, next_line, next_numbers}
use Rattle.mrc_report.proofs.halting.next_lines.Given as goal

abbrev pub invariant-loop-task : goal.invariant-loop-task
invariant-loop-task l =
    let events = map event_of l.events in
    let case = l.initial.guarded.confined in
    let world = l.initial.guarded.world in
    (l.guarded ≡ l.initial.guarded)
    × (l.numbers.items ≡ next_numbers l.script events l.task)
    × ((t : ℕ) → t < l.task → IfSome (next_line l.script events t)
    (λ line. WaitsInVain (wiring_in case) world line.says))
