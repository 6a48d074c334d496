-- The calls among the events so far.
use Rattle.std.proofs.Common.{◌≡◌, ◌≤◌, length, map, take}
use Rattle.mrc_live.specs.Runs.{event_of}
use Rattle.mrc_report.specs.Journal.{calls_by}
use Rattle.mrc_report.proofs.halting.calls_made.Given as goal

abbrev pub invariant-loop-event : goal.invariant-loop-event
invariant-loop-event l =
    (l.made ≤ l.event-index)
    × (l.made ≡ length (calls_by l.fn.task (map event_of (take l.event-index l.events))))
