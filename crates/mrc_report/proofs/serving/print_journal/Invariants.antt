-- What went out of the journal so far, and what was kept back: the events that are left print the
-- rest.
use Rattle.std.proofs.Common.{◌≡◌, ◌+◌, ◌*◌, ◌^◌, ◌≤◌, ◌++◌, drop, length, map, string_bytes}
use Rattle.std.proofs.Common.{string_len}
use Rattle.mrc_live.specs.Runs.{event_of}
use Rattle.mrc_report.specs.Journal.{journal_text}
use Rattle.mrc_report.specs.Output.{IsOut}
use Rattle.mrc_report.specs.Printing.{end_line}
use Rattle.mrc_report.specs.Replay.{event_lines}
use Rattle.mrc_report.proofs.serving.print_journal.Given as goal

abbrev pub invariant-loop-number : goal.invariant-loop-number
invariant-loop-number g l = record {
  on : IsOut (g.S.Sink.contents l.fn.sink) (g.S.Sink.contents l.sink) 0 l.out.written
      (journal_text l.wired l.events l.ports)
      (string_bytes l.out.kept
      ++ (event_lines l.wired l.number (map event_of (drop l.number l.events))
      ++ end_line (length l.events) l.ports));
  room : l.out.written + string_len l.out.kept ≤ l.number * 2 ^ 64;
  passed : g.S.Sink.failures l.sink ≡ g.S.Sink.failures l.fn.sink;
}
