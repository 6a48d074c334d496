-- What went out of the replay so far, and what was kept back: the lines that are left print the
-- rest.
use Rattle.std.proofs.Common.{◌≡◌, ◌+◌, ◌*◌, ◌^◌, ◌≤◌, ◌++◌, drop, length, string_bytes, string_len}
use Rattle.mrc_report.specs.Output.{IsOut}
use Rattle.mrc_report.specs.Replay.{replay_from, replay_text}
use Rattle.mrc_report.proofs.replaying.replay_in.Given as goal

abbrev pub invariant-loop-number : goal.invariant-loop-number
invariant-loop-number g l = record {
  on : IsOut (g.S.Sink.contents l.fn.sink) (g.S.Sink.contents l.sink) 0 l.out.written
      (replay_text l.wired l.lines)
      (string_bytes l.out.kept ++ replay_from l.wired l.number l.world (drop l.number l.lines));
  few : l.number ≤ length l.lines;
  room : l.out.written + string_len l.out.kept ≤ l.number * 2 ^ 64;
  passed : g.S.Sink.failures l.sink ≡ g.S.Sink.failures l.fn.sink;
}
