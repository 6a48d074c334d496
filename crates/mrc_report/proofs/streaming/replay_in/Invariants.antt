-- Some text went out, but for what is kept back; so much is little enough to count.
use Rattle.std.proofs.Common.{◌≡◌, ◌+◌, ◌*◌, ◌^◌, ◌≤◌, string_bytes, string_len}
use Rattle.mrc_report.specs.Output.{IsMoreOut}
use Rattle.mrc_report.proofs.streaming.replay_in.Given as goal

abbrev pub invariant-loop-number : goal.invariant-loop-number
invariant-loop-number g l = record {
  on : IsMoreOut (g.S.Sink.contents l.fn.sink) (g.S.Sink.contents l.sink) 0 l.out.written
      (string_bytes l.out.kept);
  room : l.out.written + string_len l.out.kept ≤ (l.number + 1) * 2 ^ 64;
  passed : g.S.Sink.failures l.sink ≡ g.S.Sink.failures l.fn.sink;
}
