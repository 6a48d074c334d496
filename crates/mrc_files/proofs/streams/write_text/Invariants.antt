use Rattle.std.proofs.Common.{◌≡◌, ◌-◌, length, take, ◌≤◌}
use Rattle.std.specs.Io.KnownBytes.{Appends}
use Rattle.mrc_files.specs.Streams.{IsAtMostMore}
use Rattle.mrc_files.proofs.streams.write_text.Given as goal

-- what was written is at most the text, and was appended by at most as many writes as bytes, of
-- which none failed
abbrev pub invariant-loop-written : goal.invariant-loop-written
invariant-loop-written g l = record {
  within : l.written ≤ length l.text;
  appended : Appends (g.S.Sink.contents l.fn.sink) (g.S.Sink.contents l.sink)
      (take l.written l.text);
  counted : IsAtMostMore (g.S.Sink.writes l.fn.sink) (g.S.Sink.writes l.sink) l.written;
  passed : g.S.Sink.failures l.sink ≡ g.S.Sink.failures l.fn.sink;
}

abbrev pub decreases-loop-written : goal.decreases-loop-written
decreases-loop-written g l = length l.text - l.written
