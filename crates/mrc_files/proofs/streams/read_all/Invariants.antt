-- The bytes so far were taken from the source, by at most as many reads, of which none failed.
use Rattle.std.proofs.Common.{◌≡◌, ◌≤◌, ◌+◌, ◌-◌, vec_len}
use Rattle.std.specs.Io.KnownBytes.{Consumes}
use Rattle.mrc_files.specs.Streams.{IsAtMostMore}
use Rattle.mrc_files.proofs.streams.read_all.Given as goal

abbrev pub invariant-loop-buffer : goal.invariant-loop-buffer
invariant-loop-buffer g l = record {
  taken : Consumes (g.S.Source.remaining l.fn.source) (g.S.Source.remaining l.source) l.bytes.items;
  within : vec_len l.bytes ≤ l.limit + 1;
  counted : IsAtMostMore (g.S.Source.reads l.fn.source) (g.S.Source.reads l.source)
      (vec_len l.bytes);
  passed : g.S.Source.failures l.source ≡ g.S.Source.failures l.fn.source;
}

abbrev pub decreases-loop-buffer : goal.decreases-loop-buffer
decreases-loop-buffer g l = l.limit + 1 - vec_len l.bytes
