use Rattle.std.proofs.Common.{rules, arith, ◌≡◌, ◌+◌, length, vec_len}
use Rattle.std.proofs.lemmas.List.{length-take}
use Rattle.mrc_files.proofs.StreamLemmas.{loses_one_more}
use Rattle.mrc_files.proofs.streams.read_all.Goals as goal

pub returns-then-is_err-clause-few : goal.returns-then-is_err-clause-few
returns-then-is_err-clause-few g c =
    let same : vec_len c.loop-buffer.bytes ≡ length c.loop-buffer.bytes.items = search rules in
    loses_one_more _ _ _ _ _ _ c.in_ok-count.count (c.args.limit + 1) c.min-room.result
    c.loop-buffer.invariant.taken c.in_ok-count.ensures.some
    (omega (arith, length-take c.min-room.result c.loop-buffer.buffer))
    (omega (
      arith,
      same,
      c.min-room.ensures,
      c.len-in-loop-buffer.ensures,
      c.loop-buffer.invariant.within,
    ))
