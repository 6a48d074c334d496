use Rattle.std.proofs.Common.{◌≡◌, take, vec_capacity}
use Rattle.mrc_transit.proofs.written.Written.fill.Given as goal

abbrev pub invariant-loop-byte : goal.invariant-loop-byte
invariant-loop-byte l = (l.copy.items ≡ take l.byte-index l.byte-items)
    × (vec_capacity l.copy ≡ l.fn.room)
