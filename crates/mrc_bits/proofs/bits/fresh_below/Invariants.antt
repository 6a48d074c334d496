use Rattle.std.proofs.Common.{◌≡◌, ◌*◌, ◌<◌}
use Rattle.mrc_bits.specs.Bits.{AnyFresh, NoneFresh}
use Rattle.mrc_bits.proofs.bits.fresh_below.Given as goal

-- what the words before this one have
abbrev pub invariant-loop-k : goal.invariant-loop-k
invariant-loop-k l = record {
  none : l.fresh ≡ 0 → NoneFresh l.words l.more l.mask (64 * l.k);
  some : 0 < l.fresh → AnyFresh l.words l.more l.mask;
}
