use Rattle.std.proofs.Common.{◌≡◌, ℕ, ◌*◌, ◌<◌, ◌≤◌, false}
use Rattle.mrc_bits.specs.Bits.{is_fresh, AnyFresh}
use Rattle.mrc_bits.proofs.bits.fresh_behind.Given as goal

-- what the words before this one have
abbrev pub invariant-loop-k : goal.invariant-loop-k
invariant-loop-k l = record {
  none : l.fresh ≡ 0 → (i : ℕ) → 64 * l.from ≤ i → i < 64 * l.k
      → is_fresh l.words l.more l.mask i ≡ false;
  some : 0 < l.fresh → AnyFresh l.words l.more l.mask;
}
