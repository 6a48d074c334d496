use Rattle.std.proofs.Common.{◌≡◌, ℕ, ◌*◌, length}
use Rattle.std.specs.Prelude.{◌&&◌, not, nat_lt}
use Rattle.mrc_bits.specs.Bits.{is_set}
use Rattle.mrc_bits.proofs.bits.clear_bits.Given as goal

-- the words before this one are cleared
abbrev pub invariant-loop-k : goal.invariant-loop-k
invariant-loop-k l = record {
  len : length l.words ≡ length l.fn.words;
  bits : (i : ℕ) → is_set l.words i
      ≡ (is_set l.fn.words i && not (nat_lt i (64 * l.k) && is_set l.less i));
}
