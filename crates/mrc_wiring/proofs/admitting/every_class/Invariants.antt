use Rattle.std.proofs.Common.{◌≡◌, ℕ, length}
use Rattle.std.specs.Prelude.{nat_lt}
use Rattle.mrc_bits.specs.Bits.{is_set}
use Rattle.mrc_wiring.proofs.admitting.every_class.Given as goal

-- the classes up to here are marked
abbrev pub invariant-loop-class : goal.invariant-loop-class
invariant-loop-class l = record {
  wide : length l.row.items ≡ 21;
  bits : (c : ℕ) → is_set l.row.items c ≡ nat_lt c l.class;
}
