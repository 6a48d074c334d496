use Rattle.std.proofs.Common.{◌≡◌, ℕ, ◌+◌, ◌/◌, length}
use Rattle.std.specs.Prelude.{◌&&◌, nat_lt}
use Rattle.mrc_bits.specs.Bits.{is_set}
use Rattle.mrc_slots.specs.Masks.{is_any}
use Rattle.mrc_slots.proofs.masks.all_places.Given as goal

-- the places up to here are marked
abbrev pub invariant-loop-place : goal.invariant-loop-place
invariant-loop-place l = record {
  wide : length l.row.items ≡ (l.places + 63) / 64;
  bits : (p : ℕ) → is_set l.row.items p ≡ (nat_lt p l.place && is_any p);
}
