use Rattle.std.proofs.Common.{◌≡◌, ℕ, ◌+◌, ◌/◌, length}
use Rattle.std.specs.Prelude.{◌&&◌, nat_lt}
use Rattle.mrc_bits.specs.Bits.{is_set}
use Rattle.mrc_wiring.specs.Table.{wiring_of}
use Rattle.mrc_model.specs.Wiring.{accepts_replier}
use Rattle.mrc_slots.proofs.repliers.replier_row.Given as goal

-- the classes up to here are marked
abbrev pub invariant-loop-class : goal.invariant-loop-class
invariant-loop-class l = record {
  wide : length l.row.items ≡ (l.count + 63) / 64;
  bits : (p : ℕ) → is_set l.row.items p
      ≡ (nat_lt p l.class && accepts_replier (wiring_of l.wired) l.to p);
}
