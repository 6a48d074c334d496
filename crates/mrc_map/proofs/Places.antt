-- The place of a key is where the keys below it end.
use Rattle.std.proofs.Common.{◌≡◌, ℕ, suc, ◌+◌, ◌<◌, ◌≤◌, Bool, true, false, T, List, [], ◌∷◌}
use Rattle.std.proofs.Common.{length, sym, ◌∙◌, ap, arith, nat_lt}
use Prim.Native.Nat.{zero}
use Rattle.std.specs.List.{slice_index_or}
use Rattle.std.specs.List.Sorted.{IsPartitionPoint, IsPartitionedBy}
use Rattle.std.proofs.lemmas.Bool.{ltb-true, lt-ltb}
use Rattle.mrc_model.specs.Rising.{is_rising, left_holds, right_holds, at_least}
use Rattle.mrc_model.proofs.Maps.{if_true, if_false}
use Rattle.mrc_map.specs.Entries.{IsRising, place}

-- the entry's key is below k
abbrev pub is_below : {X : Type 0} → ℕ → ℕ × X → Bool
is_below k e = nat_lt e.0 k

-- a key of a list that rises from low is not below low
low_key : {X : Type 0} (low i : ℕ) (es : List (ℕ × X)) (d : ℕ × X)
    → T (is_rising low es)
    → i < length es
    → low ≤ (slice_index_or es i d).0
low_key low i [] d r h = absurd (omega arith)
low_key low zero (e ∷ es) d r h = at_least low e.0 (left_holds _ _ r)
low_key low (suc i) (e ∷ es) d r h =
    let rest = low_key (e.0 + 1) i es d (right_holds _ _ r) (omega arith) in
    omega (arith, at_least low e.0 (left_holds _ _ r))

-- of two entries the later one's key is not below the other's
keys_rise : {X : Type 0} (low i j : ℕ) (es : List (ℕ × X)) (d : ℕ × X)
    → T (is_rising low es)
    → i ≤ j
    → j < length es
    → (slice_index_or es i d).0 ≤ (slice_index_or es j d).0
keys_rise low i j [] d r le h = absurd (omega arith)
keys_rise low zero zero (e ∷ es) d r le h = omega arith
keys_rise low zero (suc j) (e ∷ es) d r le h =
    omega (arith, low_key (e.0 + 1) j es d (right_holds _ _ r) (omega arith))
keys_rise low (suc i) zero (e ∷ es) d r le h = absurd (omega arith)
keys_rise low (suc i) (suc j) (e ∷ es) d r le h =
    keys_rise (e.0 + 1) i j es d (right_holds _ _ r) (omega arith) (omega arith)

-- the keys below k stand in front
pub keys_parted : {X : Type 0} (k : ℕ) (es : List (ℕ × X))
    → IsRising es
    → IsPartitionedBy (is_below k) es
unfolding IsRising
keys_parted k es r i j d le h below =
    lt-ltb _ k (omega (arith, keys_rise 0 i j es d r le h, ltb-true _ k below))

-- where the keys below k end is the place of k
pub place_is : {X : Type 0} (k : ℕ) (es : List (ℕ × X)) (i : ℕ)
    → i ≤ length es
    → IsPartitionPoint (λ e. is_below k e ≡ true) (λ e. is_below k e ≡ false) es i
    → i ≡ place k es
place_is k [] i h p = omega arith
place_is k (e ∷ es) zero h p =
    sym (if_false (nat_lt e.0 k) (suc (place k es)) 0 (p.1 0 e (omega arith) (omega arith)))
place_is k (e ∷ es) (suc i) h p =
    let rest : i ≡ place k es = place_is k es i (omega arith) (
      (λ n d a b. p.0 (suc n) d (omega arith) (omega arith)),
      (λ n d a b. p.1 (suc n) d (omega arith) (omega arith)),
    ) in
    let front = p.0 0 e (omega arith) (omega arith) in
    ap suc rest ∙ sym (if_true (nat_lt e.0 k) (suc (place k es)) 0 front)
