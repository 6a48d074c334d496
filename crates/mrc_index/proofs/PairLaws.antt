-- What a tree of pairs tells of names by ports.
use Rattle.std.proofs.Common.{◌≡◌, ℕ, ◌<◌, ◌≤◌, Bool, true, false, List, ◌∷◌, cond, not, ◌==◌}
use Rattle.std.proofs.Common.{◌||◌, ◌&&◌, refl, sym, ◌∙◌, ap, subst, arith}
use Rattle.std.proofs.lemmas.Bool.{false_from_ne_true}
use Rattle.std.proofs.lemmas.Bool.Decides.{nat_tests}
use Rattle.std.specs.Ordering.{is_gt}
use Rattle.std.specs.BTreeMap.{is_at}
use Rattle.std.specs.List.{slice_get}
use Rattle.std.specs.Option.{IfSome}
use Rattle.mrc_index.specs.Pairs.{pair_cmp, has_pair, IsLeast}

pub pair_at : (p n q m : ℕ) → is_at (pair_cmp (p, n)) (q, m) ≡ (p == q && n == m)
pair_at p n q m = grind (arith, nat_tests)

cond_or : (b c : Bool) → cond b true c ≡ (b || c)
cond_or true c = refl
cond_or false c = refl

cond_not : (b c : Bool) → cond b false c ≡ (not b && c)
cond_not true c = refl
cond_not false c = refl

-- after a pair was put in
pub pair_in : (new old : List (ℕ × ℕ)) (p n q m : ℕ)
    → has_pair new q m ≡ cond (is_at (pair_cmp (p, n)) (q, m)) true (has_pair old q m)
    → has_pair new q m ≡ ((p == q && n == m) || has_pair old q m)
pair_in new old p n q m h =
    h ∙ ap (λ b. cond b true (has_pair old q m)) (pair_at p n q m)
    ∙ cond_or (p == q && n == m) (has_pair old q m)

-- after it was taken out
pub pair_out : (new old : List (ℕ × ℕ)) (p n q m : ℕ)
    → has_pair new q m ≡ cond (is_at (pair_cmp (p, n)) (q, m)) false (has_pair old q m)
    → has_pair new q m ≡ (not (p == q && n == m) && has_pair old q m)
pair_out new old p n q m h =
    h ∙ ap (λ b. cond b false (has_pair old q m)) (pair_at p n q m)
    ∙ cond_not (p == q && n == m) (has_pair old q m)

-- pairs of a port from a name on
pub above_is : (p k n : ℕ) → k ≤ n → is_gt (pair_cmp (p, k) (p, n)) ≡ false
above_is p k n h = grind (arith, nat_tests)

is_above : (p k n : ℕ) → is_gt (pair_cmp (p, k) (p, n)) ≡ false → k ≤ n
is_above p k n h = grind (arith, nat_tests)

apart : (p q : ℕ) (k l n : ℕ)
    → (q ≡ p → ⊥)
    → is_gt (pair_cmp (p, k) (q, l)) ≡ false
    → is_gt (pair_cmp (q, l) (p, n)) ≡ false
    → ⊥
apart p q k l n d a b = grind (arith, nat_tests)

below : (p l n : ℕ) → n < l → is_gt (pair_cmp (p, l) (p, n)) ≡ false → ⊥
below p l n h a = grind (arith, nat_tests)

-- the first of the pairs from there on is the port's least one
pub least_is : (ks : List (ℕ × ℕ)) (p k q l : ℕ)
    → q ≡ p
    → has_pair ks q l ≡ true
    → is_gt (pair_cmp (p, k) (q, l)) ≡ false
    → ((n : ℕ) → k ≤ n → has_pair ks p n ≡ true → is_gt (pair_cmp (q, l) (p, n)) ≡ false)
    → IsLeast ks p k l
least_is ks p k q l same there start least = record {
  has = ap (λ z. has_pair ks z l) (sym same) ∙ there;
  above = is_above p k l (ap (λ z. is_gt (pair_cmp (p, k) (z, l))) (sym same) ∙ start);
  least = λ n a h. false_from_ne_true (has_pair ks p n) (λ t.
      below p l n h (ap (λ z. is_gt (pair_cmp (z, l) (p, n))) (sym same) ∙ least n a t));
}

-- or the port has none
pub none_is : (ks : List (ℕ × ℕ)) (p k q l : ℕ)
    → (q ≡ p → ⊥)
    → is_gt (pair_cmp (p, k) (q, l)) ≡ false
    → ((n : ℕ) → k ≤ n → has_pair ks p n ≡ true → is_gt (pair_cmp (q, l) (p, n)) ≡ false)
    → (n : ℕ) → k ≤ n → has_pair ks p n ≡ false
none_is ks p k q l differs start least n a =
    false_from_ne_true (has_pair ks p n) (λ t. apart p q k l n differs start (least n a t))

-- what is told of the first of a list
pub head_fact : (P : ℕ × ℕ → Type 0) (r rest : List (ℕ × ℕ)) (k : ℕ × ℕ)
    → r ≡ k ∷ rest
    → IfSome (slice_get r 0) P
    → P k
head_fact P r rest k e h = subst (λ z. IfSome (slice_get z 0) P) e h
