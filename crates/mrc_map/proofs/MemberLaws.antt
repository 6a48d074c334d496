-- What std's words for a set of numbers are in the definitions'.
use Rattle.std.proofs.Common.{◌≡◌, ℕ, List, [], ◌∷◌, refl, sym, ◌∙◌, ap, arith, Bool, true, false}
use Rattle.std.proofs.Common.{◌==◌, ◌||◌, Option, Some, None, cond, ◌<◌, ◌≤◌}
use Rattle.std.proofs.Common.{subst, suc, ◌^◌}
use Rattle.std.proofs.lemmas.Bool.{false_from_ne_true}
use Rattle.std.proofs.lemmas.Bool.Decides.{nat_tests}
use Rattle.std.specs.Prelude.{⊤}
use Rattle.std.specs.Ordering.{nat_cmp, is_gt}
use Rattle.std.specs.declared.cmp.Ordering.TheVariants.{Less}
use Rattle.std.specs.declared.ops.Bound.{Bound}
use Rattle.std.specs.BTreeMap.Range.{IsFromStart}
use Rattle.std.specs.Option.{IfSome}
use Rattle.std.specs.List.{list_any, slice_get}
use Rattle.std.specs.BTreeMap.{is_at}
use Rattle.mrc_model.specs.Death.{has}
use Rattle.mrc_map.specs.Members.{above, start, IsMember, IsFirst}

pub at_is : (p k : ℕ) → is_at (nat_cmp p) k ≡ (k == p)
at_is p k = grind (arith, nat_tests)

-- a number is found where the list has it
pub has_keys : (ks : List ℕ) (p : ℕ) → list_any (is_at (nat_cmp p)) ks ≡ has ks p
has_keys [] p = refl
has_keys (k ∷ ks) p = rw (at_is p k, has_keys ks p) refl

member_cases : (p q : ℕ) (b : Bool) → cond (q == p) true b ≡ (p == q || b)
member_cases p q b = grind (arith, nat_tests)

-- after a number was put in
pub member_after : (new old : List ℕ) (p q : ℕ)
    → list_any (is_at (nat_cmp q)) new
    ≡ cond (is_at (nat_cmp p) q) true (list_any (is_at (nat_cmp q)) old)
    → has new q ≡ (p == q || has old q)
member_after new old p q h =
    sym (has_keys new q) ∙ h
    ∙ ap (λ b. cond b true (list_any (is_at (nat_cmp q)) old)) (at_is p q)
    ∙ ap (cond (q == p) true) (has_keys old q) ∙ member_cases p q (has old q)

less_is : (p q : ℕ) → suc p ≤ q → nat_cmp p q ≡ Less
less_is p q h = grind (arith, nat_tests)

is_less : (p q : ℕ) → nat_cmp p q ≡ Less → suc p ≤ q
is_less p q h = grind (arith, nat_tests)

pub is_up : (p q : ℕ) → is_gt (nat_cmp p q) ≡ false → p ≤ q
is_up p q h = grind (arith, nat_tests)

start_is : (last : Option ℕ) (q : ℕ) → above last ≤ q → IsFromStart nat_cmp (start last) q
start_is None q h = tt
start_is (Some p) q h = less_is p q h

is_start : (last : Option ℕ) (q : ℕ) → IsFromStart nat_cmp (start last) q → above last ≤ q
is_start None q h = omega arith
is_start (Some p) q h = is_less p q h

-- the first number of a range is the first member
pub range_first : (ks : List ℕ) (last : Option ℕ) (low : Bound ℕ) (k : ℕ)
    → low ≡ start last
    → IsFromStart nat_cmp low k
    → list_any (is_at (nat_cmp k)) ks ≡ true
    → ((q : ℕ) → IsFromStart nat_cmp low q × ⊤ → list_any (is_at (nat_cmp q)) ks ≡ true
    → is_gt (nat_cmp k q) ≡ false)
    → k < 2 ^ 64
    → IsMember ks (above last) k
range_first ks last low k is from there least short = record {
  there = sym (has_keys ks k) ∙ there;
  above = is_start last k (subst (λ b. IsFromStart nat_cmp b k) is from);
  first = λ q h l. false_from_ne_true (has ks q) (λ t.
      let up : k ≤ q =
      is_up k q (least q (subst (λ b. IsFromStart nat_cmp b q) (sym is) (start_is last q h), tt)
      (has_keys ks q ∙ t)) in
      absurd (omega arith));
  short = short;
}

-- and where there is none the range is empty
pub range_none : (ks : List ℕ) (last : Option ℕ) (low : Bound ℕ) (r : List ℕ)
    → low ≡ start last
    → (r ≡ [] → (q : ℕ) → IsFromStart nat_cmp low q × ⊤ → list_any (is_at (nat_cmp q)) ks ≡ false)
    → r ≡ []
    → IsFirst ks (above last) None
range_none ks last low r is none empty = λ q h.
    sym (has_keys ks q)
    ∙ none empty q (subst (λ b. IsFromStart nat_cmp b q) (sym is) (start_is last q h), tt)

-- what is told of the first of a list
pub head_member : (P : ℕ → Type 0) (r rest : List ℕ) (k : ℕ)
    → r ≡ k ∷ rest
    → IfSome (slice_get r 0) P
    → P k
head_member P r rest k is h = subst (λ z. IfSome (slice_get z 0) P) is h
