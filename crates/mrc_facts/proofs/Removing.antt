-- A list of facts without one of them.
use Rattle.std.proofs.Common.{◌≡◌, ◌+◌, true, false, cond, List, [], ◌∷◌, length, refl, ap, sym, subst, ◌∙◌, ◌⊎◌, inl, inr, arith}
use Rattle.std.specs.Prelude.{IsTrue, not, ◌&&◌, ◌||◌, if◌then◌else◌}
use Rattle.std.specs.Ordering.{is_lt}
use Rattle.std.specs.declared.cmp.Ordering.TheVariants.{Less}
use Rattle.std.proofs.lemmas.Bool.{cases_Bool, and_parts, and_from, or_left, or_right}
use Rattle.std.proofs.lemmas.Bool.{true≢false, false_from_ne_true}
use Rattle.std.specs.List.Sorted.{IsStrictlySortedBy}
use Rattle.std.proofs.Math.Bool.{or-false, and-false}
use Rattle.mrc_base.specs.declared.Fact.{Fact}
use Rattle.mrc_facts.specs.Order.{fact_cmp, is_before, is_same}
use Rattle.mrc_facts.specs.Sets.{has, begins_after, are_ascending, IsAscending}
use Rattle.mrc_facts.proofs.Total.{fact_total, Less-is, not_before_itself, equal_from_same, same_itself}
use Rattle.mrc_facts.proofs.Members.{sorted, at_member, one_list}

-- the facts but for f
abbrev pub without : List Fact → Fact → List Fact
without [] f = []
without (g ∷ facts) f = if is_same f g then facts else (g ∷ without facts f)

-- the first of an ascending list does not stand among the others
first_once : (f : Fact) (fs : List Fact) → IsAscending (f ∷ fs) → has fs f ≡ false
unfolding IsStrictlySortedBy
first_once f fs up = false_from_ne_true (has fs f) (λ there.
    true≢false (sym (ap is_lt (at_member (λ g. fact_cmp f g ≡ Less) fs (sorted (f ∷ fs) up).0 f there)) ∙ not_before_itself f))

pub has-without : (fs : List Fact) (f : Fact) → IsAscending fs → (g : Fact) → has (without fs f) g ≡ (not (is_same g f) && has fs g)
has-without [] f up g = sym (and-false (not (is_same g f)))
has-without (x ∷ fs) f up g =
    elim (is_same f x) as (λ b. is_same f x ≡ b → has (cond b fs (x ∷ without fs f)) g ≡ (not (is_same g f) && (is_same g x || has fs g))) [
      | true ↦ λ e. taken e (cases_Bool (is_same g f))
      | false ↦ λ e. ap (λ b. is_same g x || b) (has-without fs f (and_parts (begins_after x fs) (are_ascending fs) up).1 g) ∙ left e (cases_Bool (is_same g f))
    ] refl
  where
    taken : is_same f x ≡ true → (is_same g f ≡ true) ⊎ (is_same g f ≡ false) → has fs g ≡ (not (is_same g f) && (is_same g x || has fs g))
    taken e (inl same) = rw same (subst (λ y. has fs y ≡ false) (sym (equal_from_same g f same ∙ equal_from_same f x e)) (first_once x fs up))
    taken e (inr other) = rw (other, subst (λ y. is_same g y ≡ false) (equal_from_same f x e) other) refl

    left : is_same f x ≡ false → (is_same g f ≡ true) ⊎ (is_same g f ≡ false) → (is_same g x || (not (is_same g f) && has fs g)) ≡ (not (is_same g f) && (is_same g x || has fs g))
    left e (inl same) = rw (same, subst (λ y. is_same y x ≡ false) (sym (equal_from_same g f same)) e) refl
    left e (inr other) = rw other refl

pub length-without : (fs : List Fact) (f : Fact) → has fs f ≡ true → length (without fs f) + 1 ≡ length fs
length-without [] f there = absurd (true≢false (sym there))
length-without (x ∷ fs) f there =
    elim (is_same f x) as (λ b. is_same f x ≡ b → length (cond b fs (x ∷ without fs f)) + 1 ≡ length (x ∷ fs)) [
      | true ↦ λ e. omega arith
      | false ↦ λ e. let rest : has fs f ≡ true = rw e at there in let h = length-without fs f rest in omega arith
    ] refl

begins-without : (x : Fact) (fs : List Fact) (f : Fact) → IsAscending (x ∷ fs) → IsTrue (begins_after x (without fs f))
begins-without x [] f up = refl
begins-without x (y ∷ fs) f up =
    let parts = and_parts (is_before x y) (are_ascending (y ∷ fs)) up in
    elim (is_same f y) as (λ b. IsTrue (begins_after x (cond b fs (y ∷ without fs f)))) [
      | true ↦ over x y fs parts.0 parts.1
      | false ↦ parts.0
    ]
  where
    over : (x y : Fact) (fs : List Fact) → IsTrue (is_before x y) → IsAscending (y ∷ fs) → IsTrue (begins_after x fs)
    over x y [] before up = refl
    over x y (z ∷ fs) before up =
        let parts = and_parts (is_before y z) (are_ascending (z ∷ fs)) up in
        ap is_lt (fact_total.trans x y z (Less-is (fact_cmp x y) before) (Less-is (fact_cmp y z) parts.0))

pub ascending-without : (fs : List Fact) (f : Fact) → IsAscending fs → IsAscending (without fs f)
ascending-without [] f up = refl
ascending-without (x ∷ fs) f up =
    let parts = and_parts (begins_after x fs) (are_ascending fs) up in
    elim (is_same f x) as (λ b. IsAscending (cond b fs (x ∷ without fs f))) [
      | true ↦ parts.1
      | false ↦ and_from (begins_after x (without fs f)) (are_ascending (without fs f)) (begins-without x fs f up) (ascending-without fs f parts.1)
    ]

-- how many two sets have together that have no fact in common
pub length-together : (a b c : List Fact) → IsAscending a → IsAscending b → IsAscending c
    → ((g : Fact) → has c g ≡ (has a g || has b g))
    → ((g : Fact) → IsTrue (has b g) → has a g ≡ false)
    → length c ≡ length a + length b
length-together a [] c up_a up_b up_c both apart =
    let e = ap length (one_list c a up_c up_a (λ g. both g ∙ or-false (has a g))) in omega arith
length-together a (f ∷ fs) c up_a up_b up_c both apart =
    let in_c : has c f ≡ true = both f ∙ or_right (has a f) (has (f ∷ fs) f) in_b in
    let one = length-without c f in_c in
    let rest = length-together a fs (without c f) up_a
    (and_parts (begins_after f fs) (are_ascending fs) up_b).1 (ascending-without c f up_c)
    (λ g. has-without c f up_c g ∙ (ap (λ b. not (is_same g f) && b) (both g)
    ∙ left g (cases_Bool (is_same g f))))
    (λ g there. apart g (or_right (is_same g f) (has fs g) there)) in
    omega (arith, one, rest)
  where
    in_b : IsTrue (has (f ∷ fs) f)
    in_b = or_left (is_same f f) (has fs f) (same_itself f)

    left : (g : Fact) → (is_same g f ≡ true) ⊎ (is_same g f ≡ false)
        → (not (is_same g f) && (has a g || (is_same g f || has fs g))) ≡ (has a g || has fs g)
    left g (inl same) =
        let e = equal_from_same g f same in
        let in_a : has a g ≡ false = ap (has a) e ∙ apart f in_b in
        let in_fs : has fs g ≡ false = ap (has fs) e ∙ first_once f fs up_b in
        rw (same, in_a, in_fs) refl
    left g (inr other) = rw other refl
