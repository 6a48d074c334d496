-- From a fact of a set to the next one.
use Rattle.std.proofs.Common.{◌≡◌, true, false, IsTrue}
use Rattle.std.proofs.Common.{List, [], ◌∷◌, Option, Some, None, refl, ap, sym, subst, ◌∙◌}
use Rattle.std.proofs.Common.{inl, inr}
use Rattle.std.specs.Prelude.{not, filter, IfSome}
use Rattle.std.proofs.lemmas.Bool.{and_parts, or_left, or_right}
use Rattle.std.proofs.lemmas.Bool.{or_cases}
use Rattle.std.proofs.lemmas.Bool.{false≢true}
use Rattle.mrc_base.specs.declared.Fact.{Fact}
use Rattle.std.specs.Ordering.{is_lt}
use Rattle.std.specs.List.Sorted.{IsStrictlySortedBy}
use Rattle.std.specs.declared.cmp.Ordering.TheVariants.{Less}
use Rattle.mrc_facts.specs.Order.{fact_cmp, is_before, is_same}
use Rattle.mrc_facts.specs.Sets.{has, first, after, IsAscending, begins_after, are_ascending}
use Rattle.mrc_facts.specs.Laws.{IsNext}
use Rattle.mrc_facts.proofs.Total.{not_before, equal_from_same, same_itself}
use Rattle.mrc_facts.proofs.Members.{first_is_least, after_is_next, at_member, sorted}
use Rattle.mrc_facts.proofs.Walking.{next_after}
use Rattle.mrc_rows.specs.Walking.{facts_from}

-- what is left of a set

all_left : (x : Fact) (facts : List Fact)
    → ((g : Fact) → IsTrue (has facts g) → is_before g x ≡ false)
    → filter (λ g. not (is_before g x)) facts ≡ facts
all_left x [] none = refl
all_left x (y ∷ facts) none =
    rw (none y (or_left (is_same y y) (has facts y) (same_itself y)))
    (ap (λ (gs : List Fact). y ∷ gs)
    (all_left x facts (λ g there. none g (or_right (is_same g y) (has facts g) there))))

behind_first : (x : Fact) (facts : List Fact) → IsAscending (x ∷ facts) → (g : Fact)
    → IsTrue (has facts g) → is_before x g ≡ true
unfolding IsStrictlySortedBy
behind_first x facts ascending g there =
    ap is_lt (at_member (λ h. fact_cmp x h ≡ Less) facts (sorted (x ∷ facts) ascending).0 g there)

-- from the first one on it is the whole set
pub from_first : (facts : List Fact) → IsAscending facts → facts_from facts (first facts) ≡ facts
from_first [] ascending = refl
from_first (x ∷ facts) ascending =
    all_left x (x ∷ facts) (first_is_least (x ∷ facts) ascending).least

-- what is left without the first one
left_behind : (x : Fact) (facts : List Fact) → IsAscending (x ∷ facts)
    → facts_from (x ∷ facts) (first facts) ≡ facts
left_behind x [] ascending = refl
left_behind x (y ∷ facts) ascending =
    let parts = and_parts (is_before x y) (are_ascending (y ∷ facts)) ascending in
    rw parts.0 (from_first (y ∷ facts) parts.1)

-- one that stands behind the first one
skips_first : (x : Fact) (facts : List Fact) → IsAscending (x ∷ facts) → (o : Option Fact)
    → IfSome o (λ g. IsTrue (has facts g))
    → facts_from (x ∷ facts) o ≡ facts_from facts o
skips_first x facts ascending None there = refl
skips_first x facts ascending (Some g) there = rw (behind_first x facts ascending g there) refl

-- the next one, where there is one, stands in the set
pub next_there : (facts : List Fact) (f : Fact) → IsAscending facts
    → IfSome (after facts f) (λ g. IsTrue (has facts g))
next_there facts f ascending = go (after facts f) (after_is_next facts f ascending)
  where
    go : (o : Option Fact) → IfSome o (IsNext facts f) → IfSome o (λ g. IsTrue (has facts g))
    go None is = tt
    go (Some g) is = is.member

one_later : (x : Fact) (facts : List Fact) (f : Fact) → IsAscending (x ∷ facts)
    → IsTrue (has facts f)
    → facts_from facts (Some f) ≡ f ∷ facts_from facts (after facts f)
    → facts_from (x ∷ facts) (Some f) ≡ f ∷ facts_from (x ∷ facts) (after (x ∷ facts) f)
one_later x facts f ascending there so =
    let parts = and_parts (begins_after x facts) (are_ascending facts) ascending in
    let low = behind_first x facts ascending f there in
    let same : after (x ∷ facts) f ≡ after facts f = rw (not_before x f low) refl in
    let rest : facts_from facts (after facts f) ≡ facts_from (x ∷ facts) (after (x ∷ facts) f) =
    sym (skips_first x facts ascending (after facts f) (next_there facts f parts.1))
    ∙ ap (facts_from (x ∷ facts)) (sym same) in
    skips_first x facts ascending (Some f) there ∙ (so ∙ ap (λ (gs : List Fact). f ∷ gs) rest)

one_first : (x : Fact) (facts : List Fact) → IsAscending (x ∷ facts)
    → facts_from (x ∷ facts) (Some x) ≡ x ∷ facts_from (x ∷ facts) (after (x ∷ facts) x)
one_first x facts ascending =
    from_first (x ∷ facts) ascending
    ∙ ap (λ (gs : List Fact). x ∷ gs) (sym (left_behind x facts ascending)
    ∙ ap (facts_from (x ∷ facts)) (sym (next_after (x ∷ facts) ascending 0 x refl)))

-- from a fact of the set on it is this fact, and the facts from the next one on
pub from_step : (facts : List Fact) (f : Fact) → IsAscending facts → IsTrue (has facts f)
    → facts_from facts (Some f) ≡ f ∷ facts_from facts (after facts f)
from_step [] f ascending there = absurd (false≢true there)
from_step (x ∷ facts) f ascending there =
    elim (or_cases (is_same f x) (has facts f) there) [
      | inl same ↦ subst (λ (y : Fact). facts_from (x ∷ facts) (Some y)
          ≡ y ∷ facts_from (x ∷ facts) (after (x ∷ facts) y)) (sym (equal_from_same f x same))
          (one_first x facts ascending)
      | inr rest ↦ one_later x facts f ascending rest (from_step facts f
          (and_parts (begins_after x facts) (are_ascending facts) ascending).1 rest)
    ]

-- the first one, if there is one, is in the set
pub first_there : (facts : List Fact) (next : Option Fact) → next ≡ first facts
    → IfSome next (λ f. IsTrue (has facts f))
first_there [] next e = subst (λ o. IfSome o (λ f. IsTrue (has [] f))) (sym e) tt
first_there (x ∷ facts) next e =
    subst (λ o. IfSome o (λ f. IsTrue (has (x ∷ facts) f))) (sym e)
    (or_left (is_same x x) (has facts x) (same_itself x))

-- one step: the next fact, and those behind it
module _ (facts left : List Fact) (next : Option Fact) (fact : Fact) (ascending : IsAscending facts)
    (is : facts_from facts next ≡ left) (now : next ≡ Some fact)
    (there : IfSome next (λ f. IsTrue (has facts f))) (then : Option Fact)
    (behind : then ≡ after facts fact) where
  pub stepped : left ≡ fact ∷ facts_from facts then
  stepped =
      sym is
      ∙ (ap (facts_from facts) now
      ∙ (from_step facts fact ascending (subst (λ o. IfSome o (λ f. IsTrue (has facts f))) now there)
      ∙ ap (λ o. fact ∷ facts_from facts o) (sym behind)))

  pub still_there : IfSome then (λ f. IsTrue (has facts f))
  still_there =
      subst (λ o. IfSome o (λ f. IsTrue (has facts f))) (sym behind)
      (next_there facts fact ascending)
