-- The keys of a `BTreeSet` of facts, in the words of sets of facts.
use Rattle.std.proofs.Common.{Bor, ◌≡◌, Bool, true, false, cond, List, [], ◌∷◌, Option, Some, None}
use Rattle.std.proofs.Common.{refl, ap, sym, ◌∙◌, subst}
use Rattle.std.specs.Prelude.{IsTrue, ◌&&◌, filter, MatchOption}
use Rattle.std.specs.Option.{option_copied}
use Rattle.std.specs.List.{AllByRecursion, slice_get}
use Rattle.std.specs.List.Sorted.{IsStrictlySortedBy}
use Rattle.std.specs.declared.cmp.Ordering.{Ordering}
use Rattle.std.specs.declared.cmp.Ordering.TheVariants.{Less}
use Rattle.std.specs.declared.ops.Bound.TheVariants.{Excluded, Unbounded}
use Rattle.std.specs.Ordering.{match_ordering, is_lt}
use Rattle.std.specs.BTreeSet.{insert_key}
use Rattle.std.specs.BTreeMap.Range.{range_contains}
use Rattle.std.proofs.Math.Bool.{and-true}
use Rattle.mrc_base.specs.declared.Fact.{Fact}
use Rattle.mrc_base.specs.contracts.FactOrd.TheImpl as facts
use Rattle.mrc_facts.specs.Order.{fact_cmp, is_before}
use Rattle.mrc_facts.specs.Sets.{with_fact, after, begins_after, are_ascending, IsAscending}
use Rattle.mrc_facts.proofs.Derived.{derived}

insert_key_at : (fs : List Fact) (f : Fact) → insert_key fact_cmp fs f ≡ with_fact fs f
insert_key_at [] f = refl
insert_key_at (g ∷ fs) f =
    ap (λ (x : List Fact). match_ordering (fact_cmp f g) (f ∷ g ∷ fs) (g ∷ fs) (g ∷ x))
    (insert_key_at fs f)

-- what `insert` leaves
pub inserted : (fs : List Fact) (f : Fact) → insert_key (facts.cmp-value).it fs f ≡ with_fact fs f
inserted fs f = ap (λ (R : Fact → Fact → Ordering). insert_key R fs f) derived ∙ insert_key_at fs f

first_is_after : (f : Fact) (fs : List Fact)
    → AllByRecursion (λ g. fact_cmp f g ≡ Less) fs
    → IsTrue (begins_after f fs)
first_is_after f [] all = refl
first_is_after f (g ∷ fs) all = subst (λ (o : Ordering). IsTrue (is_lt o)) (sym all.0) refl

both : (a b : Bool) → IsTrue a → IsTrue b → IsTrue (a && b)
both true true x y = refl
both true false x y = y
both false b x y = x

ascending_at : (fs : List Fact) → IsStrictlySortedBy fact_cmp fs → IsAscending fs
unfolding IsStrictlySortedBy
ascending_at [] sorted = refl
ascending_at (f ∷ fs) sorted =
    both (begins_after f fs) (are_ascending fs) (first_is_after f fs sorted.0)
    (ascending_at fs sorted.1)

-- the keys ascend
pub ascending : (fs : List Fact) → IsStrictlySortedBy (facts.cmp-value).it fs → IsAscending fs
ascending fs sorted =
    ascending_at fs (subst (λ (R : Fact → Fact → Ordering). IsStrictlySortedBy R fs) derived sorted)

first_of_filter : (f : Fact) (fs : List Fact)
    → slice_get (filter (λ g. is_before f g && true) fs) 0 ≡ after fs f
first_of_filter f [] = refl
first_of_filter f (g ∷ fs) =
    rw (and-true (is_before f g)) (elim (is_before f g) as
    (λ b. slice_get (cond b (g ∷ filter (λ g. is_before f g && true) fs)
    (filter (λ g. is_before f g && true) fs)) 0 ≡ cond b (Some g) (after fs f)) [
      | true ↦ refl
      | false ↦ first_of_filter f fs
    ])

-- what the range behind f begins with
pub range_after : (fs : List Fact) (f : Fact)
    → slice_get (filter (range_contains (facts.cmp-value).it (Excluded f) Unbounded) fs) 0 ≡ after
    fs f
range_after fs f =
    ap (λ (R : Fact → Fact → Ordering). slice_get
    (filter (range_contains R (Excluded f) Unbounded) fs) 0) derived ∙ first_of_filter f fs

-- what `next` answers, of the list that is left
pub next_is : (o : Option (Bor Fact)) (left after_it : List Fact)
    → MatchOption o ((left ≡ []) × (after_it ≡ [])) (λ x. left ≡ x.now ∷ after_it)
    → option_copied o ≡ slice_get left 0
next_is None left after_it step = ap (λ (xs : List Fact). slice_get xs 0) (sym step.0)
next_is (Some x) left after_it step = ap (λ (xs : List Fact). slice_get xs 0) (sym step)
