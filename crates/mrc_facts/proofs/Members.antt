-- What holds of the members of an ascending list of facts.
use Rattle.std.proofs.Common.{Bor, ◌≡◌, Bool, true, false, cond, List, [], ◌∷◌, Option, Some, None}
use Rattle.std.proofs.Common.{refl, sym, ap, ◌∙◌, subst, inl, inr}
use Rattle.std.specs.Prelude.{IsTrue, not, ◌&&◌, ◌||◌, IfSome, IfNone}
use Rattle.std.specs.BTreeMap.{is_at}
use Rattle.std.specs.List.{AllByRecursion, find}
use Rattle.std.specs.List.Sorted.{IsStrictlySortedBy}
use Rattle.std.specs.BTreeSet.{BTreeSet, contains, IsLowerBound}
use Rattle.std.specs.Option.{option_copied}
use Rattle.std.specs.declared.cmp.Ordering.{Ordering}
use Rattle.std.specs.declared.cmp.Ordering.TheVariants.{Less, Equal, Greater}
use Rattle.std.specs.Ordering.{match_ordering, ordering_reverse, is_lt, is_eq, is_gt}
use Rattle.std.proofs.lemmas.Bool.{and_parts, or_cases, or_left, or_right}
use Rattle.std.proofs.lemmas.Map.Lookups.{btree_set_from_contains}
use Rattle.mrc_base.specs.declared.Fact.{Fact}
use Rattle.mrc_base.specs.contracts.FactOrd.TheImpl as facts
use Rattle.mrc_facts.specs.Order.{fact_cmp, is_before, is_same}
use Rattle.mrc_facts.specs.Sets.{has, with_fact, first, after, begins_after, are_ascending}
use Rattle.mrc_facts.specs.Sets.{IsAscending}
use Rattle.mrc_facts.specs.Laws.{IsLeast, IsNext, NoneAfter, OneList}
use Rattle.mrc_facts.proofs.Derived.{derived}
use Rattle.mrc_facts.proofs.Total.{fact_total, exact, Less-is, same_itself, equal_from_same}
use Rattle.mrc_facts.proofs.Total.{not_before_itself, not_before}

-- a fact before the first of a list in order is before them all
before_all : (f : Fact) (fs : List Fact)
    → IsTrue (begins_after f fs)
    → IsStrictlySortedBy fact_cmp fs
    → AllByRecursion (λ g. fact_cmp f g ≡ Less) fs
unfolding IsStrictlySortedBy
before_all f [] h sorted = tt
before_all f (g ∷ fs) h sorted =
    let less = Less-is (fact_cmp f g) h in
    (less, later f g fs less sorted.0)
  where
    later : (f g : Fact) (fs : List Fact)
        → fact_cmp f g ≡ Less
        → AllByRecursion (λ x. fact_cmp g x ≡ Less) fs
        → AllByRecursion (λ x. fact_cmp f x ≡ Less) fs
    later f g [] less all = tt
    later f g (x ∷ fs) less all = (fact_total.trans f g x less all.0, later f g fs less all.1)

pub sorted : (fs : List Fact) → IsAscending fs → IsStrictlySortedBy fact_cmp fs
unfolding IsStrictlySortedBy
sorted [] h = tt
sorted (f ∷ fs) h =
    let parts = and_parts (begins_after f fs) (are_ascending fs) h in
    let rest = sorted fs parts.1 in
    (before_all f fs parts.0 rest, rest)

-- what holds of each element holds of each member
pub at_member : (P : Fact → Type 0) (fs : List Fact)
    → AllByRecursion P fs
    → (g : Fact)
    → IsTrue (has fs g)
    → P g
at_member P [] all g h = absurd cc
at_member P (f ∷ fs) all g h =
    elim (or_cases (is_same g f) (has fs g) h) [
      | inl same ↦ subst P (sym (equal_from_same g f same)) all.0
      | inr rest ↦ at_member P fs all.1 g rest
    ]

-- none of the facts behind f is before it, nor is f
none_before : (f : Fact) (fs : List Fact)
    → AllByRecursion (λ g. fact_cmp f g ≡ Less) fs
    → AllByRecursion (λ g. is_before g f ≡ false) fs
none_before f [] all = tt
none_before f (g ∷ fs) all = (not_before f g (ap is_lt all.0), none_before f fs all.1)

least_of : (f : Fact) (fs : List Fact) → IsAscending (f ∷ fs) → IsLeast (f ∷ fs) f
unfolding IsStrictlySortedBy
least_of f fs ascending = record {
  member = or_left (is_same f f) (has fs f) (same_itself f);
  least = at_member (λ g. is_before g f ≡ false) (f ∷ fs)
      (not_before_itself f, none_before f fs (sorted (f ∷ fs) ascending).0);
}

pub first_is_least : (fs : List Fact) → IsAscending fs → IfSome (first fs) (IsLeast fs)
first_is_least [] ascending = tt
first_is_least (f ∷ fs) ascending = least_of f fs ascending

next_behind : (f x g : Fact) (fs : List Fact)
    → is_before f x ≡ false
    → IsNext fs f g
    → IsNext (x ∷ fs) f g
next_behind f x g fs not_later next = record {
  member = or_right (is_same g x) (has fs g) next.member;
  later = next.later;
  least = λ h member later. elim (or_cases (is_same h x) (has fs h) member) [
    | inl same ↦ absurd (let e = equal_from_same h x same in let later_x : IsTrue (is_before f x) =
        subst (λ (y : Fact). IsTrue (is_before f y)) e later in cc)
    | inr rest ↦ next.least h rest later
  ];
}

widen : {P Q : Fact → Type 0} → (o : Option Fact) → ((g : Fact) → P g → Q g) → IfSome o P
    → IfSome o Q
widen None wider h = tt
widen (Some g) wider h = wider g h

pub after_is_next : (fs : List Fact) (f : Fact) → IsAscending fs → IfSome (after fs f) (IsNext fs f)
after_is_next [] f ascending = tt
after_is_next (x ∷ fs) f ascending =
    let parts = and_parts (begins_after x fs) (are_ascending fs) ascending in
    elim (is_before f x) as (λ b. is_before f x ≡ b
    → IfSome (cond b (Some x) (find (is_before f) fs)) (IsNext (x ∷ fs) f)) [
      | true ↦ λ e. record {
        member = or_left (is_same x x) (has fs x) (same_itself x);
        later = e;
        least = λ h member later. (least_of x fs ascending).least h member;
      }
      | false ↦ λ e. widen (find (is_before f) fs) (λ g next. next_behind f x g fs e next)
          (after_is_next fs f parts.1)
    ] refl

pub none_after : (fs : List Fact) (f : Fact) → after fs f ≡ None → NoneAfter fs f
none_after [] f e g h = absurd cc
none_after (x ∷ fs) f e g h =
    elim (is_before f x) as (λ b. is_before f x ≡ b → cond b (Some x) (find (is_before f) fs) ≡ None
    → is_before f g ≡ false) [
      | true ↦ λ later none. absurd cc
      | false ↦ λ not_later none. elim (or_cases (is_same g x) (has fs g) h) [
        | inl same ↦ subst (λ (y : Fact). is_before f y ≡ false) (sym (equal_from_same g x same))
            not_later
        | inr rest ↦ none_after fs f none g rest
      ]
    ] refl e

or_again : (a b : Bool) → (a || b) ≡ (a || (a || b))
or_again true b = refl
or_again false b = refl

pub or_swap : (a b c : Bool) → (a || (b || c)) ≡ (b || (a || c))
or_swap true true c = refl
or_swap true false c = refl
or_swap false b c = refl

-- a set has the facts that it had, and the one put into it
pub has-with_fact : (fs : List Fact) (f g : Fact)
    → has (with_fact fs f) g ≡ (is_same g f || has fs g)
has-with_fact [] f g = refl
has-with_fact (x ∷ fs) f g =
    elim (fact_cmp f x) as (λ o. fact_cmp f x ≡ o
    → has (match_ordering o (f ∷ x ∷ fs) (x ∷ fs) (x ∷ with_fact fs f)) g ≡
    (is_same g f || (is_same g x || has fs g))) [
      | Less ↦ λ e. refl
      | Equal ↦ λ e. subst (λ (y : Fact). (is_same g x || has fs g) ≡
          (is_same g y || (is_same g x || has fs g))) (sym (exact f x e))
          (or_again (is_same g x) (has fs g))
      | Greater ↦ λ e. ap (λ b. is_same g x || b) (has-with_fact fs f g)
          ∙ or_swap (is_same g x) (is_same g f) (has fs g)
    ] refl

pub one_list : OneList
one_list fs gs a b same =
    btree_set_from_contains fact_total (record { keys = fs }) (record { keys = gs }) (sorted fs a)
    (sorted gs b) same exact

-- what `after` answers
pub after_answers : (fs : List Fact) (f : Fact) (o : Option Fact)
    → o ≡ after fs f
    → IsAscending fs
    → IfSome o (IsNext fs f)
after_answers fs f o is ascending =
    subst (λ (x : Option Fact). IfSome x (IsNext fs f)) (sym is) (after_is_next fs f ascending)

pub after_lacks : (fs : List Fact) (f : Fact) (o : Option Fact)
    → o ≡ after fs f
    → IfNone o (NoneAfter fs f)
after_lacks fs f None is = none_after fs f (sym is)
after_lacks fs f (Some g) is = tt

not_before_from : (f g : Fact) → is_gt (fact_cmp f g) ≡ false → is_before g f ≡ false
not_before_from f g h = ap is_lt (fact_total.antisymm g f) ∙ (is_lt-reverse (fact_cmp f g) ∙ h)
  where
    is_lt-reverse : (o : Ordering) → is_lt (ordering_reverse o) ≡ is_gt o
    is_lt-reverse Less = refl
    is_lt-reverse Equal = refl
    is_lt-reverse Greater = refl

least_by : (set : BTreeSet Fact) (o : Option (Bor Fact))
    → IfSome o (λ f. IsTrue (contains fact_cmp set f.now))
    → IfSome o (λ f. IsLowerBound fact_cmp set f.now)
    → IfSome (option_copied o) (IsLeast set.keys)
least_by set None member least = tt
least_by set (Some f) member least =
    record { member = member; least = λ g h. not_before_from f.now g (least g h) }

-- what `first` of a `BTreeSet` answers
pub first_answers : (set : BTreeSet Fact) (o : Option (Bor Fact))
    → IfSome o (λ f. IsTrue (contains (facts.cmp-value).it set f.now))
    → IfSome o (λ f. IsLowerBound (facts.cmp-value).it set f.now)
    → IfSome (option_copied o) (IsLeast set.keys)
first_answers set o =
    subst (λ (R : Fact → Fact → Ordering). IfSome o (λ f. IsTrue (contains R set f.now))
    → IfSome o (λ f. IsLowerBound R set f.now) → IfSome (option_copied o) (IsLeast set.keys))
    (sym derived) (least_by set o)

pub same_turned : (f g : Fact) → is_same f g ≡ is_same g f
same_turned f g = sym (ap is_eq (fact_total.antisymm g f) ∙ is_eq-reverse (fact_cmp f g))
  where
    is_eq-reverse : (o : Ordering) → is_eq (ordering_reverse o) ≡ is_eq o
    is_eq-reverse Less = refl
    is_eq-reverse Equal = refl
    is_eq-reverse Greater = refl

without : (a b x : Bool) → a ≡ b → cond a false x ≡ (not b && x)
without true true x e = refl
without true false x e = absurd cc
without false true x e = absurd cc
without false false x e = refl

-- what `remove` of a `BTreeSet` leaves
pub removed : (after_it before : BTreeSet Fact) (f : Fact)
    → ((q : Fact) → contains (facts.cmp-value).it after_it q
    ≡ cond (is_at ((facts.cmp-value).it f) q) false (contains (facts.cmp-value).it before q))
    → (g : Fact)
    → has after_it.keys g ≡ (not (is_same g f) && has before.keys g)
removed after_it before f h g =
    subst (λ (R : Fact → Fact → Ordering). (q : Fact) → contains R after_it q
    ≡ cond (is_at (R f) q) false (contains R before q)) derived h g
    ∙ without (is_same f g) (is_same g f) (has before.keys g) (same_turned f g)
