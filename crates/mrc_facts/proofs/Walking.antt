-- From a fact of an ascending list to the next one.
use Rattle.std.proofs.Common.{◌≡◌, false, ℕ, zero, suc, ◌+◌, ◌-◌, ◌<◌, ◌≤◌, List, [], ◌∷◌, length}
use Rattle.std.proofs.Common.{◌++◌, take, Some, None, refl, ap, sym, subst, ◌∙◌, IsTrue, arith}
use Rattle.std.specs.Prelude.{slice_get, filter, Option, ◌||◌}
use Rattle.std.proofs.lemmas.List.{take_more, take_all, length-append}
use Rattle.std.proofs.lemmas.Option.{get_or_from_slice_get}
use Rattle.std.proofs.lemmas.Bool.{and_parts, or_left, or_right}
use Rattle.mrc_base.specs.declared.Fact.{Fact}
use Rattle.std.specs.Ordering.{is_lt}
use Rattle.std.specs.List.Sorted.{IsStrictlySortedBy}
use Rattle.std.specs.declared.cmp.Ordering.TheVariants.{Less}
use Rattle.mrc_facts.specs.Order.{fact_cmp, is_before, is_same}
use Rattle.mrc_facts.specs.Sets.{has, after, begins_after, are_ascending, IsAscending}
use Rattle.mrc_facts.proofs.Total.{not_before_itself, same_itself}
use Rattle.mrc_facts.proofs.Members.{first_is_least, at_member, sorted, or_swap}

-- the first of those behind f is the next one
next_of_first : (f : Fact) (fs : List Fact)
    → IsAscending (f ∷ fs)
    → after (f ∷ fs) f ≡ slice_get fs 0
next_of_first f [] up = rw (not_before_itself f) refl
next_of_first f (g ∷ fs) up =
    let parts = and_parts (is_before f g) (are_ascending (g ∷ fs)) up in
    rw (not_before_itself f, parts.0) refl

member_at : (fs : List Fact) (i : ℕ) (f : Fact) → slice_get fs i ≡ Some f → IsTrue (has fs f)
member_at [] i f e = absurd cc
member_at (x ∷ fs) zero f e =
    let same : x ≡ f = cc in
    or_left (is_same f x) (has fs f)
    (subst (λ (y : Fact). IsTrue (is_same f y)) (sym same) (same_itself f))
member_at (x ∷ fs) (suc i) f e =
    or_right (is_same f x) (has fs f) (member_at fs i f e)

-- the fact at place i + 1 is the next after the one at place i
pub next_after : (fs : List Fact)
    → IsAscending fs
    → (i : ℕ) (f : Fact)
    → slice_get fs i ≡ Some f
    → after fs f ≡ slice_get fs (i + 1)
next_after [] up i f e = absurd cc
next_after (x ∷ fs) up zero f e =
    let same : x ≡ f = cc in
    subst (λ (y : Fact). after (x ∷ fs) y ≡ slice_get fs 0) same (next_of_first x fs up)
next_after (x ∷ fs) up (suc i) f e =
    let parts = and_parts (begins_after x fs) (are_ascending fs) up in
    let behind = (first_is_least (x ∷ fs) up).least f
    (or_right (is_same f x) (has fs f) (member_at fs i f e)) in
    let rest = next_after fs parts.1 i f e in
    let place : suc i + 1 ≡ suc (i + 1) = omega arith in
    rw (behind, place) rest

-- a place that has something is within the list
place_within : (fs : List Fact) (i : ℕ) (f : Fact) → Some f ≡ slice_get fs i → i < length fs
place_within [] i f e = absurd cc
place_within (x ∷ fs) zero f e = omega arith
place_within (x ∷ fs) (suc i) f e = let h = place_within fs i f e in omega (arith, h)

place_behind : (fs : List Fact) (i : ℕ) → None ≡ slice_get fs i → length fs ≤ i
place_behind [] i e = omega arith
place_behind (x ∷ fs) zero e = absurd cc
place_behind (x ∷ fs) (suc i) e = let h = place_behind fs i e in omega (arith, h)

-- the facts up to a place, with the one that is there
up_to : (fs : List Fact) (i : ℕ) (f : Fact)
    → Some f ≡ slice_get fs i
    → take (i + 1) fs ≡ take i fs ++ f ∷ []
up_to fs i f e =
    take_more fs i f (place_within fs i f e)
    ∙ ap (λ x. take i fs ++ x ∷ []) (get_or_from_slice_get fs i f f (sym e))

-- one more of the list
pub listed_more : (fs list list_then : List Fact) (f : Fact)
    → IsAscending fs
    → list ≡ take (length list) fs
    → Some f ≡ slice_get fs (length list)
    → list_then ≡ list ++ f ∷ []
    → (list_then ≡ take (length list_then) fs) × (after fs f ≡ slice_get fs (length list_then))
listed_more fs list list_then f up so_far at is =
    let longer : length list_then ≡ length list + 1 = ap length is
    ∙ length-append list (f ∷ []) in (
      is ∙ (ap (λ xs. xs ++ f ∷ []) so_far ∙ (sym (up_to fs (length list) f at)
          ∙ ap (λ n. take n fs) (sym longer))),
      next_after fs up (length list) f (sym at) ∙ ap (λ n. slice_get fs n) (sym longer),
    )

-- no more is left
pub listed_all : (fs list : List Fact)
    → list ≡ take (length list) fs
    → None ≡ slice_get fs (length list)
    → list ≡ fs
listed_all fs list so_far at =
    so_far ∙ take_all (length list) fs (place_behind fs (length list) at)

-- each one more makes what is left shorter
pub listed_less : (fs list list_then : List Fact) (f : Fact)
    → Some f ≡ slice_get fs (length list)
    → list_then ≡ list ++ f ∷ []
    → length fs - length list_then < length fs - length list
listed_less fs list list_then f at is =
    let low = place_within fs (length list) f at in
    let longer : length list_then ≡ length list + 1 = ap length is
    ∙ length-append list (f ∷ []) in
    omega (arith, low, longer)

-- the place of the next fact in the list; the end where there is none
abbrev pub place : List Fact → Option Fact → ℕ
place fs None = length fs
place fs (Some f) = length (filter (λ g. is_before g f) fs)

none_before : (x : Fact) (fs : List Fact) → ((g : Fact) → IsTrue (has fs g) → is_before g x ≡ false)
    → filter (λ g. is_before g x) fs ≡ []
none_before x [] none = refl
none_before x (y ∷ fs) none =
    rw (none y (or_left (is_same y y) (has fs y) (same_itself y)))
    (none_before x fs (λ g there. none g (or_right (is_same g y) (has fs g) there)))

behind : (x : Fact) (fs : List Fact) → IsAscending (x ∷ fs) → (g : Fact) → IsTrue (has fs g) → IsTrue (is_before x g)
unfolding IsStrictlySortedBy
behind x fs up g there = ap is_lt (at_member (λ g. fact_cmp x g ≡ Less) fs (sorted (x ∷ fs) up).0 g there)

place_is : (fs : List Fact) → IsAscending fs → (i : ℕ) (f : Fact) → slice_get fs i ≡ Some f
    → place fs (Some f) ≡ i
place_is [] up i f e = absurd cc
place_is (x ∷ fs) up zero f e =
    let same : x ≡ f = cc in
    let least = (first_is_least (x ∷ fs) up).least in
    subst (λ (y : Fact). place (x ∷ fs) (Some y) ≡ 0) same (ap length (none_before x (x ∷ fs) least))
place_is (x ∷ fs) up (suc i) f e =
    let parts = and_parts (begins_after x fs) (are_ascending fs) up in
    let later : IsTrue (is_before x f) = behind x fs up f (member_at fs i f e) in
    let rest = place_is fs parts.1 i f e in
    rw later (ap suc rest)

-- the next fact is the one at its place
abbrev pub IsNextAt : List Fact → Option Fact → Type 0
IsNextAt fs next = next ≡ slice_get fs (place fs next)

at_place : (fs : List Fact) → IsAscending fs → (i : ℕ) (next : Option Fact) → i ≤ length fs → next ≡ slice_get fs i → (place fs next ≡ i) × IsNextAt fs next
at_place fs up i None h e =
    let far = place_behind fs i e in
    let same : length fs ≡ i = omega arith in
    (same, e ∙ ap (λ n. slice_get fs n) (sym same))
at_place fs up i (Some f) h e =
    let same = place_is fs up i f (sym e) in
    (same, e ∙ ap (λ n. slice_get fs n) (sym same))

-- the first one
pub walk_begins : (fs : List Fact) → IsAscending fs → (next : Option Fact) → next ≡ slice_get fs 0 → (place fs next ≡ 0) × IsNextAt fs next
walk_begins fs up next e = at_place fs up 0 next (omega arith) e

-- from one to the next
pub record IsStep (fs : List Fact) (f : Fact) (then : Option Fact) : Type 0 where
  pub moved : place fs then ≡ place fs (Some f) + 1
  pub next : IsNextAt fs then
  pub taken : take (place fs then) fs ≡ take (place fs (Some f)) fs ++ f ∷ []
  pub within : place fs (Some f) < length fs

pub walk_goes_on : (fs : List Fact) → IsAscending fs → (f : Fact) → IsNextAt fs (Some f) → (next : Option Fact) → next ≡ after fs f → IsStep fs f next
walk_goes_on fs up f is next e =
    let i = place fs (Some f) in
    let low = place_within fs i f is in
    let then = at_place fs up (i + 1) next (omega (arith, low)) (e ∙ next_after fs up i f (sym is)) in
    record {
      moved = then.0;
      next = then.1;
      taken = ap (λ n. take n fs) then.0 ∙ up_to fs i f is;
      within = low;
    }

-- all are passed
pub walk_ends : (fs : List Fact) → take (place fs None) fs ≡ fs
walk_ends fs = take_all (length fs) fs (omega arith)

-- the next one stands in the list
pub walk_at : (fs : List Fact) (f : Fact) → IsNextAt fs (Some f) → IsTrue (has fs f)
walk_at fs f is = member_at fs (place fs (Some f)) f (sym is)

-- what a list has with one more at its end
pub has_more : (fs : List Fact) (f g : Fact) → has (fs ++ f ∷ []) g ≡ (is_same g f || has fs g)
has_more [] f g = refl
has_more (x ∷ fs) f g = ap (λ b. is_same g x || b) (has_more fs f g) ∙ or_swap (is_same g x) (is_same g f) (has fs g)

pub walk_less : (fs : List Fact) (f : Fact) (next : Option Fact) → IsStep fs f next → length fs - place fs next < length fs - place fs (Some f)
walk_less fs f next step = let a = step.moved in let b = step.within in omega (arith, a, b)

-- of the next one that a loop looks at

pub at_some : (fs : List Fact) (next : Option Fact) (f : Fact) → next ≡ Some f → IsNextAt fs next → IsNextAt fs (Some f)
at_some fs next f e at = subst (IsNextAt fs) e at

pub taken_some : (fs : List Fact) (next : Option Fact) (f : Fact) → next ≡ Some f → (copy : List Fact) → copy ≡ take (place fs next) fs → copy ≡ take (place fs (Some f)) fs
taken_some fs next f e copy h = h ∙ ap (λ o. take (place fs o) fs) e

pub taken_none : (fs : List Fact) (next : Option Fact) → next ≡ None → (copy : List Fact) → copy ≡ take (place fs next) fs → copy ≡ fs
taken_none fs next e copy h = h ∙ (ap (λ o. take (place fs o) fs) e ∙ walk_ends fs)

pub less_some : (fs : List Fact) (next : Option Fact) (f : Fact) → next ≡ Some f → (after_it : Option Fact) → IsStep fs f after_it → length fs - place fs after_it < length fs - place fs next
less_some fs next f e after_it step = subst (λ o. length fs - place fs after_it < length fs - place fs o) (sym e) (walk_less fs f after_it step)
