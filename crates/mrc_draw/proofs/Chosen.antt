-- Those of an ascending list of facts that pass a test, kept one by one.
use Rattle.std.proofs.Common.{◌≡◌, Bool, true, false, List, [], ◌∷◌, ◌++◌, take, refl, sym, ap}
use Rattle.std.proofs.Common.{◌∙◌, Some, None, Option, IsTrue}
use Rattle.std.specs.Prelude.{◌&&◌, ◌||◌, filter, if◌then◌else◌}
use Rattle.std.specs.Ordering.{is_lt}
use Rattle.std.proofs.lemmas.Bool.{and_parts, and_from}
use Rattle.std.proofs.lemmas.List.Elements.{filter-append}
use Rattle.mrc_base.specs.declared.Fact.{Fact}
use Rattle.mrc_facts.specs.Order.{fact_cmp, is_before, is_same}
use Rattle.mrc_facts.specs.Sets.{has, begins_after, are_ascending, IsAscending}
use Rattle.mrc_facts.proofs.Members.{one_list}
use Rattle.mrc_facts.proofs.Total.{fact_total, Less-is}
use Rattle.mrc_facts.proofs.Walking.{place, IsStep, walk_ends, has_more}

-- what comes before a fact comes before what is behind that
before_behind : (f g : Fact) (fs : List Fact) → IsTrue (is_before f g)
    → begins_after g fs ≡ true → begins_after f fs ≡ true
before_behind f g [] low next = refl
before_behind f g (h ∷ fs) low next =
    ap is_lt (fact_total.trans f g h (Less-is (fact_cmp f g) low) (Less-is (fact_cmp g h) next))

-- the first of those that pass is behind what is before all
begins : (p : Fact → Bool) (f : Fact) (fs : List Fact) → begins_after f fs ≡ true
    → IsAscending fs → begins_after f (filter p fs) ≡ true
begins p f [] low up = refl
begins p f (g ∷ fs) low up =
    let parts = and_parts (begins_after g fs) (are_ascending fs) up in
    let rest = begins p f fs (before_behind f g fs low parts.0) parts.1 in
    chosen (p g) rest
  where
    chosen : (b : Bool) → begins_after f (filter p fs) ≡ true
        → begins_after f (if b then g ∷ filter p fs else filter p fs) ≡ true
    chosen true rest = low
    chosen false rest = rest

-- those that pass are ascending too
ascends : (p : Fact → Bool) (fs : List Fact) → IsAscending fs → IsAscending (filter p fs)
ascends p [] up = refl
ascends p (f ∷ fs) up =
    let parts = and_parts (begins_after f fs) (are_ascending fs) up in
    let rest = ascends p fs parts.1 in
    let first = begins p f fs parts.0 parts.1 in
    chosen (p f) rest first
  where
    chosen : (b : Bool) → IsAscending (filter p fs) → begins_after f (filter p fs) ≡ true
        → IsAscending (if b then f ∷ filter p fs else filter p fs)
    chosen true rest first = and_from (begins_after f (filter p fs)) (are_ascending (filter p fs))
        first rest
    chosen false rest first = rest

-- nothing is kept at first
pub keeps_none : (p : Fact → Bool) (facts : List Fact) (next : Option Fact) (kept : List Fact)
    → place facts next ≡ 0 → kept ≡ []
    → (g : Fact) → has kept g ≡ has (filter p (take (place facts next) facts)) g
keeps_none p facts next kept at is g =
    ap (λ fs. has fs g) is ∙ ap (λ n. has (filter p (take n facts)) g) (sym at)

-- one more fact, if it passes
has_one_more : (p : Fact → Bool) (before : List Fact) (f g : Fact)
    → ((p f && is_same g f) || has (filter p before) g) ≡ has (filter p (before ++ f ∷ [])) g
has_one_more p before f g =
    chosen (p f) ∙ ap (λ fs. has fs g) (sym (filter-append p before (f ∷ [])))
  where
    no_more : (fs : List Fact) → has fs g ≡ has (fs ++ []) g
    no_more [] = refl
    no_more (x ∷ fs) = ap (λ b. is_same g x || b) (no_more fs)

    chosen : (b : Bool) → ((b && is_same g f) || has (filter p before) g)
        ≡ has (filter p before ++ (if b then f ∷ [] else [])) g
    chosen true = sym (has_more (filter p before) f g)
    chosen false = no_more (filter p before)

pub keeps_more : (p : Fact → Bool) (facts : List Fact) (next : Option Fact)
    → (f : Fact) → next ≡ Some f → (behind : Option Fact) → IsStep facts f behind
    → (before after : Fact → Bool)
    → ((g : Fact) → before g ≡ has (filter p (take (place facts next) facts)) g)
    → ((g : Fact) → after g ≡ ((p f && is_same g f) || before g))
    → (g : Fact) → after g ≡ has (filter p (take (place facts behind) facts)) g
keeps_more p facts next f at behind step before after so_far told g =
    let taken = take (place facts (Some f)) facts in
    told g ∙ (ap (λ b. (p f && is_same g f) || b)
    (so_far g ∙ ap (λ o. has (filter p (take (place facts o) facts)) g) at)
    ∙ (has_one_more p taken f g ∙ ap (λ fs. has (filter p fs) g) (sym step.taken)))

-- all are kept that pass, and no other
pub keeps_all : (p : Fact → Bool) (facts : List Fact) (next : Option Fact) → next ≡ None
    → (kept : List Fact) → IsAscending facts → IsAscending kept
    → ((g : Fact) → has kept g ≡ has (filter p (take (place facts next) facts)) g)
    → kept ≡ filter p facts
keeps_all p facts next at kept up up_kept so_far =
    one_list kept (filter p facts) up_kept (ascends p facts up)
    (λ g. so_far g ∙ (ap (λ o. has (filter p (take (place facts o) facts)) g) at
    ∙ ap (λ fs. has (filter p fs) g) (walk_ends facts)))
