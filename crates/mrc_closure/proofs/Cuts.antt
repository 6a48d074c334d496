-- Where a list is cut at one of its elements, and the members of lists of facts.
use Rattle.std.proofs.Common.{◌≡◌, List, [], ◌∷◌, ◌++◌, refl, sym, ap, subst, ◌∙◌, IsTrue, ◌⊎◌}
use Rattle.std.proofs.Common.{inl, inr, take, Option, Some, None, append_assoc}
use Rattle.std.specs.Ordering.{is_lt}
use Rattle.std.specs.List.Sorted.{IsStrictlySortedBy}
use Rattle.std.specs.declared.cmp.Ordering.TheVariants.{Less}
use Rattle.std.proofs.lemmas.Bool.{and_parts, or_cases, or_left, or_right, true≢false}
use Rattle.mrc_base.specs.declared.Fact.{Fact}
use Rattle.mrc_facts.specs.Order.{fact_cmp, is_before, is_same}
use Rattle.mrc_facts.specs.Sets.{has, begins_after, are_ascending, IsAscending}
use Rattle.mrc_facts.proofs.Members.{at_member, sorted}
use Rattle.mrc_facts.proofs.Total.{equal_from_same, not_before_itself, same_itself}
use Rattle.mrc_facts.proofs.Walking.{place, walk_ends, IsStep}
use Rattle.mrc_closure.specs.Orders.{IsOnce}

pub cut_none : {X : Type 0} → (before : List X) (x : X) (behind : List X)
    → [] ≡ before ++ x ∷ behind
    → ⊥
cut_none [] x behind e = absurd cc
cut_none (y ∷ before) x behind e = absurd cc

-- the cut is in the first of the two lists
pub record IsCutLeft {X : Type 0} (xs before : List X) (x : X) : Type 0 where
  pub rest : List X
  pub is : xs ≡ before ++ x ∷ rest

-- the cut is in the second of the two lists
pub record IsCutRight {X : Type 0} (xs ys before : List X) (x : X) (behind : List X)
    : Type 0 where
  pub between : List X
  pub start : before ≡ xs ++ between
  pub is : ys ≡ between ++ x ∷ behind

pub cut_append : {X : Type 0} → (xs ys before : List X) (x : X) (behind : List X)
    → xs ++ ys ≡ before ++ x ∷ behind
    → IsCutLeft xs before x ⊎ IsCutRight xs ys before x behind
cut_append [] ys before x behind e = inr (record { between = before; start = refl; is = e })
cut_append (z ∷ xs) ys [] x behind e =
    let same : z ≡ x = cc in
    inl (record { rest = xs; is = ap (λ y. y ∷ xs) same })
cut_append (z ∷ xs) ys (b ∷ before) x behind e =
    let same : z ≡ b = cc in
    let rest : xs ++ ys ≡ before ++ x ∷ behind = cc in
    elim (cut_append xs ys before x behind rest) [
      | inl at ↦ inl (record {
        rest = at.rest;
        is = ap (λ y. y ∷ xs) same ∙ ap (λ zs. b ∷ zs) at.is;
      })
      | inr at ↦ inr (record {
        between = at.between;
        start = ap (λ y. y ∷ before) (sym same) ∙ ap (λ zs. z ∷ zs) at.start;
        is = at.is;
      })
    ]

-- a cut of a list with one more element: in the list, or at the element
pub cut_push : {X : Type 0} → (xs : List X) (y : X) (before : List X) (x : X) (behind : List X)
    → xs ++ y ∷ [] ≡ before ++ x ∷ behind
    → IsCutLeft xs before x ⊎ ((before ≡ xs) × (x ≡ y))
cut_push {X} xs y before x behind e =
    elim (cut_append xs (y ∷ []) before x behind e) [
      | inl at ↦ inl at
      | inr at ↦ inr (at_end at.between at.start at.is)
    ]
  where
    append_none : (zs : List X) → zs ++ [] ≡ zs
    append_none [] = refl
    append_none (z ∷ zs) = ap (λ ws. z ∷ ws) (append_none zs)

    at_end : (between : List X)
        → before ≡ xs ++ between
        → y ∷ [] ≡ between ++ x ∷ behind
        → (before ≡ xs) × (x ≡ y)
    at_end [] start is = (start ∙ append_none xs, cc)
    at_end (z ∷ between) start is =
        let none : [] ≡ between ++ x ∷ behind = cc in
        absurd (cut_none between x behind none)

-- what is before a cut of a list stands there too where the list is longer
pub cut_longer : {X : Type 0} → (xs ys before : List X) (x : X) (rest : List X)
    → xs ≡ before ++ x ∷ rest
    → xs ++ ys ≡ before ++ x ∷ (rest ++ ys)
cut_longer {X} xs ys before x rest e =
    ap (λ zs. zs ++ ys) e ∙ go before
  where
    go : (zs : List X) → (zs ++ x ∷ rest) ++ ys ≡ zs ++ x ∷ (rest ++ ys)
    go [] = refl
    go (z ∷ zs) = ap (λ ws. z ∷ ws) (go zs)

-- the facts of a set that are left, behind those of a list

pub left_more : (list longer all left rest : List Fact) (f : Fact)
    → left ≡ f ∷ rest
    → longer ≡ list ++ f ∷ []
    → list ++ left ≡ all
    → longer ++ rest ≡ all
left_more list longer all left rest f is pushed so_far =
    ap (λ fs. fs ++ rest) pushed
    ∙ (append_assoc list (f ∷ []) rest ∙ (ap (λ fs. list ++ fs) (sym is) ∙ so_far))

pub left_none : (list all left : List Fact)
    → left ≡ []
    → list ++ left ≡ all
    → list ≡ all
left_none list all left none so_far =
    sym (append-none list) ∙ (ap (λ fs. list ++ fs) (sym none) ∙ so_far)
  where
    append-none : (fs : List Fact) → fs ++ [] ≡ fs
    append-none [] = refl
    append-none (f ∷ fs) = ap (λ gs. f ∷ gs) (append-none fs)

-- members

pub has_append : (fs gs : List Fact) (g : Fact)
    → IsTrue (has (fs ++ gs) g)
    → IsTrue (has fs g) ⊎ IsTrue (has gs g)
has_append [] gs g h = inr h
has_append (f ∷ fs) gs g h =
    elim (or_cases (is_same g f) (has (fs ++ gs) g) h) [
      | inl same ↦ inl (or_left (is_same g f) (has fs g) same)
      | inr rest ↦ elim (has_append fs gs g rest) [
        | inl at ↦ inl (or_right (is_same g f) (has fs g) at)
        | inr at ↦ inr at
      ]
    ]

pub has_left : (fs gs : List Fact) (g : Fact) → IsTrue (has fs g) → IsTrue (has (fs ++ gs) g)
has_left [] gs g h = absurd cc
has_left (f ∷ fs) gs g h =
    elim (or_cases (is_same g f) (has fs g) h) [
      | inl same ↦ or_left (is_same g f) (has (fs ++ gs) g) same
      | inr rest ↦ or_right (is_same g f) (has (fs ++ gs) g) (has_left fs gs g rest)
    ]

pub has_right : (fs gs : List Fact) (g : Fact) → IsTrue (has gs g) → IsTrue (has (fs ++ gs) g)
has_right [] gs g h = h
has_right (f ∷ fs) gs g h =
    or_right (is_same g f) (has (fs ++ gs) g) (has_right fs gs g h)

-- no fact stands twice in an ascending list
pub once_ascending : (fs : List Fact) → IsAscending fs → IsOnce fs
unfolding IsStrictlySortedBy
once_ascending fs up [] f later e h = absurd cc
once_ascending [] up (x ∷ earlier) f later e h = absurd cc
once_ascending (y ∷ fs) up (x ∷ earlier) f later e h =
    let same : y ≡ x = cc in
    let rest : fs ≡ earlier ++ f ∷ later = cc in
    let there : IsTrue (has fs f) = subst (λ gs. IsTrue (has gs f)) (sym rest)
    (has_right earlier (f ∷ later) f (or_left (is_same f f) (has later f) (same_itself f))) in
    elim (or_cases (is_same f x) (has earlier f) h) [
      | inl again ↦ apart y f (ap is_lt
          (at_member (λ g. fact_cmp y g ≡ Less) fs (sorted (y ∷ fs) up).0 f there))
          (equal_from_same f x again ∙ sym same)
      | inr before ↦ once_ascending fs (and_parts (begins_after y fs) (are_ascending fs) up).1
          earlier f later rest before
    ]
  where
    apart : (a b : Fact) → IsTrue (is_before a b) → b ≡ a → ⊥
    apart a b low e =
        true≢false (sym (subst (λ (z : Fact). IsTrue (is_before a z)) e low) ∙ not_before_itself a)
