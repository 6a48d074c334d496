-- Counts of names and marks, with one more right.
use Rattle.std.proofs.Common.{◌≡◌, ◌⊎◌, inl, inr, ℕ, ◌+◌, ◌<◌, Bool, true, false, List}
use Rattle.std.proofs.Common.{[]}
use Rattle.std.proofs.Common.{length, get_or, refl, ap, sym, ◌∙◌, arith, ◌==◌, ◌||◌}
use Rattle.std.proofs.Common.{not, subst, get_or-set_other, replicate}
use Rattle.std.proofs.lemmas.Grind.{get_or-set_at}
use Rattle.std.proofs.lemmas.List.{get_or-replicate}
use Rattle.std.specs.Prelude.{◌&&◌, slice_index, slice_index_or, slice_set}
use Rattle.std.specs.List.{list_any}
use Rattle.std.proofs.lemmas.Bool.{eq-eqb, eqb-true, eqb-false}
use Rattle.std.proofs.lemmas.Option.{slice_get-get_or}
use Rattle.std.proofs.Math.Bool.{or-false, or-true}
use mir.Val.{bool_byte}
use Rattle.mrc_base.specs.declared.PortRight.{PortRight}
use Rattle.mrc_base.specs.declared.PortRight.TheVariants.{Send, Receive, SendOnce}
use Rattle.mrc_model.specs.Rights.{is_once}
use Rattle.mrc_model.specs.Breach.{Holding}
use Rattle.mrc_model.specs.FirstHoldings.{names_given, is_named, one_if}
use Rattle.mrc_wiring.specs.State.{Given, IsGiven, GivesMore, HasPlaces, held_more, mark_place}
use Rattle.mrc_wiring.specs.State.{marks_with}
use Rattle.mrc_wiring.proofs.Lines.{held, names_more, names_other, any_end}

-- one of two numbers or another
pub equal_or_not : (a b : ℕ) → (a ≡ b) ⊎ (a ≡ b → ⊥)
equal_or_not a b = elim (a == b) as (λ v. (a == b) ≡ v → (a ≡ b) ⊎ (a ≡ b → ⊥)) [
  | true ↦ λ e. inl (eqb-true a b e)
  | false ↦ λ e. inr (eqb-false a b e)
] refl

-- how many names there are with the right
pub count_is : (given : Given) (hs : List Holding) (t p : ℕ) (right : PortRight) (new : Bool)
    → IsGiven hs given
    → t < 64
    → p < 320
    → new ≡ (is_once right || not (slice_index_or given.marks (mark_place t p) false))
    → slice_index given.counts t + one_if new ≡ names_given t [] (held_more hs t p right)
count_is given hs t p right new is low near e =
    let counted = is.counted t low in
    let marked = is.marked t p low near in
    let more = names_more t p right hs in
    let same : one_if new ≡ one_if (is_once right || not (list_any (is_named t p) hs)) = ap one_if e
    ∙ ap (λ b. one_if (is_once right || not b)) marked in
    omega arith

-- the counts with the right
counts_after : (given : Given) (hs : List Holding) (t p : ℕ) (right : PortRight) (value : ℕ)
    → IsGiven hs given
    → HasPlaces given
    → t < 64
    → value ≡ names_given t [] (held_more hs t p right)
    → (u : ℕ)
    → u < 64
    → slice_index (slice_set given.counts t value) u ≡ names_given u [] (held_more hs t p right)
counts_after given hs t p right value is places low e u less = elim (equal_or_not t u) [
  | inl same ↦
      let at : t < length given.counts = omega (arith, places.0) in
      get_or-set_at given.counts t u value 0 (sym same) at ∙ e
      ∙ ap (λ x. names_given x [] (held_more hs t p right)) same
  | inr other ↦
      get_or-set_other given.counts t u value 0 (λ f. other (sym f)) ∙ is.counted u less
      ∙ sym (names_other u t p right hs other)
]

-- a task and a port have a place of their own
place_apart : (t p u q : ℕ)
    → p < 320
    → q < 320
    → mark_place u q ≡ mark_place t p
    → (t ≡ u) × (p ≡ q)
place_apart t p u q less few e = (omega arith, omega arith)

and_false : (a b : Bool) → (b ≡ true → a ≡ true → ⊥) → (a && b) ≡ false
and_false true true h = absurd (h refl refl)
and_false true false h = refl
and_false false b h = refl

-- the mark of a right that stands under a name
mark_set : (given : Given) (hs : List Holding) (t p : ℕ) (right : PortRight)
    → IsGiven hs given
    → HasPlaces given
    → t < 64
    → p < 320
    → is_once right ≡ false
    → (u q : ℕ)
    → u < 64
    → q < 320
    → slice_index_or (slice_set given.marks (mark_place t p) true) (mark_place u q) false
    ≡ list_any (is_named u q) (held_more hs t p right)
mark_set given hs t p right is places low near plain u q less few =
    elim (equal_or_not (mark_place u q) (mark_place t p)) [
      | inl same ↦
          let apart = place_apart t p u q near few same in
          let at : mark_place t p < length given.marks = omega (arith, places.1) in
          let named : is_named u q (held t p right) ≡ true = rw (
            plain,
            eq-eqb t u apart.0,
            eq-eqb
                p q apart.1,
          ) refl in
          get_or-set_at given.marks (mark_place t p) (mark_place u q) true false same at
          ∙ sym (any_end (is_named u q) hs (held t p right)
          ∙ ap (λ b. list_any (is_named u q) hs || b) named ∙ or-true (list_any (is_named u q) hs))
      | inr other ↦
          let unnamed : is_named u q (held t p right) ≡ false = rw plain (and_false (t == u) (p ==
          q) (λ f g. other (let e = eqb-true t u g in let z = eqb-true p q f in omega arith)))
          in
          get_or-set_other given.marks (mark_place t p) (mark_place u q) true false other
          ∙ is.marked u q less few
          ∙ sym (any_end (is_named u q) hs (held t p right)
          ∙ ap (λ b. list_any (is_named u q) hs || b) unnamed
          ∙ or-false (list_any (is_named u q) hs))
    ]

-- the marks with the right
marks_after : (given : Given) (hs : List Holding) (t p : ℕ) (right : PortRight)
    → IsGiven hs given
    → HasPlaces given
    → t < 64
    → p < 320
    → (u q : ℕ) → u < 64 → q < 320
    → slice_index_or (marks_with given.marks t p right) (mark_place u q) false
    ≡ list_any (is_named u q) (held_more hs t p right)
marks_after given hs t p Send is places low near u q less few =
    mark_set given hs t p Send is places low near refl u q less few
marks_after given hs t p Receive is places low near u q less few =
    mark_set given hs t p Receive is places low near refl u q less few
marks_after given hs t p SendOnce is places low near u q less few =
    is.marked u q less few
    ∙ sym (any_end (is_named u q) hs (held t p SendOnce) ∙ or-false (list_any (is_named u q) hs))

-- one more right
pub given_more : (old new : Given) (t p : ℕ) (right : PortRight) (value : ℕ)
    → HasPlaces old
    → t < 64
    → p < 320
    → ((hs : List Holding) → IsGiven hs old → value ≡ names_given t [] (held_more hs t p right))
    → new ≡ record {
      counts = slice_set old.counts t value;
      marks = marks_with old.marks t p right;
    }
    → GivesMore old t p right new
given_more old new t p right value places low near e same hs is =
    subst (IsGiven (held_more hs t p right)) (sym same) record {
      counted = counts_after old hs t p right value is places low (e hs is);
      marked = marks_after old hs t p right is places low near;
    }

-- a number that a test makes
pub one_is : (b : Bool) → bool_byte b ≡ one_if b
one_is true = refl
one_is false = refl

-- what is read within a list hangs on the list alone
pub same_default : {X : Type 0} (xs : List X) (i : ℕ) (d e : X)
    → i < length xs
    → get_or xs i d ≡ get_or xs i e
same_default xs i d e less =
    let one = slice_get-get_or xs i d less in
    let other = slice_get-get_or xs i e less in
    cc

-- nothing is given yet
pub given_nothing : (given : Given)
    → ((k : ℕ) → k < 64 → slice_index given.counts k ≡ 0)
    → ((k : ℕ) → k < 20480 → slice_index_or given.marks k false ≡ false)
    → IsGiven [] given
given_nothing given counts marks = record {
  counted = counts;
  marked = λ t p low near. marks (mark_place t p) (omega arith);
}

-- a list that has one value in all places
pub replicated : {X : Type 0} (n : ℕ) (xs : List X) (d : X)
    → xs ≡ replicate n d
    → (k : ℕ)
    → k < n
    → get_or xs k d ≡ d
replicated n xs d e k low = ap (λ ys. get_or ys k d) e ∙ get_or-replicate n k d d low
