-- Facts without the barred ones, and rounds that never conclude these.
use Rattle.std.proofs.Common.{◌≡◌, ℕ, ◌+◌, ◌<◌, Bool, true, false, List, [], ◌∷◌, ◌++◌, refl, sym}
use Rattle.std.proofs.Common.{subst, ◌∙◌, IsTrue, ◌⊎◌, inl, inr, take, length, get_or}
use Rattle.std.specs.Prelude.{not, ◌&&◌, ◌||◌}
use Rattle.std.proofs.lemmas.Bool.{or_cases, and_parts, false≢true}
use Rattle.std.proofs.lemmas.List.{take_more}
use Rattle.mrc_base.specs.declared.Fact.{Fact}
use Rattle.mrc_model.specs.Wiring.{Wiring}
use Rattle.mrc_facts.specs.Order.{is_same}
use Rattle.mrc_facts.specs.Sets.{has, IsAscending}
use Rattle.mrc_classes.specs.Following.{IsFirstFact}
use Rattle.mrc_closure.specs.Barred.{IsWithout, IsBarredRound}
use Rattle.mrc_closure.specs.Merging.{Merged}
use Rattle.mrc_closure.proofs.Cuts.{has_append}
use Rattle.mrc_closure.proofs.Dealing.{from_alone}
use Rattle.mrc_closure.proofs.Deriving.{IsOrdered, order_begun, order_gone_on}

-- removing

-- what is among the first n + 1 facts is among the first n, or is the next one
has_next : (facts : List Fact) (n : ℕ) (next g : Fact)
    → n < length facts
    → next ≡ get_or facts n next
    → IsTrue (has (take (n + 1) facts) g)
    → IsTrue (has (take n facts) g) ⊎ IsTrue (is_same g next)
has_next facts n next g within is h =
    elim (has_append (take n facts) (get_or facts n next ∷ []) g
    (subst (λ fs. IsTrue (has fs g)) (take_more facts n next within) h)) [
      | inl earlier ↦ inl earlier
      | inr at ↦ elim (or_cases (is_same g (get_or facts n next)) false at) [
        | inl same ↦ inr (subst (λ x. IsTrue (is_same g x)) (sym is) same)
        | inr none ↦ absurd (false≢true none)
      ]
    ]

-- the facts have fewer than before, and none of the barred ones
pub record IsFewer (barred before facts : List Fact) : Type 0 where
  pub fewer : (g : Fact) → IsTrue (has facts g) → IsTrue (has before g)
  pub without : IsWithout barred facts

pub fewer_none : (facts : List Fact) → IsFewer [] facts facts
fewer_none facts = record { fewer = λ g h. h; without = λ g none. absurd (false≢true none) }

not_same : (b : Bool) → IsTrue b → (c : Bool) → (not b && c) ≡ false
not_same true h c = refl
not_same false h c = absurd (false≢true h)

and_none : (b c : Bool) → c ≡ false → (not b && c) ≡ false
and_none true c e = refl
and_none false c e = e

pub fewer_more : (barred before facts after : List Fact) (n : ℕ) (next : Fact)
    → n < length barred
    → next ≡ get_or barred n next
    → ((g : Fact) → has after g ≡ (not (is_same g next) && has facts g))
    → IsFewer (take n barred) before facts
    → IsFewer (take (n + 1) barred) before after
fewer_more barred before facts after n next within is gone x = record {
  fewer = λ g h. x.fewer g
      (and_parts (not (is_same g next)) (has facts g) (subst IsTrue (gone g) h)).1;
  without = λ g at. gone g ∙ elim (has_next barred n next g within is at) [
    | inl earlier ↦ and_none (is_same g next) (has facts g) (x.without g earlier)
    | inr same ↦ not_same (is_same g next) same (has facts g)
  ];
}

-- rounds

-- the facts of the rounds so far, of which none is barred
pub record IsBarring (W : Wiring) (barred facts order new : List Fact) : Type 0 where
  pub ordered : IsOrdered W facts order new
  pub without : IsWithout barred facts

or_none : (b c : Bool) → b ≡ false → c ≡ false → (b || c) ≡ false
or_none true c e f = e
or_none false c e f = f

without_both : (barred before found facts new : List Fact)
    → Merged before found facts new
    → IsWithout barred before
    → IsWithout barred found
    → IsWithout barred facts
without_both barred before found facts new m one other g h =
    m.members g ∙ or_none (has before g) (has found g) (one g h) (other g h)

pub barring_begun : (W : Wiring) (barred before first facts order new : List Fact)
    → before ≡ []
    → order ≡ []
    → ((g : Fact) → IsTrue (has first g) → IsFirstFact W g)
    → IsWithout barred first
    → Merged before first facts new
    → IsBarring W barred facts order new
barring_begun W barred before first facts order new none empty begins without m = record {
  ordered = order_begun W before first facts order new none empty begins m;
  without = without_both barred before first facts new m
      (λ g h. subst (λ fs. has fs g ≡ false) (sym none) refl) without;
}

pub barring_gone_on : (W : Wiring) (barred facts order new facts_then order_then new_then : List Fact)
    → IsBarring W barred facts order new
    → IsAscending new
    → IsBarredRound W barred facts new facts_then new_then
    → order_then ≡ order ++ new
    → IsBarring W barred facts_then order_then new_then
barring_gone_on W barred facts order new facts_then order_then new_then x ascending r is = record {
  ordered = subst (λ fs. IsOrdered W facts_then fs new_then) (sym is)
      (order_gone_on W facts order new x.ordered ascending r.found facts_then new_then
      (λ g h. (from_alone W facts new r.all x.ordered.new_facts r.follow g).0 (r.fewer g h))
      r.merged);
  without = without_both barred facts r.found facts_then new_then r.merged x.without r.without;
}
