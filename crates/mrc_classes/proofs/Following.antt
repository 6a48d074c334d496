-- What follows from a fact with those of a set stands at the places, with the fact as the only new
-- one.
use Rattle.std.proofs.Common.{Bool, List, [], ◌∷◌, IsTrue, ◌≡◌, ◌⊎◌, inl, inr}
use Rattle.std.proofs.Common.{refl, sym, subst}
use Rattle.std.specs.Prelude.{◌||◌}
use Rattle.std.specs.List.{AllByRecursion}
use Rattle.std.proofs.lemmas.Bool.{or_cases, or_left, or_right}
use Rattle.mrc_base.specs.declared.Fact.{Fact}
use Rattle.mrc_model.specs.Wiring.{Wiring, classes}
use Rattle.mrc_model.specs.Rules.{Has, InRange}
use Rattle.mrc_facts.specs.Order.{is_same}
use Rattle.mrc_facts.specs.Sets.{has}
use Rattle.mrc_facts.proofs.Total.{equal_from_same, same_itself}
use Rattle.mrc_classes.specs.Growing.{Added, Below}
use Rattle.mrc_classes.specs.Following.{IsConsequence, IsListOf}
use Rattle.mrc_classes.specs.Places.{AtPlace}
use Rattle.mrc_classes.proofs.Placing.{to_place, from_place}

-- for each element
pub all_as : (P Q : Fact → Type 0) (fs : List Fact)
    → ((g : Fact) → P g → Q g)
    → AllByRecursion P fs
    → AllByRecursion Q fs
all_as P Q [] f all = tt
all_as P Q (x ∷ xs) f all = (f x all.0, all_as P Q xs f all.1)

-- the other premises are in another set
consequence_as : (W : Wiring) (S T : Fact → Bool) (p g : Fact)
    → ((q : Fact) → IsTrue (S q) → (q ≡ p) ⊎ IsTrue (T q))
    → IsConsequence W (Has S) p g
    → IsConsequence W (Has T) p g
consequence_as W S T p g other x = record {
  rule = x.rule;
  follows = record {
    premises = x.follows.premises;
    rule = x.follows.rule;
    among = x.follows.among;
    known = all_as (λ q. InRange W q × ((q ≡ p) ⊎ Has S q))
        (λ q. InRange W q × ((q ≡ p) ⊎ Has T q)) x.follows.premises
        (λ q h. (h.0, elim h.1 [ inl e ↦ inl e | inr there ↦ other q there ]))
        x.follows.known;
    in_range = x.follows.in_range;
  };
}

-- the fact is put into the set, and it is the only new one
module _ (W : Wiring) (S All New : Fact → Bool) (p : Fact)
    (put : (g : Fact) → All g ≡ (is_same g p || S g))
    (only : (g : Fact) → New g ≡ is_same g p) where
  among : (f : Fact) → IsTrue (New f) → IsTrue (All f)
  among f new =
      subst IsTrue (sym (put f)) (or_left (is_same f p) (S f) (subst IsTrue (only f) new))

  to : (g : Fact) → IsConsequence W (Has S) p g → Below (classes W) (AtPlace W All New (has [])) g
  to g x =
      let at = to_place W All New (has []) among p g (subst IsTrue (sym (only p)) (same_itself p)) refl
      (consequence_as W S All p g
      (λ q there. inr (subst IsTrue (sym (put q)) (or_right (is_same q p) (S q) there))) x) in
      record { place = at.place; below = at.below; at = at.at }

  back : (g : Fact) → Below (classes W) (AtPlace W All New (has [])) g → IsConsequence W (Has S) p g
  back g x =
      let f = from_place W All New (has []) among x.place g x.at in
      let e = equal_from_same f.premise p (subst IsTrue (only f.premise) f.new) in
      consequence_as W All S p g
      (λ q there. elim (or_cases (is_same q p) (S q) (subst IsTrue (put q) there)) [
        | inl same ↦ inl (equal_from_same q p same)
        | inr old ↦ inr old
      ])
      (subst (λ y. IsConsequence W (Has All) y g) e f.consequence)

  pub places_listed : (found : List Fact)
      → Added (has []) (has found) (Below (classes W) (AtPlace W All New (has [])))
      → IsListOf (IsConsequence W (Has S) p) found
  places_listed found added g = (
    (λ h. elim (added.new g h) [ inl none ↦ absurd cc | inr at ↦ back g at ]),
    (λ x. added.all g (to g x)),
  )
