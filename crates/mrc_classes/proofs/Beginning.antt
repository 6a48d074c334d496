-- What tasks hold in the first state, and what the rules without premises conclude.
use Rattle.std.proofs.Common.{◌≡◌, ℕ, ◌+◌, ◌<◌, Bool, List, [], ◌∷◌, ◌++◌, length, take}
use Rattle.std.proofs.Common.{refl, ap, sym, slice_index_or, subst, ◌∙◌, arith, IsTrue, ◌↔◌, ◌⊎◌}
use Rattle.std.proofs.Common.{inl, inr}
use Rattle.std.proofs.lemmas.Bool.{false≢true}
use Rattle.std.proofs.lemmas.List.{take_more}
use Rattle.mrc_base.specs.declared.PortRight.{PortRight}
use Rattle.mrc_base.specs.declared.PortRight.TheVariants.{Receive}
use Rattle.mrc_base.specs.declared.Fact.{Fact}
use Rattle.mrc_base.specs.declared.Fact.TheVariants.{Hold, Carry, Backup}
use Rattle.mrc_model.specs.IsIn.{IsIn, here}
use Rattle.mrc_model.specs.Wiring.{Wiring, classes}
use Rattle.mrc_model.specs.World.{task_class}
use Rattle.mrc_model.specs.First.{first}
use Rattle.mrc_model.specs.Rules.{InRange, Rule, k1, k2}
use Rattle.mrc_model.proofs.Members.{in_left, in_right, in_append}
use Rattle.mrc_model.proofs.FirstHeld.{in_one}
use Rattle.mrc_wiring.specs.FirstState.{HasFirstHolds}
use Rattle.mrc_wiring.proofs.Takers.{same_right_is}
use Rattle.mrc_model.specs.Rights.{same_right}
use Rattle.mrc_facts.specs.Sets.{has}
use Rattle.mrc_classes.specs.Growing.{Added, Only, Below, nothing}
use Rattle.mrc_classes.specs.Following.{IsHeldAtFirst, IsFirstFact, IsListOf}
use Rattle.mrc_classes.specs.Parts.{IsListedHold, IsHoldInRange}
use Rattle.mrc_classes.specs.Places.{FirstAt}
use Rattle.mrc_classes.proofs.Adding.{added_both, added_as}

in_push : (g x : Fact) (xs : List Fact) → IsIn g (xs ++ x ∷ []) → IsIn g xs ⊎ (g ≡ x)
in_push g x xs at = elim (in_append g xs (x ∷ []) at) [
  | inl old ↦ inl old
  | inr new ↦ inr (in_one g x new)
]

-- one more of a list
pub one_listed : (W : Wiring) (list : List Fact) (i : ℕ) (f : Fact)
    → i < length list
    → f ≡ slice_index_or list i f
    → (F G H : Fact → Bool) (b : Bool)
    → (IsTrue b ↔ IsHoldInRange W f)
    → Added F G (IsListedHold W (take i list))
    → Added G H (Only b f)
    → Added F H (IsListedHold W (take (i + 1) list))
one_listed W list i f below is F G H b decides before step =
    added_as F H (λ g. IsListedHold W (take i list) g ⊎ Only b f g)
    (IsListedHold W (take (i + 1) list)) (added_both F G H _ _ before step) there back
  where
    more : take (i + 1) list ≡ take i list ++ f ∷ []
    more = take_more list i f below ∙ ap (λ x. take i list ++ x ∷ []) (sym is)

    there : (g : Fact)
        → IsListedHold W (take i list) g ⊎ Only b f g
        → IsListedHold W (take (i + 1) list) g
    there g (inl x) = record {
      there = subst (λ xs. IsIn g xs) (sym more) (in_left g (take i list) (f ∷ []) x.there);
      within = x.within;
    }
    there g (inr x) =
        subst (λ y. IsListedHold W (take (i + 1) list) y) (sym x.is)
        (record {
          there = subst (λ xs. IsIn f xs) (sym more) (in_right f (take i list) (f ∷ []) here);
          within = decides.0 x.there;
        })

    back : (g : Fact)
        → IsListedHold W (take (i + 1) list) g
        → IsListedHold W (take i list) g ⊎ Only b f g
    back g x = elim (in_push g f (take i list) (subst (λ xs. IsIn g xs) more x.there)) [
      | inl old ↦ inl (record { there = old; within = x.within })
      | inr e ↦ inr (record { there = decides.1 (subst (IsHoldInRange W) e x.within); is = e })
    ]

module _ (W : Wiring) (list : List Fact) (first_holds : HasFirstHolds W list) where
  held_of : (g : Fact) → IsListedHold W list g → IsHeldAtFirst W g
  held_of (Hold t c r) x = record {
    task = t;
    class = c;
    right = r;
    is = refl;
    held = (first_holds t c r).0 x.there;
    in_range = x.within;
  }
  held_of (Carry d c r) x = absurd x.within
  held_of (Backup c d) x = absurd x.within

  of_held : (g : Fact) → IsHeldAtFirst W g → IsListedHold W list g
  of_held g x =
      subst (λ y. IsListedHold W list y) (sym x.is)
      (record {
        there = (first_holds x.task x.class x.right).1 x.held;
        within = subst (λ y. InRange W y) x.is x.in_range;
      })

  -- the holds of the list are those of the first state
  pub held_listed : (facts : List Fact)
      → Added nothing (has facts) (IsListedHold W list)
      → IsListOf (IsHeldAtFirst W) facts
  held_listed facts added g = (
    (λ h. elim (added.new g h) [ inl none ↦ absurd cc | inr at ↦ held_of g at ]),
    (λ at. added.all g (of_held g at)),
  )

-- the rules without premises

pub first_hold_is : (W : Wiring) (g : Fact) → IsHeldAtFirst W g → Rule W 1 [] g
first_hold_is W g x =
    let rule : Rule W 1 [] (Hold (task_class (first W) x.held.task) x.class x.right) = k1
    x.held.task x.held.port x.held.held x.held.port_class in
    let at : Rule W 1 [] (Hold x.task x.class x.right) = subst
    (λ t. Rule W 1 [] (Hold t x.class x.right)) x.held.task_class_is rule in
    subst (λ y. Rule W 1 [] y) (sym x.is) at

module _ (W : Wiring) (S : Fact → Bool) where
  of_first : (t : ℕ) (g : Fact) → t < W.tasks → FirstAt W S t g → IsFirstFact W g
  of_first t g low (inl x) =
      let held = x.at.last in
      subst (λ y. IsFirstFact W y) (sym x.is)
      (record { rule = 1; instance = first_hold_is W (Hold t x.class x.right) held; in_range = held.in_range })
  of_first t g low (inr x) =
      let last = x.at.last in
      subst (λ y. IsFirstFact W y)
      (sym (x.is ∙ (ap (Hold t x.class) (receive x.right last.0) ∙ ap (λ c. Hold t c Receive) last.1)))
      (record {
        rule = 2;
        instance = k2 last.2.0 last.2.1;
        in_range = (low, subst (λ c. c < classes W) last.1 x.there);
      })
    where
      receive : (r : PortRight) → IsTrue (same_right r Receive) → r ≡ Receive
      receive r e = same_right_is r Receive e

  begins : (k : ℕ) (g : Fact) → Rule W k [] g → InRange W g → Below W.tasks (FirstAt W S) g
  begins k g (k1 t p {c} {r} held is) within = record {
    place = task_class (first W) t;
    below = within.0;
    at = inl (record {
      class = c;
      right = r;
      there = within.1;
      is = refl;
      at = record {
        source = 0;
        there = omega arith;
        first = refl;
        last = record {
          task = task_class (first W) t;
          class = c;
          right = r;
          is = refl;
          held = record { task = t; port = p; held = held; port_class = is; task_class_is = refl };
          in_range = within;
        };
      };
    });
  }
  begins k g (k2 {t} {c} kind is) within = record {
    place = t;
    below = within.0;
    at = inr (record {
      class = c;
      right = Receive;
      there = within.1;
      is = refl;
      at = record { source = c; there = within.1; first = refl; last = (refl, refl, (kind, is)) };
    });
  }

  -- what the first two rules conclude, in the rows of all tasks
  pub first_listed : (n : ℕ) (found : List Fact)
      → n ≡ W.tasks
      → Added nothing (has found) (Below n (FirstAt W S))
      → IsListOf (IsFirstFact W) found
  first_listed n found all added g =
      let whole = subst (λ m. Added nothing (has found) (Below m (FirstAt W S))) all added in (
        (λ h. elim (whole.new g h) [
          | inl none ↦ absurd (false≢true none)
          | inr x ↦ of_first x.place g x.below x.at
        ]),
        (λ x. whole.all g (begins x.rule g x.instance x.in_range)),
      )
