-- What the lines about trusted tasks let through is what the rules let through.
use Rattle.std.proofs.Common.{Some, inl, inr, subst, sym, true, ℕ, ◌==◌, ◌≡◌}
use Rattle.std.proofs.lemmas.Bool.{eqb-true, or_cases}
use Rattle.mrc_base.specs.declared.Fact.TheVariants.{Hold}
use Rattle.mrc_base.specs.declared.PortRight.{PortRight}
use Rattle.mrc_model.specs.Rules.{FactSet}
use Rattle.mrc_model.specs.Trust.{may_item, may_on, may_with}
use Rattle.mrc_model.specs.Wiring.{Wiring, may}
use Rattle.mrc_model.specs.World.{Store, World, class_of, task_class}
use Rattle.mrc_model.specs.declared.Item.TheVariants.{Right as RightItem}
use Rattle.mrc_model.specs.declared.Verb.{Verb}
use Rattle.mrc_model.specs.declared.Verb.TheVariants.{Gives, Takes}
use Rattle.mrc_cover.proofs.Kept.{IsTarget}
use Rattle.mrc_cover.proofs.Obeyed.{Obeys, obeys}

module _ (W : Wiring) (G : FactSet) where
  -- a right on a live port that is let through may be moved by its class
  pub item_is_trusted : (s : Store) (v : Verb) (t p c : ℕ) (r : PortRight)
      → class_of s p ≡ Some c → may_item W s v t (RightItem p r) ≡ true → may W v t r c ≡ true
  item_is_trusted s v t p c r is passed = subst (λ o. may_with W v t r o ≡ true) is passed

  -- what t may take from u it may hold (K7); where both are of one class it may so anyway
  pub taken_fact : Obeys W G → (w : World) (t u p c : ℕ) (r : PortRight) → IsTarget W G w t u
      → class_of w.store p ≡ Some c → may_on W w Takes t u (RightItem p r) ≡ true
      → G (Hold (task_class w u) c r) → G (Hold (task_class w t) c r)
  taken_fact obeys w t u p c r is class passed fact =
      elim (or_cases (task_class w t == task_class w u)
      (may_item W w.store Takes (task_class w t) (RightItem p r)) passed) [
        | inl same ↦ subst (λ v. G (Hold v c r)) (sym (eqb-true _ _ same)) fact
        | inr trusted ↦
            obeys.up (item_is_trusted w.store Takes (task_class w t) p c r class trusted) is.acts
            is.class fact
      ]

  -- the same of what t may give to u
  pub given_fact : Obeys W G → (w : World) (t u p c : ℕ) (r : PortRight) → IsTarget W G w t u
      → class_of w.store p ≡ Some c → may_on W w Gives t u (RightItem p r) ≡ true
      → G (Hold (task_class w t) c r) → G (Hold (task_class w u) c r)
  given_fact obeys w t u p c r is class passed fact =
      elim (or_cases (task_class w t == task_class w u)
      (may_item W w.store Gives (task_class w t) (RightItem p r)) passed) [
        | inl same ↦ subst (λ v. G (Hold v c r)) (eqb-true _ _ same) fact
        | inr trusted ↦
            obeys.down (item_is_trusted w.store Gives (task_class w t) p c r class trusted) is.acts
            is.class fact
      ]
