-- Steps of a chain, one after the other.
use Rattle.std.proofs.Common.{◌≡◌, ℕ, zero, suc, ◌-◌, Bool, List, [], ◌∷◌, ◌++◌, length}
use Rattle.std.proofs.Common.{refl, sym, ap, subst, inl, inr, Some, arith}
use Rattle.std.specs.Prelude.{slice_get}
use Rattle.std.proofs.lemmas.Option.{same_Some}
use Rattle.mrc_base.specs.declared.Fact.{Fact}
use Rattle.mrc_model.specs.Wiring.{Wiring}
use Rattle.mrc_classes.specs.Instances.{premise_list, IsInstance}
use Rattle.mrc_classes.specs.declared.instances.Instance.{Instance}
use Rattle.mrc_closure.specs.declared.chains.Places.{Places}
use Rattle.mrc_closure.specs.declared.chains.Step.{Step}
use Rattle.mrc_closure.specs.Chains.{place_list, AreAt, IsStep, AreSteps, Concludes}
use Rattle.mrc_closure.proofs.Cuts.{cut_none, cut_push}

-- there is no step
pub no_steps : (W : Wiring) → AreSteps W []
no_steps W before s behind e = absurd (cut_none before s behind e)

-- one more step
pub step_more : (W : Wiring) (steps : List Step) (s : Step)
    → IsStep W steps s
    → AreSteps W steps
    → AreSteps W (steps ++ s ∷ [])
step_more W steps s new are before t behind e =
    elim (cut_push steps s before t behind e) [
      | inl at ↦ are before t at.rest at.is
      | inr at ↦ subst (λ ss. IsStep W ss t) (sym at.0) (subst (λ u. IsStep W steps u) (sym at.1)
          new)
    ]

-- an instance whose premises are concluded is a step
pub step_is : (W : Wiring) (S : Fact → Bool) (steps : List Step) (f : Fact) (i : Instance)
    (at : Places)
    → IsInstance W S f i
    → AreAt steps (place_list at) (premise_list i.premises)
    → IsStep W steps (record { rule = i.rule; fact = f; premises = at })
step_is W S steps f i at is concluded = record {
  premises = premise_list i.premises;
  rule = is.rule;
  concluded = concluded;
  in_range = is.in_range;
}

-- a list with its last element
pub record HasLast {X : Type 0} (xs : List X) (x : X) : Type 0 where
  pub before : List X
  pub is : xs ≡ before ++ x ∷ []

last_at : {X : Type 0} (xs : List X) (n : ℕ) (x : X) → length xs ≡ suc n
    → slice_get xs n ≡ Some x
    → HasLast xs x
last_at [] n x long e = absurd cc
last_at (y ∷ []) zero x long e = record { before = []; is = ap (λ z. z ∷ []) (same_Some y x e) }
last_at (y ∷ z ∷ xs) zero x long e = absurd (omega arith)
last_at (y ∷ xs) (suc n) x long e =
    let rest = last_at xs n x (omega arith) e in
    record { before = y ∷ rest.before; is = ap (λ zs. y ∷ zs) rest.is }

pub last_of : {X : Type 0} (xs : List X) (x : X) → slice_get xs (length xs - 1) ≡ Some x
    → HasLast xs x
last_of [] x e = absurd cc
last_of {X} (y ∷ xs) x e =
    let n : length (y ∷ xs) - 1 ≡ length xs = omega arith in
    last_at (y ∷ xs) (length xs) x refl (subst (λ m. slice_get (y ∷ xs) m ≡ Some x) n e)

-- the last step concludes the fact
pub last_concludes : (steps : List Step) (last : Step) (f : Fact)
    → slice_get steps (length steps - 1) ≡ Some last
    → last.fact ≡ f
    → Concludes steps f
last_concludes steps last f at is =
    let end = last_of steps last at in
    record { earlier = end.before; last = last; are = end.is; is = is }
