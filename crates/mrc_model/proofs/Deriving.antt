-- What is derived is in every closed set.
use Rattle.std.proofs.Common.{inl, inr, Bool, List, [], ◌∷◌, sym, subst}
use Rattle.mrc_base.specs.declared.Fact.{Fact}
use Rattle.mrc_model.specs.IsIn.{IsIn}
use Rattle.mrc_model.specs.Wiring.{Wiring}
use Rattle.mrc_model.specs.Rules.{Has, InRange, Closed, Instance, Derives, EndsIn}
use Rattle.mrc_model.proofs.FirstHeld.{in_cons}
use Rattle.mrc_model.proofs.Members.{all_map}

module _ (W : Wiring) (set : Fact → Bool) (closed : Closed W (Has set)) where
  abbrev Known : List Fact → Type 0
  Known known = (p : Fact) → IsIn p known → InRange W p × Has set p

  first_concluded : (known : List Fact) (i : Instance) (more : List Instance) → Known known
      → Derives W known (i ∷ more) → Has set i.conclusion
  first_concluded known i more all d =
      closed i.rule i.premises i.conclusion d.0 (all_map i.premises all d.2) d.1

  known_more : (known : List Fact) (i : Instance) (more : List Instance) → Known known
      → Derives W known (i ∷ more) → Known (i.conclusion ∷ known)
  known_more known i more all d p m = elim (in_cons p i.conclusion known m) [
    | inl e ↦ subst (λ v. InRange W v × Has set v) (sym e) (d.1, first_concluded known i more all d)
    | inr there ↦ all p there
  ]

  pub derived_in : (known : List Fact) (is : List Instance) (f : Fact) → Known known
      → Derives W known is → EndsIn is f → Has set f
  derived_in known [] f all d c = absurd c
  derived_in known (i ∷ []) f all d c = subst (Has set) c (first_concluded known i [] all d)
  derived_in known (i ∷ j ∷ more) f all d c =
      derived_in (i.conclusion ∷ known) (j ∷ more) f (known_more known i (j ∷ more) all d) d.3 c
