-- Believe. Which lists of steps derive a fact. This profile's own choice.
use Rattle.std.specs.Prelude.{◌≡◌, ℕ, List, [], ◌∷◌, ◌++◌, Some}
use Rattle.std.specs.List.{slice_get}
use Rattle.mrc_base.specs.declared.Fact.{Fact}
use Rattle.mrc_model.specs.Wiring.{Wiring}
use Rattle.mrc_model.specs.Rules.{InRange, Rule, Least}
use Rattle.mrc_classes.specs.Missing.{rule_number}
use Rattle.mrc_closure.specs.declared.chains.Places.{Places}
use Rattle.mrc_closure.specs.declared.chains.Places.TheVariants.{Empty, One, Two}
use Rattle.mrc_closure.specs.declared.chains.Step.{Step}

-- the places, in the order of the rule's premises
abbrev pub place_list : Places → List ℕ
place_list Empty = []
place_list (One n) = n ∷ []
place_list (Two n k) = n ∷ k ∷ []

-- the step at place n, which counts from 0, concludes the fact
pub record IsAt (steps : List Step) (n : ℕ) (f : Fact) : Type 0 where
  pub step : Step
  pub there : slice_get steps n ≡ Some step
  pub is : step.fact ≡ f

-- these steps conclude these facts, one by one
abbrev pub AreAt : List Step → List ℕ → List Fact → Type 0
AreAt steps [] [] = Unit {0}
AreAt steps [] (f ∷ fs) = ⊥
AreAt steps (n ∷ ns) [] = ⊥
AreAt steps (n ∷ ns) (f ∷ fs) = IsAt steps n f × AreAt steps ns fs

-- the step is an instance of its rule, over the wiring's tasks and classes, and its premises are
-- concluded by earlier steps
pub record IsStep (W : Wiring) (earlier : List Step) (s : Step) : Type 0 where
  pub premises : List Fact
  pub rule : Rule W (rule_number s.rule) premises s.fact
  pub concluded : AreAt earlier (place_list s.premises) premises
  pub in_range : InRange W s.fact

-- each step has its premises before it
abbrev pub AreSteps : Wiring → List Step → Type 0
AreSteps W steps =
    (earlier : List Step) (s : Step) (later : List Step) → steps ≡ earlier ++ s ∷ later
    → IsStep W earlier s

-- the last step concludes the fact
pub record Concludes (steps : List Step) (f : Fact) : Type 0 where
  pub earlier : List Step
  pub last : Step
  pub are : steps ≡ earlier ++ last ∷ []
  pub is : last.fact ≡ f

-- the steps derive the fact
pub record IsChain (W : Wiring) (f : Fact) (chain : List Step) : Type 0 where
  pub steps : AreSteps W chain
  pub concludes : Concludes chain f

-- what a chain derives is in every closed set
abbrev pub ChainsAreLeast : Type 0
ChainsAreLeast = (W : Wiring) (f : Fact) (steps : List Step) → IsChain W f steps → Least W f
