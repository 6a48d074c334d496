-- Believe. Only what `rounds_of` cites: facts in the order of their rounds. Facts in an order in
-- which each follows from those before it, and the links that a derivation takes of them. This
-- profile's own choice.
use Rattle.std.specs.Prelude.{◌≡◌, ◌↔◌, ℕ, Bool, false, ◌||◌, List, [], ◌∷◌, ◌++◌, IsTrue}
use Rattle.std.specs.List.{AllByRecursion}
use Rattle.mrc_base.specs.declared.Fact.{Fact}
use Rattle.mrc_model.specs.Wiring.{Wiring}
use Rattle.mrc_model.specs.Rules.{Has, Follows, Instance}
use Rattle.mrc_facts.specs.Sets.{has}
use Rattle.mrc_classes.specs.Missing.{rule_number}
use Rattle.mrc_classes.specs.Instances.{premise_list, IsInstance}
use Rattle.mrc_closure.specs.declared.chains.Link.{Link}
use Rattle.mrc_closure.specs.declared.chains.Step.{Step}
use Rattle.mrc_closure.specs.Chains.{place_list, IsAt, AreAt}

-- Facts as a set, the same in an order, and for each round how many facts it and the rounds before
-- it have found.
pub record Ordered : Type 0 where
  pub facts : List Fact
  pub order : List Fact
  pub ends : List ℕ

-- a rule concludes the fact from the set
pub record IsFollowing (W : Wiring) (S : Fact → Bool) (f : Fact) : Type 0 where
  pub rule : ℕ
  pub follows : Follows W (Has S) rule f

-- no fact stands there twice
abbrev pub IsOnce : List Fact → Type 0
IsOnce facts =
    (earlier : List Fact) (f : Fact) (later : List Fact) → facts ≡ earlier ++ f ∷ later
    → IsTrue (has earlier f) → ⊥

-- each of the facts follows from those before it
abbrev pub IsOrder : Wiring → List Fact → Type 0
IsOrder W facts =
    (earlier : List Fact) (f : Fact) (later : List Fact) → facts ≡ earlier ++ f ∷ later
    → IsFollowing W (has earlier) f

-- the two lists have the same facts
abbrev pub HaveSame : List Fact → List Fact → Type 0
HaveSame facts order = (g : Fact) → IsTrue (has facts g) ↔ IsTrue (has order g)

-- a link as an instance of a derivation
abbrev pub link_instance : Link → Instance
link_instance l = record {
  rule = rule_number l.instance.rule;
  premises = premise_list l.instance.premises;
  conclusion = l.fact;
}

-- the links from the last one on, and then these instances
abbrev pub backward : List Link → List Instance → List Instance
backward [] more = more
backward (l ∷ links) more = backward links (link_instance l ∷ more)

-- one more link, which concludes the fact from the set; its premises are needed then
pub record HasLink (W : Wiring) (S : Fact → Bool) (f : Fact) (before after : List Fact)
    (links links_then : List Link) : Type 0 where
  pub link : Link
  pub fact : link.fact ≡ f
  pub instance : IsInstance W S f link.instance
  pub pushed : links_then ≡ links ++ link ∷ []
  pub needed : (g : Fact)
      → has after g ≡ (has (premise_list link.instance.premises) g || has before g)

-- a fact was looked at: where it is needed there is one more link, else nothing is changed
pub record IsLinked (W : Wiring) (S : Fact → Bool) (f : Fact) (before after : List Fact)
    (links links_then : List Link) : Type 0 where
  pub idle : has before f ≡ false → (after ≡ before) × (links_then ≡ links)
  pub linked : IsTrue (has before f) → HasLink W S f before after links links_then

-- the steps are a link longer: its premises are concluded by the steps before it
pub record HasStep (l : Link) (before after : List Step) : Type 0 where
  pub step : Step
  pub rule : step.rule ≡ l.instance.rule
  pub fact : step.fact ≡ l.fact
  pub concluded : AreAt before (place_list step.premises) (premise_list l.instance.premises)
  pub pushed : after ≡ before ++ step ∷ []

-- where the steps conclude the premises of the link
abbrev pub IsPlaced : Link → List Step → List Step → Type 0
IsPlaced l before after =
    AllByRecursion (λ p. (n : ℕ) × IsAt before n p) (premise_list l.instance.premises)
    → HasStep l before after
