-- The links of a derivation as steps, each with the places of its premises.
use Rattle.std.proofs.Common.{◌≡◌, ℕ, zero, suc, ◌<◌, Bool, List, [], ◌∷◌, ◌++◌, length, refl, sym}
use Rattle.std.proofs.Common.{ap, subst, ◌∙◌, ◌⊎◌, inl, inr, arith, Some, None}
use Rattle.std.specs.Prelude.{Option, IfNone}
use Rattle.std.specs.List.{AllByRecursion, slice_get}
use Rattle.mrc_base.specs.declared.Fact.{Fact}
use Rattle.mrc_model.specs.IsIn.{IsIn, here, later}
use Rattle.mrc_model.specs.Wiring.{Wiring}
use Rattle.mrc_model.specs.Rules.{Has, InRange, Rule, Instance, Derives, EndsIn}
use Rattle.mrc_model.specs.Rules.{Closed}
use Rattle.mrc_classes.specs.Missing.{rule_number}
use Rattle.mrc_classes.specs.Instances.{premise_list}
use Rattle.mrc_classes.specs.declared.instances.FewFacts.{FewFacts}
use Rattle.mrc_classes.proofs.Following.{all_as}
use Rattle.mrc_closure.specs.declared.chains.Link.{Link}
use Rattle.mrc_closure.specs.declared.chains.Step.{Step}
use Rattle.mrc_closure.specs.declared.chains.Places.{Places}
use Rattle.mrc_closure.specs.Chains.{place_list, IsAt, AreAt, IsStep, AreSteps, Concludes, IsChain}
use Rattle.mrc_closure.specs.Chains.{ChainsAreLeast}
use Rattle.mrc_closure.specs.Orders.{link_instance, backward, HasStep, IsPlaced}
use Rattle.std.proofs.lemmas.List.{length-append}
use Rattle.mrc_closure.proofs.Cuts.{cut_push, cut_longer}
use Rattle.mrc_closure.proofs.Deriving.{backward_push}

get_left : (xs ys : List Step) (n : ℕ) (s : Step)
    → slice_get xs n ≡ Some s
    → slice_get (xs ++ ys) n ≡ Some s
get_left [] ys n s e = absurd cc
get_left (x ∷ xs) ys zero s e = e
get_left (x ∷ xs) ys (suc n) s e = get_left xs ys n s e

get_last : (xs : List Step) (s : Step) → slice_get (xs ++ s ∷ []) (length xs) ≡ Some s
get_last [] s = refl
get_last (x ∷ xs) s = get_last xs s

-- what is concluded stays so where there are more steps
at_more : (steps more : List Step) (n : ℕ) (f : Fact)
    → IsAt steps n f
    → IsAt (steps ++ more) n f
at_more steps more n f x = record {
  step = x.step;
  there = get_left steps more n x.step x.there;
  is = x.is;
}

-- the links that are left, as a derivation from what the steps conclude
pub record IsPlacing (W : Wiring) (f : Fact) (links : List Link) (steps : List Step)
    : Type 0 where
  pub are_steps : AreSteps W steps
  pub known : List Fact
  pub derives : Derives W known (backward links [])
  pub concluded : (p : Fact) → IsIn p known → (n : ℕ) × IsAt steps n p
  pub ends : EndsIn (backward links []) f ⊎ ((backward links [] ≡ []) × Concludes steps f)

all_concluded : (steps : List Step) (known fs : List Fact)
    → ((p : Fact) → IsIn p known → (n : ℕ) × IsAt steps n p)
    → AllByRecursion (λ p. IsIn p known) fs
    → AllByRecursion (λ p. (n : ℕ) × IsAt steps n p) fs
all_concluded steps known fs there all =
    all_as (λ p. IsIn p known) (λ p. (n : ℕ) × IsAt steps n p) fs there all

module _ (W : Wiring) (f : Fact) (links rest : List Link) (l : Link) (steps steps_then : List Step)
    (x : IsPlacing W f links steps) (popped : links ≡ rest ++ l ∷ [])
    (placed : IsPlaced l steps steps_then) where
  chain : backward links [] ≡ link_instance l ∷ backward rest []
  chain = ap (λ ls. backward ls []) popped ∙ backward_push rest l []

  derived : Derives W x.known (link_instance l ∷ backward rest [])
  derived = subst (Derives W x.known) chain x.derives

  added : HasStep l steps steps_then
  added = placed (all_concluded steps x.known (premise_list l.instance.premises) x.concluded
      derived.2)

  new_step : IsStep W steps added.step
  new_step = record {
    premises = premise_list l.instance.premises;
    rule = subst (λ r. Rule W (rule_number r) (premise_list l.instance.premises) added.step.fact)
        (sym added.rule)
        (subst (λ g. Rule W (rule_number l.instance.rule) (premise_list l.instance.premises) g)
        (sym added.fact) derived.0);
    concluded = added.concluded;
    in_range = subst (InRange W) (sym added.fact) derived.1;
  }

  steps_more : AreSteps W steps_then
  steps_more before s behind e =
      elim (cut_push steps added.step before s behind (sym added.pushed ∙ e)) [
        | inl at ↦ x.are_steps before s at.rest at.is
        | inr at ↦ subst (λ ss. IsStep W ss s) (sym at.0)
            (subst (λ t. IsStep W steps t) (sym at.1) new_step)
      ]

  still : (p : Fact) → IsIn p (l.fact ∷ x.known) → (n : ℕ) × IsAt steps_then n p
  still p here = (
    length steps,
    record {
      step = added.step;
      there = subst (λ ss. slice_get ss (length steps) ≡ Some added.step) (sym added.pushed)
          (get_last steps added.step);
      is = added.fact;
    },
  )
  still p (later at) =
      let old = x.concluded p at in (
        old.0,
        subst (λ ss. IsAt ss old.0 p) (sym added.pushed)
            (at_more steps (added.step ∷ []) old.0 p old.1),
      )

  ends : (is : List Instance)
      → is ≡ backward rest []
      → EndsIn (link_instance l ∷ is) f ⊎ ((link_instance l ∷ is ≡ []) × Concludes steps f)
      → EndsIn is f ⊎ ((is ≡ []) × Concludes steps_then f)
  ends [] e (inl last) = inr (
    refl,
    record {
      earlier = steps;
      last = added.step;
      are = added.pushed;
      is = added.fact ∙ last;
    },
  )
  ends (i ∷ is) e (inl last) = inl last
  ends is e (inr none) = absurd (let h = none.0 in cc)

  pub placing_gone_on : IsPlacing W f rest steps_then
  placing_gone_on = record {
    are_steps = steps_more;
    known = l.fact ∷ x.known;
    derives = derived.3;
    concluded = still;
    ends = ends (backward rest []) refl
        (subst (λ is. EndsIn is f ⊎ ((is ≡ []) × Concludes steps f)) chain x.ends);
  }

-- no link is left
pub placing_done : (W : Wiring) (f : Fact) (links : List Link) (steps : List Step)
    → IsPlacing W f links steps
    → links ≡ []
    → IsChain W f steps
placing_done W f links steps x none = record {
  steps = x.are_steps;
  concludes = elim (subst (λ ls. EndsIn (backward ls []) f
      ⊎ ((backward ls [] ≡ []) × Concludes steps f)) none x.ends) [
        | inl last ↦ absurd last
        | inr done ↦ done.1
      ];
}

pub empty_of : (links : List Link) → length links ≡ 0 → links ≡ []
empty_of [] e = refl
empty_of (l ∷ links) e = absurd (omega arith)

-- where a premise is not concluded by the steps
pub no_places : (o : Option Places) (steps : List Step) (p q : FewFacts)
    → q ≡ p
    → (AllByRecursion (λ f. (n : ℕ) × IsAt steps n f) (premise_list p) → ⊥)
    → IfNone o (AllByRecursion (λ f. (n : ℕ) × IsAt steps n f) (premise_list q) → ⊥)
no_places None steps p q e none =
    λ all. none (subst (λ v. AllByRecursion (λ f. (n : ℕ) × IsAt steps n f) (premise_list v)) e
    all)
no_places (Some x) steps p q e none = tt

-- a chain stays within every closed set

list_at : (steps : List Step) (n : ℕ) (s : Step)
    → slice_get steps n ≡ Some s
    → (before : List Step) × (behind : List Step) × (steps ≡ before ++ s ∷ behind)
list_at [] n s e = absurd cc
list_at (x ∷ steps) zero s e = let same : x ≡ s = cc in ([], steps, ap (λ y. y ∷ steps) same)
list_at (x ∷ steps) (suc n) s e =
    let at = list_at steps n s e in
    (x ∷ at.0, at.1, ap (λ ss. x ∷ ss) at.2)

all_known : (W : Wiring) (set : Fact → Bool) (earlier : List Step)
    → ((n : ℕ) (p : Fact) → IsAt earlier n p → InRange W p × Has set p)
    → (ns : List ℕ) (ps : List Fact)
    → AreAt earlier ns ps
    → AllByRecursion (λ p. InRange W p × Has set p) ps
all_known W set earlier each [] [] at = tt
all_known W set earlier each [] (p ∷ ps) at = absurd at
all_known W set earlier each (n ∷ ns) [] at = absurd at
all_known W set earlier each (n ∷ ns) (p ∷ ps) at =
    (each n p at.0, all_known W set earlier each ns ps at.1)

module _ (W : Wiring) (chain : List Step) (are : AreSteps W chain) (set : Fact → Bool)
    (closed : Closed W (Has set)) where
  reached : (n : ℕ) (earlier : List Step) (s : Step) (behind : List Step)
      → length earlier < n
      → chain ≡ earlier ++ s ∷ behind
      → InRange W s.fact × Has set s.fact
  reached zero earlier s behind low e = absurd (omega arith)
  reached (suc n) earlier s behind low e =
      let x = are earlier s behind e in (
        x.in_range,
        closed (rule_number s.rule) x.premises s.fact x.rule
            (all_known W set earlier (λ k p at. let c = list_at earlier k at.step at.there in
            subst (λ g. InRange W g × Has set g) at.is
            (reached n c.0 at.step (c.1 ++ s ∷ behind)
            (omega (arith, low, ap length c.2, length-append c.0 (at.step ∷ c.1)))
            (e ∙ cut_longer earlier (s ∷ behind) c.0 at.step c.1 c.2)))
            (place_list s.premises) x.premises x.concluded) x.in_range,
      )

pub chains_are_least : ChainsAreLeast
chains_are_least W f chain x set closed =
    let last = x.concludes in
    subst (λ g. Has set g) last.is
    (reached W chain x.steps set closed (suc (length last.earlier)) last.earlier last.last []
    (omega arith) last.are).1
