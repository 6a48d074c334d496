-- The premises that a set has of the candidates are those of an instance; if it has those of no
-- source, the rule does not conclude the fact.
use Rattle.std.proofs.Common.{◌≡◌, ℕ, ◌<◌, Bool, true, false, List, [], ◌∷◌, IsTrue, refl, sym}
use Rattle.std.proofs.Common.{ap, subst, ◌∙◌, length, arith, Some, None}
use Rattle.std.specs.Prelude.{◌||◌, ◌&&◌, if◌then◌else◌}
use Rattle.std.proofs.lemmas.Bool.{or_left, or_right, and_parts}
use Rattle.mrc_wiring.proofs.Takers.{same_right_is}
use Rattle.mrc_base.specs.declared.PortRight.{PortRight}
use Rattle.mrc_base.specs.declared.PortRight.TheVariants.{Send}
use Rattle.mrc_base.specs.declared.Fact.{Fact}
use Rattle.mrc_facts.specs.Order.{is_same}
use Rattle.mrc_facts.proofs.Total.{same_itself, equal_from_same}
use Rattle.mrc_model.specs.Wiring.{Wiring}
use Rattle.mrc_model.specs.Rules.{FactSet, Has, InRange, Follows, Rule}
use Rattle.mrc_model.specs.Rules.{k1, k2, k3_send, k3_once, k4, k5, k6, k7_up, k7_down, k8, k9, k10}
use Rattle.mrc_classes.specs.declared.rule_names.RuleName.{RuleName}
use Rattle.mrc_classes.specs.declared.rule_names.RuleName.TheVariants.{First, Births, Weaker, Slot}
use Rattle.mrc_classes.specs.declared.rule_names.RuleName.TheVariants.{Reply, Received, KernelPort}
use Rattle.mrc_classes.specs.declared.rule_names.RuleName.TheVariants.{Request, Notice, Returned}
use Rattle.mrc_classes.specs.declared.instances.FewFacts.{FewFacts}
use Rattle.mrc_classes.specs.declared.instances.FewFacts.TheVariants.{Empty, One, Two}
use Rattle.mrc_classes.specs.declared.instances.Premise.{Premise}
use Rattle.mrc_classes.specs.declared.instances.Premise.TheVariants.{Only, Either}
use Rattle.mrc_classes.specs.declared.instances.Candidates.{Candidates}
use Rattle.mrc_classes.specs.declared.instances.Candidates.TheVariants.{Never, ByNone, ByOne, ByTwo}
use Rattle.mrc_classes.specs.Concluding.{conclusion, Concludes}
use Rattle.mrc_classes.specs.Missing.{rule_number}
use Rattle.mrc_classes.specs.Instances.{IsInstance, AreParts, Concluded, fact_of, IsWithin, IsGoal}
use Rattle.mrc_classes.specs.Instances.{IsSource}
use Rattle.mrc_classes.specs.Instances.{has_premise, HavePremises, premises_count, HasCount}
use Rattle.mrc_classes.specs.Instances.{fact_in, premises_in}
use Rattle.mrc_classes.proofs.Meaning.{AreKnown, FollowsBy, concluded, tested, all_known}
use Rattle.mrc_classes.proofs.Missed.{number_rule}

-- an instance of a rule has so many premises

counted : (W : Wiring) (rule : RuleName) (k : ℕ) (premises : List Fact) (f : Fact)
    → k ≡ rule_number rule
    → Rule W k premises f
    → length premises ≡ premises_count rule
counted W rule k premises f e (k1 t p held is) = ap premises_count (number_rule First rule e)
counted W rule k premises f e (k2 kind is) = ap premises_count (number_rule Births rule e)
counted W rule k premises f e k3_send = ap premises_count (number_rule Weaker rule e)
counted W rule k premises f e k3_once = ap premises_count (number_rule Weaker rule e)
counted W rule k premises f e (k4 can label slot typed is fits may_send) =
    ap premises_count (number_rule Slot rule e)
counted W rule k premises f e (k5 can side may_reply) =
    ap premises_count (number_rule Reply rule e)
counted W rule k premises f e k6 = ap premises_count (number_rule Received rule e)
counted W rule k premises f e (k7_up may_take) =
    ap premises_count (number_rule KernelPort rule e)
counted W rule k premises f e (k7_down may_give) =
    ap premises_count (number_rule KernelPort rule e)
counted W rule k premises f e (k8 side) = ap premises_count (number_rule Request rule e)
counted W rule k premises f e k9 = ap premises_count (number_rule Notice rule e)
counted W rule k premises f e k10 = ap premises_count (number_rule Returned rule e)

module _ (W : Wiring) (S : Fact → Bool) where
  -- an instance whose premises are in sets of one fact has these facts as its premises

  from_none : (rule : RuleName) (f : Fact) (premises : List Fact)
      → Rule W (rule_number rule) premises f
      → InRange W f
      → length premises ≡ 0
      → IsInstance W S f (record { rule = rule; premises = Empty })
  from_none rule f [] x within e = record { rule = x; known = tt; in_range = within }
  from_none rule f (p ∷ more) x within e = cc

  from_one : (rule : RuleName) (f : Fact) (F : FactSet) (q : Fact) (premises : List Fact)
      → Rule W (rule_number rule) premises f
      → InRange W f
      → AreKnown W F (Has (is_same q)) premises
      → length premises ≡ 1
      → IsTrue (S q)
      → IsInstance W S f (record { rule = rule; premises = One q })
  from_one rule f F q [] x within known e there = cc
  from_one rule f F q (b ∷ []) x within known e there =
      let same = equal_from_same q b known.0.1 in
      subst (λ y. IsInstance W S f (record { rule = rule; premises = One y })) (sym same) (record {
        rule = x;
        known = ((known.0.0, subst (λ y. IsTrue (S y)) same there), tt);
        in_range = within;
      })
  from_one rule f F q (a ∷ b ∷ more) x within known e there = absurd (omega arith)

  from_two : (rule : RuleName) (f p q : Fact) (premises : List Fact)
      → Rule W (rule_number rule) premises f
      → InRange W f
      → AreKnown W (Has (is_same p)) (Has (is_same q)) premises
      → length premises ≡ 2
      → IsTrue (S p)
      → IsTrue (S q)
      → IsInstance W S f (record { rule = rule; premises = Two p q })
  from_two rule f p q [] x within known e one other = cc
  from_two rule f p q (a ∷ []) x within known e one other = absurd (omega arith)
  from_two rule f p q (a ∷ b ∷ []) x within known e one other =
      let first = equal_from_same p a known.0.1 in
      let last = equal_from_same q b known.1.0.1 in
      subst (λ y. IsInstance W S f (record { rule = rule; premises = Two y q })) (sym first)
      (subst (λ y. IsInstance W S f (record { rule = rule; premises = Two a y })) (sym last)
      (record {
        rule = x;
        known = (
          (known.0.0, subst (λ y. IsTrue (S y)) first one),
          ((known.1.0.0, subst (λ y. IsTrue (S y)) last other), tt),
        );
        in_range = within;
      }))
  from_two rule f p q (a ∷ b ∷ d ∷ more) x within known e one other = absurd (omega arith)

-- the fact that is picked for a premise is in the set, and one that the premise can be
picked : (S : Fact → Bool) (p : Premise)
    → IsTrue (has_premise S p)
    → IsTrue (S (fact_in S p)) × IsTrue (has_premise (is_same (fact_in S p)) p)
picked S (Only f) there = (there, same_itself f)
picked S (Either f g) there =
    elim (S f) as (λ b. S f ≡ b → IsTrue (b || S g) → IsTrue (S (if b then f else g))
    × IsTrue (is_same (if b then f else g) f || is_same (if b then f else g) g)) [
      | true ↦ λ at h. (at, or_left (is_same f f) (is_same f g) (same_itself f))
      | false ↦ λ at h. (h, or_right (is_same g f) (is_same g g) (same_itself g))
    ] refl there

module _ (S : Fact → Bool) (g : Concluded) (within : IsWithin g) (n : ℕ) where
  -- what a source concludes follows
  follows_by : (A B : Fact → Bool)
      → IsSource A B g n
      → FollowsBy g.wiring (Has A) (Has B) (rule_number g.rule) (fact_of g)
  follows_by A B x =
      concluded g.wiring A B g.rule g.row g.class g.right within.row_there within.class_there
      (record { source = n; there = x.there; first = x.first; last = x.last })

  abbrev Picks : FewFacts → Type 0
  Picks few = IsInstance g.wiring S (fact_of g) (record { rule = g.rule; premises = few })

  -- the premises that are picked of the candidates are those of an instance
  pub justified : (c : Candidates)
      → ((A B : Fact → Bool) → HavePremises A B c → IsSource A B g n)
      → HasCount (premises_count g.rule) c
      → (few : FewFacts)
      → premises_in S c ≡ Some few
      → Picks few
  justified Never source count few e = cc
  justified ByNone source count few e =
      let none : Fact → Bool = λ f. false in
      let x = follows_by none none (source none none tt) in
      let so_many = counted g.wiring g.rule (rule_number g.rule) x.premises (fact_of g) refl
      x.rule in
      let same : Empty ≡ few = cc in
      subst Picks same
      (from_none g.wiring S g.rule (fact_of g) x.premises x.rule x.in_range (so_many ∙ count))
  justified (ByOne f) source count few e =
      elim (S f) as (λ b. S f ≡ b → (if b then Some (One f) else None) ≡ Some few → Picks few) [
        | true ↦ λ there is.
            let none : Fact → Bool = λ f. false in
            let x = follows_by none (is_same f) (source none (is_same f) (same_itself f)) in
            let so_many = counted g.wiring g.rule (rule_number g.rule) x.premises (fact_of g) refl
            x.rule in
            let same : One f ≡ few = cc in
            subst Picks same
            (from_one g.wiring S g.rule (fact_of g) (Has none) f x.premises x.rule x.in_range
            x.known (so_many ∙ count) there)
        | false ↦ λ there is. cc
      ] refl e
  justified (ByTwo p q) source count few e =
      elim (has_premise S p && has_premise S q) as (λ b. (has_premise S p && has_premise S q) ≡ b
      → (if b then Some (Two (fact_in S p) (fact_in S q)) else None) ≡ Some few → Picks few) [
        | true ↦ λ there is.
            let both = and_parts (has_premise S p) (has_premise S q) there in
            let one = picked S p both.0 in
            let other = picked S q both.1 in
            let x = follows_by (is_same (fact_in S p)) (is_same (fact_in S q))
            (source (is_same (fact_in S p)) (is_same (fact_in S q)) (one.1, other.1)) in
            let so_many = counted g.wiring g.rule (rule_number g.rule) x.premises (fact_of g) refl
            x.rule in
            let same : Two (fact_in S p) (fact_in S q) ≡ few = cc in
            subst Picks same
            (from_two g.wiring S g.rule (fact_of g) (fact_in S p) (fact_in S q) x.premises x.rule
            x.in_range x.known (so_many ∙ count) one.0 other.0)
        | false ↦ λ there is. cc
      ] refl e

module _ (W : Wiring) (S : Fact → Bool) where
  -- what the rule concludes as the fact, it concludes at the fact's parts

  moved : (rule : RuleName) (t c : ℕ) (r : PortRight) (f : Fact) (u d : ℕ) (q : PortRight)
      → f ≡ conclusion rule t c r → u ≡ t → d ≡ c → q ≡ r → Concludes W S S rule t c r
      → (conclusion rule u d q ≡ f) × Concludes W S S rule u d q
  moved rule t c r f u d q is a b e x = (
    ap (λ n. conclusion rule n d q) a ∙ (ap (λ n. conclusion rule t n q) b
        ∙ (ap (conclusion rule t c) e ∙ sym is)),
    subst (λ y. Concludes W S S rule u d y) (sym e)
        (subst (λ n. Concludes W S S rule u n r) (sym b)
        (subst (λ n. Concludes W S S rule n c r) (sym a) x)),
  )

  at_parts : (rule : RuleName) (t c : ℕ) (r : PortRight) (f : Fact) (u d : ℕ) (q : PortRight)
      → f ≡ conclusion rule t c r → AreParts f u d q → Concludes W S S rule t c r
      → (conclusion rule u d q ≡ f) × Concludes W S S rule u d q
  at_parts First t c r f u d q is parts x =
      let p = subst (λ g. AreParts g u d q) is parts in
      moved First t c r f u d q is p.0 p.1 p.2 x
  at_parts Births t c r f u d q is parts x =
      let p = subst (λ g. AreParts g u d q) is parts in
      moved Births t c r f u d q is p.0 p.1 p.2 x
  at_parts Weaker t c r f u d q is parts x =
      let p = subst (λ g. AreParts g u d q) is parts in
      moved Weaker t c r f u d q is p.0 p.1 p.2 x
  at_parts Slot t c r f u d q is parts x =
      let p = subst (λ g. AreParts g u d q) is parts in
      moved Slot t c r f u d q is p.0 p.1 p.2 x
  at_parts Reply t c r f u d q is parts x =
      let p = subst (λ g. AreParts g u d q) is parts in
      moved Reply t c r f u d q is p.0 p.1 p.2 x
  at_parts Received t c r f u d q is parts x =
      let p = subst (λ g. AreParts g u d q) is parts in
      moved Received t c r f u d q is p.0 p.1 p.2 x
  at_parts KernelPort t c r f u d q is parts x =
      let p = subst (λ g. AreParts g u d q) is parts in
      moved KernelPort t c r f u d q is p.0 p.1 p.2 x
  at_parts Notice t c r f u d q is parts x =
      let p = subst (λ g. AreParts g u d q) is parts in
      moved Notice t c r f u d q is p.0 p.1 p.2 x
  at_parts Returned t c r f u d q is parts x =
      let p = subst (λ g. AreParts g u d q) is parts in
      moved Returned t c r f u d q is p.0 p.1 p.2 x
  at_parts Request t c r f u d q is parts x =
      let p = subst (λ g. AreParts g u d q) is parts in
      moved Request t c r f u d q is p.0 p.1 (p.2 ∙ sym (same_right_is r Send x.last.0)) x

  -- there are ten rules
  few_names : (rule : RuleName) → rule_number rule < 11
  few_names First = omega arith
  few_names Births = omega arith
  few_names Weaker = omega arith
  few_names Slot = omega arith
  few_names Reply = omega arith
  few_names Received = omega arith
  few_names KernelPort = omega arith
  few_names Request = omega arith
  few_names Notice = omega arith
  few_names Returned = omega arith

  pub few_rules : (k : ℕ) (f : Fact) → Follows W (Has S) k f → k < 11
  few_rules k f x =
      let t = tested W S S k x.premises f x.rule (all_known W (Has S) x.premises x.known)
      x.in_range in
      let low = few_names t.rule in
      omega (arith, t.number)

  pub not_concluded : (rule : RuleName) (f : Fact) (u d : ℕ) (q : PortRight)
      → AreParts f u d q → (conclusion rule u d q ≡ f → Concludes W S S rule u d q → ⊥)
      → Follows W (Has S) (rule_number rule) f → ⊥
  not_concluded rule f u d q parts none x =
      let t = tested W S S (rule_number rule) x.premises f x.rule
      (all_known W (Has S) x.premises x.known) x.in_range in
      let e = number_rule t.rule rule t.number in
      let p = at_parts rule t.row t.class t.right f u d q
      (subst (λ k. f ≡ conclusion k t.row t.class t.right) e t.is) parts
      (subst (λ k. Concludes W S S k t.row t.class t.right) e t.concluded) in
      none p.0 p.1

-- the same of a goal
pub not_by_source : (W : Wiring) (S : Fact → Bool) (rule : RuleName) (f : Fact) (g : Concluded)
    → IsGoal W rule f g
    → ((n : ℕ) → IsSource S S g n → ⊥)
    → Follows W (Has S) (rule_number rule) f → ⊥
not_by_source W S rule f g goal none x =
    not_concluded g.wiring S g.rule f g.row g.class g.right goal.parts
    (λ e y. none y.source (record { there = y.there; first = y.first; last = y.last }))
    (subst (λ V. Follows V (Has S) (rule_number g.rule) f) (sym goal.wiring)
    (subst (λ r. Follows W (Has S) (rule_number r) f) (sym goal.rule_is) x))
