-- A round keeps what the loop keeps, and the last one leaves the least closed set.
use Rattle.std.proofs.Common.{◌≡◌, ℕ, not, Bool, true, false, List, []}
use Rattle.std.proofs.Common.{◌∷◌}
use Rattle.std.proofs.Common.{refl, sym, subst, ◌∙◌}
use Rattle.std.proofs.Common.{IsTrue, ◌⊎◌, inl, inr}
use Rattle.std.specs.Prelude.{◌&&◌, ◌||◌, ◌↔◌}
use Rattle.std.specs.List.{AllByRecursion}
use Rattle.std.proofs.lemmas.Bool.{and_parts, and_from, or_cases, or_left, or_right, true≢false}
use Rattle.std.proofs.lemmas.Bool.{cases_Bool}
use Rattle.mrc_base.specs.declared.Fact.{Fact}
use Rattle.mrc_model.specs.IsIn.{IsIn, here, later}
use Rattle.mrc_model.specs.Wiring.{Wiring}
use Rattle.mrc_model.specs.Rules.{Has, InRange, Rule, Closed, Least, IsLeast}
use Rattle.mrc_facts.specs.Sets.{has, IsAscending}
use Rattle.mrc_classes.specs.Following.{IsConsequence, IsFirstFact, IsListOf}
use Rattle.mrc_facts.proofs.Removing.{length-together}
use Rattle.mrc_classes.proofs.Following.{all_as}
use Rattle.mrc_closure.specs.Merging.{Merged}

-- it follows from one of the new facts, with those of the set, which lacks it
pub record FromOne (W : Wiring) (facts new : List Fact) (g : Fact) : Type 0 where
  pub premise : Fact
  pub there : IsTrue (has new premise)
  pub consequence : IsConsequence W (Has (has facts)) premise g
  pub fresh : has facts g ≡ false

-- tests

not_false : (b : Bool) → b ≡ false → IsTrue (not b)
not_false b e = subst (λ x. IsTrue (not x)) (sym e) refl

false_from : (b : Bool) → IsTrue (not b) → b ≡ false
false_from true h = absurd (true≢false (sym h))
false_from false h = refl

-- merging

-- what a set lacks is put into it
pub merged_by : (before found after_it : List Fact)
    → IsAscending before → IsAscending found → IsAscending after_it
    → ((g : Fact) → IsTrue (has found g) → has before g ≡ false)
    → ((g : Fact) → has after_it g ≡ (has before g || has found g))
    → Merged before found after_it found
merged_by before found after_it up up_found up_after lacked in_after =
    record {
      members = in_after;
      new_ones = λ g. alone (has found g) (has before g) (lacked g);
      len = length-together before found after_it up up_found up_after in_after lacked;
    }
  where
    alone : (a b : Bool) → (IsTrue a → b ≡ false) → a ≡ (a && not b)
    alone true b h = rw (h refl) refl
    alone false b h = refl

-- what is new

module _ (before found after new : List Fact) (m : Merged before found after new) where
  pub new_found : (g : Fact) → IsTrue (has new g) → IsTrue (has found g)
  new_found g h = (and_parts (has found g) (not (has before g)) (subst IsTrue (m.new_ones g) h)).0

  pub new_lacked : (g : Fact) → IsTrue (has new g) → has before g ≡ false
  new_lacked g h =
      false_from (has before g)
      (and_parts (has found g) (not (has before g)) (subst IsTrue (m.new_ones g) h)).1

  pub new_there : (g : Fact) → IsTrue (has new g) → IsTrue (has after g)
  new_there g h =
      subst IsTrue (sym (m.members g)) (or_right (has before g) (has found g) (new_found g h))

  -- what is there was there, or is new
  pub old_or_new : (g : Fact) → IsTrue (has after g)
      → IsTrue (has before g) ⊎ (IsTrue (has found g) × IsTrue (has new g))
  old_or_new g h =
      elim (cases_Bool (has before g)) [
        | inl old ↦ inl old
        | inr lacked ↦ elim (or_cases (has before g) (has found g) (subst IsTrue (m.members g) h)) [
          | inl old ↦ inl old
          | inr got ↦ inr (
            got,
            subst IsTrue (sym (m.new_ones g))
                (and_from (has found g) (not (has before g)) got (not_false (has before g) lacked)),
          )
        ]
      ]

-- rounds

-- 1 where there is an element
abbrev pub some : List Fact → ℕ
some [] = 0
some (x ∷ xs) = 1

-- Each fact is over the tasks and classes and in every closed set, the new facts are in the set,
-- and each instance with no new fact as a premise has its conclusion there.
pub record IsRound (W : Wiring) (facts new : List Fact) : Type 0 where
  pub derived : (g : Fact) → IsTrue (has facts g) → InRange W g × Least W g
  pub there : (g : Fact) → IsTrue (has new g) → IsTrue (has facts g)
  pub closed : (k : ℕ) (premises : List Fact) (g : Fact)
      → Rule W k premises g
      → AllByRecursion (λ p. InRange W p × IsTrue (has facts p) × (has new p ≡ false)) premises
      → InRange W g
      → IsTrue (has facts g)
  pub ascending : IsAscending facts

-- what follows from facts of each closed set is in each closed set
consequence_least : (W : Wiring) (set : Fact → Bool)
    → ((g : Fact) → Has set g → InRange W g × Least W g)
    → (f g : Fact)
    → Has set f
    → IsConsequence W (Has set) f g
    → InRange W g × Least W g
consequence_least W set derived f g there x = (
  x.follows.in_range,
  λ other closed. closed x.rule x.follows.premises g x.follows.rule
      (all_as (λ p. InRange W p × (p ≡ f ⊎ Has set p)) (λ p. InRange W p × Has other p)
      x.follows.premises (λ p h. (h.0, in_other other closed p h.1)) x.follows.known)
      x.follows.in_range,
)
  where
    in_other : (other : Fact → Bool) → Closed W (Has other) → (p : Fact) → p ≡ f ⊎ Has set p
        → Has other p
    in_other other closed p (inl e) =
        subst (λ (y : Fact). Has other y) (sym e) ((derived f there).1 other closed)
    in_other other closed p (inr h) = (derived p h).1 other closed

-- a premise is one of the new facts, or none is
find_new : (W : Wiring) (set : Fact → Bool) (new premises : List Fact)
    → AllByRecursion (λ p. InRange W p × Has set p) premises
    → ((f : Fact) × IsIn f premises × IsTrue (has new f))
    ⊎ AllByRecursion (λ p. InRange W p × Has set p × (has new p ≡ false)) premises
find_new W set new [] all = inr tt
find_new W set new (p ∷ ps) all =
    elim (cases_Bool (has new p)) [
      | inl at ↦ inl (p, here, at)
      | inr none ↦ elim (find_new W set new ps all.1) [
        | inl found ↦ inl (found.0, later found.1, found.2)
        | inr rest ↦ inr ((all.0.0, all.0.1, none), rest)
      ]
    ]

begun_from : (W : Wiring) (first facts new : List Fact)
    → IsListOf (IsFirstFact W) first
    → Merged [] first facts new
    → IsAscending facts
    → IsRound W facts new
begun_from W first facts new begins m ascending = record {
  derived = λ g h. derived g ((begins g).0 (subst IsTrue (m.members g) h));
  there = new_there [] first facts new m;
  closed = closed;
  ascending = ascending;
}
  where
    derived : (g : Fact) → IsFirstFact W g → InRange W g × Least W g
    derived g b = (b.in_range, λ set closed. closed b.rule [] g b.instance tt b.in_range)

    closed : (k : ℕ) (premises : List Fact) (g : Fact)
        → Rule W k premises g
        → AllByRecursion (λ p. InRange W p × IsTrue (has facts p) × (has new p ≡ false)) premises
        → InRange W g
        → IsTrue (has facts g)
    closed k [] g rule all within =
        subst IsTrue (sym (m.members g))
        ((begins g).1 (record { rule = k; instance = rule; in_range = within }))
    closed k (p ∷ ps) g rule all within =
        elim (old_or_new [] first facts new m p all.0.1) [
          | inl none ↦ absurd cc
          | inr at ↦ absurd (true≢false (sym at.1 ∙ all.0.2))
        ]

-- nothing was found yet
pub begun : (W : Wiring) (before first facts new : List Fact)
    → before ≡ []
    → IsListOf (IsFirstFact W) first
    → Merged before first facts new
    → IsAscending facts
    → IsRound W facts new
begun W before first facts new none begins m ascending =
    begun_from W first facts new begins (subst (λ fs. Merged fs first facts new) none m) ascending

-- a round, and its conclusions put into the set
pub gone_on : (W : Wiring) (facts new found facts_then new_then : List Fact)
    → IsRound W facts new
    → IsListOf (FromOne W facts new) found
    → Merged facts found facts_then new_then
    → IsAscending facts_then
    → IsRound W facts_then new_then
gone_on W facts new found facts_then new_then round found_is m ascending = record {
  derived = λ g h. elim (or_cases (has facts g) (has found g) (subst IsTrue (m.members g) h)) [
    | inl old ↦ round.derived g old
    | inr got ↦ let x = (found_is g).0 got in
        consequence_least W (has facts) round.derived x.premise g (round.there x.premise x.there)
        x.consequence
  ];
  there = new_there facts found facts_then new_then m;
  closed = λ k premises g rule all within. let olds = all_as
      (λ p. InRange W p × IsTrue (has facts_then p) × (has new_then p ≡ false))
      (λ p. InRange W p × Has (has facts) p) premises
      (λ p h. (h.0, was_there p h.1 h.2)) all in
      closed k premises g rule within olds (find_new W (has facts) new premises olds);
  ascending = ascending;
}
  where
    was_there : (p : Fact)
        → IsTrue (has facts_then p)
        → has new_then p ≡ false
        → IsTrue (has facts p)
    was_there p h none =
        elim (old_or_new facts found facts_then new_then m p h) [
          | inl old ↦ old
          | inr at ↦ absurd (true≢false (sym at.1 ∙ none))
        ]

    closed : (k : ℕ) (premises : List Fact) (g : Fact)
        → Rule W k premises g
        → InRange W g
        → AllByRecursion (λ p. InRange W p × Has (has facts) p) premises
        → ((f : Fact) × IsIn f premises × IsTrue (has new f))
        ⊎ AllByRecursion (λ p. InRange W p × Has (has facts) p × (has new p ≡ false)) premises
        → IsTrue (has facts_then g)
    closed k premises g rule within olds (inr old) =
        subst IsTrue (sym (m.members g))
        (or_left (has facts g) (has found g) (round.closed k premises g rule old within))
    closed k premises g rule within olds (inl x) = elim (cases_Bool (has facts g)) [
      | inl old ↦ subst IsTrue (sym (m.members g)) (or_left (has facts g) (has found g) old)
      | inr lacked ↦
          let from : FromOne W facts new g = record {
            premise = x.0;
            there = x.2;
            consequence = record {
              rule = k;
              follows = record {
                premises = premises;
                rule = rule;
                among = x.1;
                known = all_as (λ p. InRange W p × Has (has facts) p)
                    (λ p. InRange W p × (p ≡ x.0 ⊎ Has (has facts) p)) premises
                    (λ p h. (h.0, inr h.1)) olds;
                in_range = within;
              };
            };
            fresh = lacked;
          } in
          subst IsTrue (sym (m.members g))
          (or_right (has facts g) (has found g) ((found_is g).1 from))
    ]

-- no new fact is left
pub at_rest : (W : Wiring) (facts : List Fact) → IsRound W facts [] → IsLeast W (has facts)
at_rest W facts round = record {
  closed = λ k premises g rule all within. round.closed k premises g rule
      (all_as (λ p. InRange W p × Has (has facts) p)
      (λ p. InRange W p × IsTrue (has facts p) × (has [] p ≡ false)) premises
      (λ p h. (h.0, h.1, refl)) all) within;
  least = λ g h. (round.derived g h).1;
}

-- whether there is an element

pub some_there : (xs : List Fact) (b : Bool) → (IsTrue b ↔ (xs ≡ [])) → b ≡ false → some xs ≡ 1
some_there [] b e f = absurd (true≢false (sym (e.1 refl) ∙ f))
some_there (x ∷ xs) b e f = refl

pub none_there : (xs : List Fact) (b : Bool) → (IsTrue b ↔ (xs ≡ [])) → b ≡ true → xs ≡ []
none_there xs b e f = e.0 f
