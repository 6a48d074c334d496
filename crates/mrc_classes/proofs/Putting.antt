-- What is put into a set of what is marked, rule by rule.
use Rattle.std.proofs.Common.{◌≡◌, ℕ, ◌+◌, ◌<◌, ◌≤◌, Bool, true, false, List, IsTrue, ◌⊎◌, inl, inr}
use Rattle.std.proofs.Common.{refl, sym}
use Rattle.std.proofs.Common.{ap, subst, ◌∙◌, arith}
use Rattle.std.specs.Prelude.{◌||◌, ◌&&◌, nat_lt, not}
use Rattle.std.proofs.lemmas.Bool.{or_cases, or_left, or_right, and_parts, and_from, ltb-true}
use Rattle.std.proofs.lemmas.Bool.{lt-ltb, not-true}
use Rattle.std.proofs.lemmas.Bool.{cases_eq, true≢false}
use Rattle.mrc_base.specs.declared.PortRight.{PortRight}
use Rattle.mrc_base.specs.declared.PortRight.TheVariants.{Send, Receive, SendOnce}
use Rattle.mrc_base.specs.declared.Fact.{Fact}
use Rattle.mrc_base.specs.declared.Fact.TheVariants.{Backup}
use Rattle.mrc_bits.specs.Bits.{is_set}
use Rattle.mrc_rows.specs.Rows.{place_of}
use Rattle.mrc_rows.specs.Joining.{is_of, is_in_both}
use Rattle.mrc_rows.specs.declared.joining.Row.{Row}
use Rattle.mrc_model.specs.Wiring.{Wiring, classes}
use Rattle.mrc_classes.specs.declared.marks.Marks.{Marks}
use Rattle.mrc_classes.specs.declared.rule_names.RuleName.{RuleName}
use Rattle.mrc_classes.specs.declared.rule_names.RuleName.TheVariants.{First, Births, Weaker, Slot}
use Rattle.mrc_classes.specs.declared.rule_names.RuleName.TheVariants.{Reply, Received, KernelPort}
use Rattle.mrc_classes.specs.declared.rule_names.RuleName.TheVariants.{Request, Notice, Returned}
use Rattle.mrc_classes.specs.Marking.{words_of, is_marked, Marked}
use Rattle.mrc_classes.specs.Growing.{Added}
use Rattle.mrc_classes.specs.Concluding.{conclusion, rows, has_two, Concludes}
use Rattle.mrc_classes.specs.Missing.{rule_number}
use Rattle.mrc_classes.specs.Places.{IsMarkedAs, AreMarked, IsNew, InRow, ByRule, RulesBelow}
use Rattle.mrc_classes.proofs.Adding.{added_both, added_as}
use Rattle.mrc_classes.proofs.Missed.{number_rule}

-- the place of a conclusion is its class
place_is : (rule : RuleName) (row c : ℕ) (r : PortRight) → place_of (conclusion rule row c r) ≡ c
place_is First row c r = refl
place_is Births row c r = refl
place_is Weaker row c r = refl
place_is Slot row c r = refl
place_is Reply row c r = refl
place_is Received row c r = refl
place_is KernelPort row c r = refl
place_is Request row c r = refl
place_is Notice row c r = refl
place_is Returned row c r = refl

module _ (W : Wiring) (rule : RuleName) (row : ℕ) (marks : Marks) where
  -- a row of marks is joined
  pub put_there : (right : PortRight) (R : Row) (words all : List ℕ) (before after : Fact → Bool)
      → ((c : ℕ) → is_of R (conclusion rule row c right) ≡ true)
      → ((g : Fact) → is_of R g ≡ true → g ≡ conclusion rule row (place_of g) right)
      → words ≡ words_of marks right
      → ((c : ℕ) → is_set all c ≡ nat_lt c (classes W))
      → ((g : Fact) → after g ≡ (before g || (is_of R g && is_in_both words all (place_of g))))
      → Added before after (InRow W rule row (IsMarkedAs marks right))
  put_there right R words all before after of only is in_all joined = record {
    kept = λ g h. subst IsTrue (sym (joined g))
        (or_left (before g) (is_of R g && is_in_both words all (place_of g)) h);
    all = λ g x. subst IsTrue (sym (joined g))
        (or_right (before g) (is_of R g && is_in_both words all (place_of g)) (there g x));
    new = λ g h. elim (or_cases (before g) (is_of R g && is_in_both words all (place_of g))
        (subst IsTrue (joined g) h)) [ inl was ↦ inl was | inr x ↦ inr (back g x) ];
  }
    where
      there : (g : Fact) → InRow W rule row (IsMarkedAs marks right) g
          → IsTrue (is_of R g && is_in_both words all (place_of g))
      there g x =
          let same : g ≡ conclusion rule row x.class right = x.is
          ∙ ap (conclusion rule row x.class) x.at.0 in
          let at : place_of g ≡ x.class = ap place_of same ∙ place_is rule row x.class right in
          and_from (is_of R g) (is_in_both words all (place_of g))
          (subst (λ f. is_of R f ≡ true) (sym same) (of x.class))
          (subst (λ n. is_in_both words all n ≡ true) (sym at)
          (and_from (is_set words x.class) (is_set all x.class)
          (subst (λ ws. IsTrue (is_set ws x.class)) (sym is) x.at.1)
          (in_all x.class ∙ lt-ltb x.class (classes W) x.there)))

      back : (g : Fact) → IsTrue (is_of R g && is_in_both words all (place_of g))
          → InRow W rule row (IsMarkedAs marks right) g
      back g h =
          let p = and_parts (is_of R g) (is_in_both words all (place_of g)) h in
          let q = and_parts (is_set words (place_of g)) (is_set all (place_of g)) p.1 in
          record {
            class = place_of g;
            right = right;
            there = ltb-true (place_of g) (classes W) (sym (in_all (place_of g)) ∙ q.1);
            is = only g p.0;
            at = (refl, subst (λ ws. IsTrue (is_set ws (place_of g))) is q.0);
          }

  -- the rows of all three rights
  pub put_all : (a b c d : Fact → Bool)
      → Added a b (InRow W rule row (IsMarkedAs marks Send))
      → Added b c (InRow W rule row (IsMarkedAs marks Receive))
      → Added c d (InRow W rule row (IsMarkedAs marks SendOnce))
      → Added a d (InRow W rule row (AreMarked marks))
  put_all a b c d send receive once =
      added_as a d _ (InRow W rule row (AreMarked marks))
      (added_both a c d _ _ (added_both a b c _ _ send receive) once)
      (λ g x. elim x [
        | inl (inl y) ↦ any Send g y
        | inl (inr y) ↦ any Receive g y
        | inr y ↦ any SendOnce g y
      ])
      (λ g x. elim x.right as (λ r. g ≡ conclusion rule row x.class r → IsTrue (is_marked marks x.class r)
      → (InRow W rule row (IsMarkedAs marks Send) g ⊎ InRow W rule row (IsMarkedAs marks Receive) g)
      ⊎ InRow W rule row (IsMarkedAs marks SendOnce) g) [
        | Send ↦ λ is at. inl (inl (one Send g x.class x.there is at))
        | Receive ↦ λ is at. inl (inr (one Receive g x.class x.there is at))
        | SendOnce ↦ λ is at. inr (one SendOnce g x.class x.there is at)
      ] x.is x.at)
    where
      any : (r : PortRight) (g : Fact) → InRow W rule row (IsMarkedAs marks r) g
          → InRow W rule row (AreMarked marks) g
      any r g x = record {
        class = x.class;
        right = x.right;
        there = x.there;
        is = x.is;
        at = subst (λ q. IsTrue (is_marked marks x.class q)) (sym x.at.0) x.at.1;
      }

      one : (r : PortRight) (g : Fact) (k : ℕ) → k < classes W → g ≡ conclusion rule row k r
          → IsTrue (is_marked marks k r) → InRow W rule row (IsMarkedAs marks r) g
      one r g k low is at =
          record { class = k; right = r; there = low; is = is; at = (refl, at) }

-- what a rule concludes from a new fact

module _ (W : Wiring) (S N K : Fact → Bool) (rule : RuleName) (row : ℕ) where
  pub new_both : (n : ℕ) (a b c : ℕ → PortRight → Bool)
      → has_two rule ≡ true
      → Marked n a b (Concludes W S N rule row)
      → Marked n b c (Concludes W N S rule row)
      → Marked n a c (IsNew W S N rule row)
  new_both n a b c two p q = record {
    kept = λ k r low h. q.kept k r low (p.kept k r low h);
    all = λ k r low x. elim x [ inl y ↦ q.kept k r low (p.all k r low y) | inr y ↦ q.all k r low y.1 ];
    new = λ k r low h. elim (q.new k r low h) [
      | inl was ↦ elim (p.new k r low was) [ inl old ↦ inl old | inr x ↦ inr (inl x) ]
      | inr x ↦ inr (inr (two, x))
    ];
  }

  pub new_one : (n : ℕ) (a b : ℕ → PortRight → Bool)
      → has_two rule ≡ false
      → Marked n a b (Concludes W S N rule row)
      → Marked n a b (IsNew W S N rule row)
  new_one n a b not_two p = record {
    kept = p.kept;
    all = λ k r low x. elim x [
      | inl y ↦ p.all k r low y
      | inr y ↦ absurd (true≢false (sym y.0 ∙ not_two))
    ];
    new = λ k r low h. elim (p.new k r low h) [ inl old ↦ inl old | inr x ↦ inr (inl x) ];
  }

  -- what is marked of it and not known is put
  pub put_new : (marks new left : ℕ → PortRight → Bool) (before after : Fact → Bool)
      → row < rows W rule
      → ((c : ℕ) (r : PortRight) → marks c r ≡ false)
      → Marked (classes W) marks new (IsNew W S N rule row)
      → ((c : ℕ) (r : PortRight) → c < classes W
      → left c r ≡ (new c r && not (K (conclusion rule row c r))))
      → Added before after (InRow W rule row (λ c r. IsTrue (left c r)))
      → Added before after (ByRule W S N K row rule)
  put_new marks new left before after there none marked forgot put =
      added_as before after _ (ByRule W S N K row rule) put to back
    where
      to : (g : Fact) → InRow W rule row (λ c r. IsTrue (left c r)) g → ByRule W S N K row rule g
      to g x =
          let p = and_parts (new x.class x.right) (not (K (conclusion rule row x.class x.right)))
          (subst IsTrue (forgot x.class x.right x.there) x.at) in
          record {
            there = there;
            in_row = record {
              class = x.class;
              right = x.right;
              there = x.there;
              is = x.is;
              at = elim (marked.new x.class x.right x.there p.0) [
                | inl old ↦ absurd (true≢false (sym old ∙ none x.class x.right))
                | inr y ↦ y
              ];
            };
            unknown = ap K x.is ∙ not-true (K (conclusion rule row x.class x.right)) p.1;
          }

      back : (g : Fact) → ByRule W S N K row rule g → InRow W rule row (λ c r. IsTrue (left c r)) g
      back g x =
          let y = x.in_row in
          record {
            class = y.class;
            right = y.right;
            there = y.there;
            is = y.is;
            at = subst IsTrue (sym (forgot y.class y.right y.there))
                (and_from (new y.class y.right) (not (K (conclusion rule row y.class y.right)))
                (marked.all y.class y.right y.there y.at)
                (ap not (sym (ap K y.is) ∙ x.unknown)));
          }

  pub no_row : (before : Fact → Bool) → rows W rule ≤ row
      → Added before before (ByRule W S N K row rule)
  no_row before past = record {
    kept = λ g h. h;
    all = λ g x. absurd (omega (arith, x.there));
    new = λ g h. inl h;
  }

-- what is marked of a rule is put
pub put_alone : (W : Wiring) (rule : RuleName) (row : ℕ) (P : ℕ → PortRight → Type 0)
    (marks new : ℕ → PortRight → Bool) (before after : Fact → Bool)
    → ((c : ℕ) (r : PortRight) → marks c r ≡ false)
    → Marked (classes W) marks new P
    → Added before after (InRow W rule row (λ c r. IsTrue (new c r)))
    → Added before after (InRow W rule row P)
put_alone W rule row P marks new before after none marked put =
    added_as before after _ (InRow W rule row P) put
    (λ g x. record {
      class = x.class;
      right = x.right;
      there = x.there;
      is = x.is;
      at = elim (marked.new x.class x.right x.there x.at) [
        | inl old ↦ absurd (true≢false (sym old ∙ none x.class x.right))
        | inr y ↦ y
      ];
    })
    (λ g x. record {
      class = x.class;
      right = x.right;
      there = x.there;
      is = x.is;
      at = marked.all x.class x.right x.there x.at;
    })

-- the notices of no new backup
pub no_notice : (W : Wiring) (S N : Fact → Bool) (row c : ℕ) (r : PortRight)
    → N (Backup c row) ≡ false
    → IsNew W S N Notice row c r
    → ⊥
no_notice W S N row c r none (inl x) =
    true≢false (sym (subst (λ n. IsTrue (N (Backup n row))) (sym x.last.1) x.last.2) ∙ none)
no_notice W S N row c r none (inr x) = true≢false (sym x.0)

-- no row of the rule concludes anything
pub idle_row : (W : Wiring) (S N K : Fact → Bool) (rule : RuleName) (row : ℕ) (before : Fact → Bool)
    → ((c : ℕ) (r : PortRight) → row < rows W rule → c < classes W → IsNew W S N rule row c r → ⊥)
    → Added before before (ByRule W S N K row rule)
idle_row W S N K rule row before none = record {
  kept = λ g h. h;
  all = λ g x. absurd (none x.in_row.class x.in_row.right x.there x.in_row.there x.in_row.at);
  new = λ g h. inl h;
}

-- the rules of less numbers, and the next one

pub no_rules : (P : RuleName → Fact → Type 0) (before : Fact → Bool)
    → Added before before (RulesBelow 3 P)
no_rules P before = record {
  kept = λ g h. h;
  all = λ g x. absurd (omega (arith, x.premised, x.below));
  new = λ g h. inl h;
}

pub next_rule : (P : RuleName → Fact → Type 0) (n : ℕ) (rule : RuleName) (a b c : Fact → Bool)
    → 3 ≤ n
    → rule_number rule ≡ n
    → Added a b (RulesBelow n P)
    → Added b c (P rule)
    → Added a c (RulesBelow (n + 1) P)
next_rule P n rule a b c premised number p q =
    added_as a c _ (RulesBelow (n + 1) P) (added_both a b c _ _ p q)
    (λ g x. elim x [
      | inl y ↦ record {
        rule = y.rule;
        premised = y.premised;
        below = omega (arith, y.below);
        at = y.at;
      }
      | inr y ↦ record {
        rule = rule;
        premised = omega (arith, number);
        below = omega (arith, number);
        at = y;
      }
    ])
    (λ g x. elim (cases_eq (rule_number x.rule) n) [
      | inl same ↦ inr (subst (λ k. P k g) (number_rule x.rule rule (same ∙ sym number)) x.at)
      | inr other ↦ inl (record {
        rule = x.rule;
        premised = x.premised;
        below = omega (arith, x.below, other);
        at = x.at;
      })
    ])
