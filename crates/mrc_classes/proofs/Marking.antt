-- How marks grow, source by source.
use Rattle.std.proofs.Common.{◌≡◌, ℕ, ◌+◌, ◌<◌, Bool, true, false, refl, subst, sym, ◌∙◌, IsTrue}
use Rattle.std.proofs.Common.{inl}
use Rattle.std.proofs.Common.{inr, arith}
use Rattle.std.specs.Prelude.{◌||◌, ◌&&◌}
use Rattle.std.proofs.lemmas.Bool.{cases_eq, or_cases, or_left, or_right, and_parts, and_from}
use Rattle.std.proofs.lemmas.Bool.{true≢false}
use Rattle.mrc_base.specs.declared.PortRight.{PortRight}
use Rattle.mrc_base.specs.declared.PortRight.TheVariants.{Send, SendOnce}
use Rattle.mrc_base.specs.declared.Fact.{Fact}
use Rattle.mrc_base.specs.declared.Fact.TheVariants.{Hold}
use Rattle.mrc_model.specs.Rights.{same_right}
use Rattle.mrc_model.specs.Wiring.{Wiring, accepts_destroyed}
use Rattle.mrc_classes.specs.declared.rule_names.RuleName.{RuleName}
use Rattle.mrc_classes.specs.declared.rule_names.RuleName.TheVariants.{Request}
use Rattle.mrc_classes.specs.Marking.{Marked}
use Rattle.mrc_classes.specs.Concluding.{sources, leads, Comes, Concludes}

abbrev Tests : Type 0
Tests = ℕ → PortRight → Bool

-- marks by a test
pub marked_by : (n : ℕ) (before after test : Tests)
    → ((c : ℕ) (r : PortRight) → c < n → after c r ≡ (before c r || test c r))
    → Marked n before after (λ c r. IsTrue (test c r))
marked_by n before after test is = record {
  kept = λ c r low h. subst IsTrue (sym (is c r low)) (or_left (before c r) (test c r) h);
  all = λ c r low h. subst IsTrue (sym (is c r low)) (or_right (before c r) (test c r) h);
  new = λ c r low h. or_cases (before c r) (test c r) (subst IsTrue (is c r low) h);
}

pub marked_as : (n : ℕ) (before after : Tests) (P Q : ℕ → PortRight → Type 0)
    → Marked n before after P
    → ((c : ℕ) (r : PortRight) → c < n → P c r → Q c r)
    → ((c : ℕ) (r : PortRight) → c < n → Q c r → P c r)
    → Marked n before after Q
marked_as n before after P Q p there back = record {
  kept = p.kept;
  all = λ c r low q. p.all c r low (back c r low q);
  new = λ c r low h. elim (p.new c r low h) [ inl was ↦ inl was | inr x ↦ inr (there c r low x) ];
}

-- marks by two tests
pub marked_both : (n : ℕ) (before after test other : Tests)
    → ((c : ℕ) (r : PortRight) → c < n → after c r ≡ (before c r || (test c r && other c r)))
    → Marked n before after (λ c r. IsTrue (test c r) × IsTrue (other c r))
marked_both n before after test other is =
    marked_as n before after (λ c r. IsTrue (test c r && other c r))
    (λ c r. IsTrue (test c r) × IsTrue (other c r))
    (marked_by n before after (λ c r. test c r && other c r) is)
    (λ c r low x. and_parts (test c r) (other c r) x)
    (λ c r low x. and_from (test c r) (other c r) x.0 x.1)

-- what comes by the first sources, this many
pub record ByFirst (W : Wiring) (S T : Fact → Bool) (rule : RuleName) (row n c : ℕ) (r : PortRight)
    : Type 0 where
  pub source : ℕ
  pub below : source < n
  pub first : IsTrue (leads W S rule row source)
  pub last : Comes W T rule row source c r

module _ (W : Wiring) (S T : Fact → Bool) (rule : RuleName) (row : ℕ) where
  pub none_yet : (n : ℕ) (before : Tests) → Marked n before before (ByFirst W S T rule row 0)
  none_yet n before = record {
    kept = λ c r low h. h;
    all = λ c r low x. absurd (omega (arith, x.below));
    new = λ c r low h. inl h;
  }

  -- the next source leads
  pub one_more : (n k : ℕ) (before now after : Tests)
      → Marked n before now (ByFirst W S T rule row k)
      → IsTrue (leads W S rule row k)
      → Marked n now after (Comes W T rule row k)
      → Marked n before after (ByFirst W S T rule row (k + 1))
  one_more n k before now after p leading q = record {
    kept = λ c r low h. q.kept c r low (p.kept c r low h);
    all = λ c r low x. elim (cases_eq x.source k) [
      | inl same ↦ q.all c r low (subst (λ i. Comes W T rule row i c r) same x.last)
      | inr other ↦ q.kept c r low (p.all c r low (record {
        source = x.source;
        below = omega (arith, x.below, other);
        first = x.first;
        last = x.last;
      }))
    ];
    new = λ c r low h. elim (q.new c r low h) [
      | inl was ↦ elim (p.new c r low was) [
        | inl old ↦ inl old
        | inr x ↦ inr (record {
          source = x.source;
          below = omega (arith, x.below);
          first = x.first;
          last = x.last;
        })
      ]
      | inr x ↦ inr (record { source = k; below = omega arith; first = leading; last = x })
    ];
  }

  -- it does not
  pub none_more : (n k : ℕ) (before now : Tests)
      → Marked n before now (ByFirst W S T rule row k)
      → leads W S rule row k ≡ false
      → Marked n before now (ByFirst W S T rule row (k + 1))
  none_more n k before now p not_leading =
      marked_as n before now (ByFirst W S T rule row k) (ByFirst W S T rule row (k + 1)) p
      (λ c r low x. record {
        source = x.source;
        below = omega (arith, x.below);
        first = x.first;
        last = x.last;
      })
      (λ c r low x. elim (cases_eq x.source k) [
        | inl same ↦ absurd (true≢false (sym (subst (λ i. IsTrue (leads W S rule row i)) same x.first)
            ∙ not_leading))
        | inr other ↦ record {
          source = x.source;
          below = omega (arith, x.below, other);
          first = x.first;
          last = x.last;
        }
      ])

  -- all sources
  pub all_sources : (n k : ℕ) (before now : Tests) → k ≡ sources W rule
      → Marked n before now (ByFirst W S T rule row k)
      → Marked n before now (Concludes W S T rule row)
  all_sources n k before now end p =
      marked_as n before now (ByFirst W S T rule row k) (Concludes W S T rule row) p
      (λ c r low x. record {
        source = x.source;
        there = omega (arith, x.below);
        first = x.first;
        last = x.last;
      })
      (λ c r low x. record {
        source = x.source;
        below = omega (arith, x.there);
        first = x.first;
        last = x.last;
      })

-- a mask of two rows
pub three_rows : (low more mask limits : Bool)
    → (low && (more && (low && (mask && limits)))) ≡ (low && (limits && (more && mask)))
three_rows false more mask limits = refl
three_rows true false mask true = refl
three_rows true false mask false = refl
three_rows true true true true = refl
three_rows true true true false = refl
three_rows true true false true = refl
three_rows true true false false = refl

-- what a request marks
pub asked : (n : ℕ) (before after : Tests) (W : Wiring) (T : Fact → Bool) (row t : ℕ)
    → ((c : ℕ) (r : PortRight) → c < n → after c r
    ≡ (before c r || (same_right r Send && (T (Hold t c SendOnce) && accepts_destroyed W c))))
    → Marked n before after (Comes W T Request row t)
asked n before after W T row t is =
    marked_as n before after
    (λ c r. IsTrue (same_right r Send && (T (Hold t c SendOnce) && accepts_destroyed W c)))
    (Comes W T Request row t)
    (marked_by n before after
    (λ c r. same_right r Send && (T (Hold t c SendOnce) && accepts_destroyed W c)) is)
    (λ c r low x.
    let p = and_parts (same_right r Send) (T (Hold t c SendOnce) && accepts_destroyed W c) x in
    let q = and_parts (T (Hold t c SendOnce)) (accepts_destroyed W c) p.1 in (p.0, q.1, q.0))
    (λ c r low x.
    and_from (same_right r Send) (T (Hold t c SendOnce) && accepts_destroyed W c) x.0
    (and_from (T (Hold t c SendOnce)) (accepts_destroyed W c) x.2 x.1))
