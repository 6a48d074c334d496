-- What the rules conclude and a set lacks is what its rows lack, so the first lack is the first missing
-- fact.
use Rattle.std.proofs.Common.{◌≡◌, ℕ, ◌<◌, Bool, true, false, Option, Some, None}
use Rattle.std.proofs.Common.{refl, sym, ap, subst, ◌∙◌, IsTrue, ◌⊎◌, inl, inr, arith, ◌==◌}
use Rattle.std.proofs.Common.{if◌then◌else◌}
use Rattle.std.specs.Prelude.{IfSome, IfNone}
use Rattle.std.proofs.lemmas.Bool.{cases_order}
use Rattle.mrc_base.specs.declared.PortRight.{PortRight}
use Rattle.mrc_base.specs.declared.Fact.{Fact}
use Rattle.mrc_model.specs.Wiring.{Wiring, classes}
use Rattle.mrc_model.specs.Rules.{Has, InRange, Closed}
use Rattle.mrc_facts.specs.Order.{is_before, right_number}
use Rattle.mrc_classes.specs.declared.rule_names.RuleName.{RuleName}
use Rattle.mrc_classes.specs.declared.rule_names.RuleName.TheVariants.{First, Births, Weaker, Slot}
use Rattle.mrc_classes.specs.declared.rule_names.RuleName.TheVariants.{Reply, Received, KernelPort}
use Rattle.mrc_classes.specs.declared.rule_names.RuleName.TheVariants.{Request, Notice, Returned}
use Rattle.mrc_classes.specs.declared.lacking.Missing.{Missing}
use Rattle.mrc_classes.specs.Concluding.{conclusion, rows}
use Rattle.mrc_classes.specs.Lacks.{Lacks, LacksNothing, IsFirstLack}
use Rattle.mrc_classes.specs.Missing.{rule_number, IsMissing, IsFirstMissing, IsAnswer}
use Rattle.mrc_facts.proofs.Comparing.{IsLess, three_less}
use Rattle.mrc_classes.proofs.Meaning.{IsTested, tested, concluded, follows_of, all_known}

-- places of facts

pub placed : (W : Wiring) (rule : RuleName) (row c : ℕ) (r : PortRight)
    → InRange W (conclusion rule row c r)
    → (row < rows W rule) × (c < classes W)
placed W First row c r h = h
placed W Births row c r h = h
placed W Weaker row c r h = h
placed W Slot row c r h = h
placed W Reply row c r h = h
placed W Received row c r h = h
placed W KernelPort row c r h = h
placed W Request row c r h = h
placed W Notice row c r h = h
placed W Returned row c r h = h

-- a conclusion that comes before another of the same rule has a lesser place
less_place : (rule : RuleName) (a c : ℕ) (q : PortRight) (b d : ℕ) (p : PortRight)
    → is_before (conclusion rule a c q) (conclusion rule b d p) ≡ true
    → IsLess a c (right_number q) b d (right_number p)
less_place First a c q b d p e = three_less a c (right_number q) b d (right_number p) e
less_place Births a c q b d p e = three_less a c (right_number q) b d (right_number p) e
less_place Weaker a c q b d p e = three_less a c (right_number q) b d (right_number p) e
less_place Slot a c q b d p e = three_less a c (right_number q) b d (right_number p) e
less_place Reply a c q b d p e = three_less a c (right_number q) b d (right_number p) e
less_place Received a c q b d p e = three_less a c (right_number q) b d (right_number p) e
less_place KernelPort a c q b d p e = three_less a c (right_number q) b d (right_number p) e
less_place Notice a c q b d p e = three_less a c (right_number q) b d (right_number p) e
less_place Returned a c q b d p e = three_less a c (right_number q) b d (right_number p) e
less_place Request a c q b d p e = elim (three_less a c 0 b d 0 e) [
  | inl low ↦ inl low
  | inr (same, inl low) ↦ inr (same, inl low)
  | inr (same, inr (also, none)) ↦ absurd (omega arith)
]

-- rules of one number are one

abbrev rule_at : ℕ → RuleName
rule_at n =
    if n == 1 then First
    else if n == 2 then Births
    else if n == 3 then Weaker
    else if n == 4 then Slot
    else if n == 5 then Reply
    else if n == 6 then Received
    else if n == 7 then KernelPort
    else if n == 8 then Request
    else if n == 9 then Notice
    else Returned

rule_back : (rule : RuleName) → rule_at (rule_number rule) ≡ rule
rule_back First = refl
rule_back Births = refl
rule_back Weaker = refl
rule_back Slot = refl
rule_back Reply = refl
rule_back Received = refl
rule_back KernelPort = refl
rule_back Request = refl
rule_back Notice = refl
rule_back Returned = refl

pub number_rule : (a b : RuleName) → rule_number a ≡ rule_number b → a ≡ b
number_rule a b e = sym (rule_back a) ∙ (ap rule_at e ∙ rule_back b)

module _ (W : Wiring) (S : Fact → Bool) where
  -- what a rule concludes and the set lacks, the test of the rule finds lacking
  lacks_at : (k : ℕ) (g : Fact) (t : IsTested W S S k g)
      → InRange W g
      → S g ≡ false
      → (t.row < rows W t.rule) × (t.class < classes W) × Lacks W S t.rule t.row t.class t.right
  lacks_at k g t within absent =
      let p = placed W t.rule t.row t.class t.right (subst (InRange W) t.is within) in (
        p.0,
        p.1,
        record { concluded = t.concluded; absent = subst (λ y. S y ≡ false) t.is absent },
      )

  -- where no test finds anything lacking, the set is closed
  closed_from_tests : ((rule : RuleName) → LacksNothing W S rule) → Closed W (Has S)
  closed_from_tests nothing k premises g rule all within =
      elim (S g) as (λ b. S g ≡ b → IsTrue b) [
        | true ↦ λ e. refl
        | false ↦ λ e.
            let t = tested W S S k premises g rule (all_known W (Has S) premises all) within in
            let l = lacks_at k g t within e in
            absurd (nothing t.rule t.row l.0 t.class t.right l.1 l.2)
      ] refl

  -- the first lack is the first missing fact
  first_from_tests : (rule : RuleName) (f : Fact)
      → IsFirstLack W S rule f
      → ((q : RuleName) → rule_number q < rule_number rule → LacksNothing W S q)
      → IsFirstMissing W S (rule_number rule) f
  first_from_tests rule f x earlier = record { missing = missing; least = least }
    where
      missing : IsMissing W S (rule_number rule) f
      missing =
          subst (λ y. IsMissing W S (rule_number rule) y) (sym x.lack.is)
          (record {
            follows = follows_of W (Has S) (rule_number rule)
                (conclusion rule x.row x.lack.class x.lack.right) (concluded W S S rule x.row
                x.lack.class x.lack.right x.row_there x.lack.class_there x.lack.lacks.concluded);
            absent = x.lack.lacks.absent;
          })

      none_before : (row c : ℕ) (q : PortRight)
          → c < classes W
          → Lacks W S rule row c q
          → IsLess row c (right_number q) x.row x.lack.class (right_number x.lack.right)
          → ⊥
      none_before row c q high l (inl low) = x.least_row row low c q high l
      none_before row c q high l (inr (same, inl low)) =
          x.lack.least_class c q low (subst (λ n. Lacks W S rule n c q) same l)
      none_before row c q high l (inr (same, inr (also, low))) =
          x.lack.least_right q low (subst (λ n. Lacks W S rule n x.lack.class q) same
          (subst (λ n. Lacks W S rule row n q) also l))

      not_before : (row c : ℕ) (q : PortRight)
          → c < classes W
          → Lacks W S rule row c q
          → is_before (conclusion rule row c q) (conclusion rule x.row x.lack.class x.lack.right) ≡ false
      not_before row c q high l =
          elim (is_before (conclusion rule row c q) (conclusion rule x.row x.lack.class x.lack.right)) as
          (λ b. is_before (conclusion rule row c q) (conclusion rule x.row x.lack.class x.lack.right) ≡ b
          → b ≡ false) [
            | true ↦ λ e. absurd (none_before row c q high l
                (less_place rule row c q x.row x.lack.class x.lack.right e))
            | false ↦ λ e. refl
          ] refl

      compared : (j : ℕ) (g : Fact) (t : IsTested W S S j g)
          → (t.row < rows W t.rule) × (t.class < classes W)
          × Lacks W S t.rule t.row t.class t.right
          → (j ≡ rule_number rule) ⊎ ((j < rule_number rule) ⊎ (rule_number rule < j))
          → (rule_number rule < j) ⊎ ((rule_number rule ≡ j) × (is_before g f ≡ false))
      compared j g t l (inl same) =
          let one : t.rule ≡ rule = number_rule t.rule rule (t.number ∙ same) in
          let lacks : Lacks W S rule t.row t.class t.right = subst
          (λ q. Lacks W S q t.row t.class t.right) one l.2 in
          let at : is_before (conclusion t.rule t.row t.class t.right) f ≡ false = subst
          (λ q. is_before (conclusion q t.row t.class t.right) f ≡ false) (sym one)
          (subst (λ y. is_before (conclusion rule t.row t.class t.right) y ≡ false) (sym x.lack.is)
          (not_before t.row t.class t.right l.1 lacks)) in
          inr (sym same, subst (λ y. is_before y f ≡ false) (sym t.is) at)
      compared j g t l (inr (inl low)) =
          absurd (earlier t.rule (omega (arith, t.number)) t.row l.0 t.class t.right l.1 l.2)
      compared j g t l (inr (inr high)) = inl high

      least : (j : ℕ) (g : Fact)
          → IsMissing W S j g
          → (rule_number rule < j) ⊎ ((rule_number rule ≡ j) × (is_before g f ≡ false))
      least j g m =
          let t = tested W S S j m.follows.premises g m.follows.rule
          (all_known W (Has S) m.follows.premises m.follows.known)
          m.follows.in_range in
          compared j g t (lacks_at j g t m.follows.in_range m.absent)
          (cases_order j (rule_number rule))

  -- what the search by the tests answers
  pub answered : (o : Option Missing)
      → IfSome o (λ m. IsFirstLack W S m.rule m.fact)
      → IfSome o (λ m. (rule : RuleName) → rule_number rule < rule_number m.rule
      → LacksNothing W S rule)
      → IfNone o ((rule : RuleName) → LacksNothing W S rule)
      → IsAnswer W S o
  answered None found earlier none = closed_from_tests none
  answered (Some m) found earlier none = first_from_tests m.rule m.fact found earlier
