-- Step. What follows from new facts with those of a set, at the rows of one number; for
-- `conclude_at` to be believed. This profile's own choice.
use Rattle.std.specs.Prelude.{◌≡◌, ℕ, ◌<◌, ◌≤◌, ◌⊎◌, Bool, false, IsTrue}
use Rattle.mrc_base.specs.declared.PortRight.{PortRight}
use Rattle.mrc_base.specs.declared.Fact.{Fact}
use Rattle.mrc_model.specs.Wiring.{Wiring, classes}
use Rattle.mrc_classes.specs.Concluding.{conclusion, rows, has_two, Concludes}
use Rattle.mrc_classes.specs.Marking.{is_marked}
use Rattle.mrc_classes.specs.declared.marks.Marks.{Marks}
use Rattle.mrc_classes.specs.Missing.{rule_number}
use Rattle.mrc_classes.specs.declared.rule_names.RuleName.{RuleName}
use Rattle.mrc_classes.specs.declared.rule_names.RuleName.TheVariants.{First, Births}

-- the rule concludes it in this row, by premises of which the last is new, or the first of two
abbrev pub IsNew : Wiring → (Fact → Bool) → (Fact → Bool) → RuleName → ℕ → ℕ → PortRight → Type 0
IsNew W S N rule row c r =
    Concludes W S N rule row c r ⊎ (IsTrue (has_two rule) × Concludes W N S rule row c r)

-- the right is this one, and it is marked at the class
abbrev pub IsMarkedAs : Marks → PortRight → ℕ → PortRight → Type 0
IsMarkedAs marks right c r = (r ≡ right) × IsTrue (is_marked marks c right)

-- the right is marked at the class
abbrev pub AreMarked : Marks → ℕ → PortRight → Type 0
AreMarked marks c r = IsTrue (is_marked marks c r)

-- the fact is at this row, class and right of the rule
pub record InRow (W : Wiring) (rule : RuleName) (row : ℕ) (P : ℕ → PortRight → Type 0) (g : Fact)
    : Type 0 where
  pub class : ℕ
  pub right : PortRight
  pub there : class < classes W
  pub is : g ≡ conclusion rule row class right
  pub at : P class right

-- the rule concludes it from a new fact in the row of this number, which the rule has, and it is
-- not known
pub record ByRule (W : Wiring) (S N K : Fact → Bool) (row : ℕ) (rule : RuleName) (g : Fact)
    : Type 0 where
  pub there : row < rows W rule
  pub in_row : InRow W rule row (IsNew W S N rule row) g
  pub unknown : K g ≡ false

-- one of the two rules without premises concludes it in the row of this task
abbrev pub FirstAt : Wiring → (Fact → Bool) → ℕ → Fact → Type 0
FirstAt W S t g =
    InRow W First t (Concludes W S S First t) g ⊎ InRow W Births t (Concludes W S S Births t) g

-- one of the rules with premises, of those of a number below n
pub record RulesBelow (n : ℕ) (P : RuleName → Fact → Type 0) (g : Fact) : Type 0 where
  pub rule : RuleName
  pub premised : 3 ≤ rule_number rule
  pub below : rule_number rule < n
  pub at : P rule g

-- a rule concludes it from a new fact in the row of this number, and it is not known
abbrev pub AtPlace : Wiring → (Fact → Bool) → (Fact → Bool) → (Fact → Bool) → ℕ → Fact → Type 0
AtPlace W S N K p = RulesBelow 11 (ByRule W S N K p)
