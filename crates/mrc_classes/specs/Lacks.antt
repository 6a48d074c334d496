-- Step. Which conclusions of a rule a set lacks, by its row, its class and its right; for
-- `violation_row` to be believed. W is the wiring, S tells the facts of the set. This profile's own
-- choice.
use Rattle.std.specs.Prelude.{◌≡◌, ℕ, ◌<◌, Bool, false, IsTrue}
use Rattle.mrc_base.specs.declared.PortRight.{PortRight}
use Rattle.mrc_base.specs.declared.Fact.{Fact}
use Rattle.mrc_model.specs.Wiring.{Wiring, classes}
use Rattle.mrc_facts.specs.Order.{right_number}
use Rattle.mrc_classes.specs.Concluding.{conclusion, rows, Concludes}
use Rattle.mrc_classes.specs.Marking.{is_marked}
use Rattle.mrc_classes.specs.declared.marks.Marks.{Marks}
use Rattle.mrc_classes.specs.declared.rule_names.RuleName.{RuleName}

-- the rule concludes it, and the set lacks it
pub record Lacks (W : Wiring) (S : Fact → Bool) (rule : RuleName) (row c : ℕ) (r : PortRight)
    : Type 0 where
  pub concluded : Concludes W S S rule row c r
  pub absent : S (conclusion rule row c r) ≡ false

-- the right is marked at the class, and the set lacks the rule's conclusion there
pub record IsLackAt (S : Fact → Bool) (marks : Marks) (rule : RuleName) (row c : ℕ) (r : PortRight)
    : Type 0 where
  pub marked : IsTrue (is_marked marks c r)
  pub absent : S (conclusion rule row c r) ≡ false

-- Of such lacks among the classes below n and the rights of a number below k this is that of the
-- first class, and then of the first right.
pub record IsFirstPlace (S : Fact → Bool) (marks : Marks) (rule : RuleName) (row n k : ℕ)
    (p : ℕ × PortRight) : Type 0 where
  pub class_there : p.0 < n
  pub right_there : right_number p.1 < k
  pub lack : IsLackAt S marks rule row p.0 p.1
  pub least_class : (c : ℕ) (q : PortRight) → c < p.0 → right_number q < k
      → IsLackAt S marks rule row c q → ⊥
  pub least_right : (q : PortRight) → right_number q < right_number p.1
      → IsLackAt S marks rule row p.0 q → ⊥

-- there is none
abbrev pub NoPlace : (Fact → Bool) → Marks → RuleName → ℕ → ℕ → ℕ → Type 0
NoPlace S marks rule row n k =
    (c : ℕ) (q : PortRight) → c < n → right_number q < k → IsLackAt S marks rule row c q → ⊥

-- the set has each fact over the wiring's classes that the rule concludes in this row
abbrev pub LacksNoneIn : Wiring → (Fact → Bool) → RuleName → ℕ → Type 0
LacksNoneIn W S rule row = (c : ℕ) (r : PortRight) → c < classes W → Lacks W S rule row c r → ⊥

-- the set has each fact over the tasks and classes that the rule concludes
abbrev pub LacksNothing : Wiring → (Fact → Bool) → RuleName → Type 0
LacksNothing W S rule = (row : ℕ) → row < rows W rule → LacksNoneIn W S rule row

-- the set lacks this fact by the rule in this row, and none before it there
pub record IsRowLack (W : Wiring) (S : Fact → Bool) (rule : RuleName) (row : ℕ) (f : Fact)
    : Type 0 where
  pub class : ℕ
  pub right : PortRight
  pub is : f ≡ conclusion rule row class right
  pub class_there : class < classes W
  pub lacks : Lacks W S rule row class right
  pub least_class : (c : ℕ) (q : PortRight) → c < class → Lacks W S rule row c q → ⊥
  pub least_right : (q : PortRight) → right_number q < right_number right
      → Lacks W S rule row class q → ⊥

-- the set lacks some fact by the rule in this row, which the rule has
pub record IsLackingRow (W : Wiring) (S : Fact → Bool) (rule : RuleName) (row : ℕ) : Type 0 where
  pub row_there : row < rows W rule
  pub class : ℕ
  pub right : PortRight
  pub class_there : class < classes W
  pub lacks : Lacks W S rule row class right

-- the set lacks this fact by the rule, and none before it
pub record IsFirstLack (W : Wiring) (S : Fact → Bool) (rule : RuleName) (f : Fact) : Type 0 where
  pub row : ℕ
  pub row_there : row < rows W rule
  pub lack : IsRowLack W S rule row f
  pub least_row : (t : ℕ) → t < row → LacksNoneIn W S rule t
