-- Believe. What a set of facts lacks by the ten rules, which lack is the first, and the numbers of
-- the rules. This profile's own choice.
use Rattle.std.specs.Prelude.{◌≡◌, ℕ, ◌<◌, ◌⊎◌, Bool, false, List, Option, Some, None}
use Rattle.mrc_base.specs.declared.Fact.{Fact}
use Rattle.mrc_model.specs.Wiring.{Wiring}
use Rattle.mrc_model.specs.Rules.{Has, Follows, Closed}
use Rattle.mrc_facts.specs.Order.{is_before}
use Rattle.mrc_classes.specs.declared.rule_names.RuleName.{RuleName}
use Rattle.mrc_classes.specs.declared.rule_names.RuleName.TheVariants.{First, Births, Weaker, Slot}
use Rattle.mrc_classes.specs.declared.rule_names.RuleName.TheVariants.{Reply, Received, KernelPort}
use Rattle.mrc_classes.specs.declared.rule_names.RuleName.TheVariants.{Request, Notice, Returned}
use Rattle.mrc_classes.specs.declared.lacking.Missing.{Missing}

-- a wiring, and the set in which what is missing is looked for
pub record Searched : Type 0 where
  pub wiring : Wiring
  pub facts : List Fact

-- the number of a rule
abbrev pub rule_number : RuleName → ℕ
rule_number First = 1
rule_number Births = 2
rule_number Weaker = 3
rule_number Slot = 4
rule_number Reply = 5
rule_number Received = 6
rule_number KernelPort = 7
rule_number Request = 8
rule_number Notice = 9
rule_number Returned = 10

-- the rule of this number concludes the fact from the set, and the set lacks it
pub record IsMissing (W : Wiring) (set : Fact → Bool) (k : ℕ) (f : Fact) : Type 0 where
  pub follows : Follows W (Has set) k f
  pub absent : set f ≡ false

-- it is missing, and no missing fact has a rule of less number, or the same rule and lesser bytes
pub record IsFirstMissing (W : Wiring) (set : Fact → Bool) (k : ℕ) (f : Fact) : Type 0 where
  pub missing : IsMissing W set k f
  pub least : (j : ℕ) (g : Fact)
      → IsMissing W set j g
      → (k < j) ⊎ ((k ≡ j) × (is_before g f ≡ false))

-- what a search for a missing fact answers: none where the set is closed, else the first, with its
-- rule
abbrev pub IsAnswer : Wiring → (Fact → Bool) → Option Missing → Type 0
IsAnswer W set None = Closed W (Has set)
IsAnswer W set (Some m) = IsFirstMissing W set (rule_number m.rule) m.fact
