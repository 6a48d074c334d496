-- Believe. What all broken lines of a policy have in common: a fact that is in the chain of each.
-- This profile's own choice.
use Rattle.std.specs.Prelude.{◌≡◌, ◌+◌, ◌<◌, ℕ, List, Some, length, string_bytes}
use Rattle.std.specs.List.{All, Contains, slice_get}
use Rattle.mrc_base.specs.declared.Fact.{Fact}
use Rattle.mrc_wiring.specs.Table.{Table}
use Rattle.mrc_wiring.specs.Claims.{Claimed}
use Rattle.mrc_closure.specs.declared.chains.Step.{Step}
use Rattle.mrc_closure.specs.Chains.{IsAt, place_list}
use Rattle.mrc_words.specs.Words.{fact_text}
use Rattle.mrc_why.specs.Broken.{BrokenLine, AreBroken, IsDerived}
use Rattle.mrc_mend.specs.declared.causes.Cause.{Cause}

-- a step concludes the fact
abbrev pub IsConcluded : Fact → List Step → Type 0
IsConcluded fact steps = (n : ℕ) × IsAt steps n fact

-- a step has that at place n among its premises. In a chain it is a later step: all have their
-- premises before them
pub record IsUsed (steps : List Step) (n : ℕ) : Type 0 where
  pub user : ℕ
  pub step : Step
  pub there : slice_get steps user ≡ Some step
  pub uses : Contains (place_list step.premises) n

-- no step is idle: each but the last is a premise of another
abbrev pub HaveNoIdle : List Step → Type 0
HaveNoIdle steps = (n : ℕ) → n + 1 < length steps → IsUsed steps n

-- the chain of a line has no idle step
abbrev pub IsUsedUp : BrokenLine → Type 0
IsUsedUp broken = HaveNoIdle broken.steps

-- a step of the chain of each line concludes the fact
abbrev pub AreShared : List BrokenLine → Fact → Type 0
AreShared broken fact = All (λ b. IsConcluded fact b.steps) broken

-- so many are the broken lines, no chain has an idle step, and the fact of this text is in each
pub record IsCauseOf (table : Table) (broken : List BrokenLine) (cause : Cause) : Type 0 where
  pub fact : Fact
  pub used : All IsUsedUp broken
  pub shared : AreShared broken fact
  pub text : string_bytes cause.fact ≡ fact_text table fact
  pub count : cause.lines ≡ length broken

-- that is so of the broken lines of the claim's policy, and of chains that derive what they forbid
pub record IsCause (claim : Claimed) (cause : Cause) : Type 0 where
  pub broken : List BrokenLine
  pub are : AreBroken claim broken
  pub chains : All (IsDerived claim) broken
  pub shares : IsCauseOf claim.table broken cause
