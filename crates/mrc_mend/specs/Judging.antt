-- Believe. Only `IsMend`, `IsNeeded`, `AreAtMost`, `of_line`: which changes mend a wiring. This
-- profile's own choice.
use Rattle.std.specs.Prelude.{◌≡◌, ◌==◌, ◌⊎◌, ℕ, ◌≤◌, true, false, List, length, filter, Option, Some, None}
use Rattle.std.specs.Prelude.{Result, Ok, IfSome}
use Rattle.std.specs.List.{All}
use Rattle.mrc_forms.specs.Tables.{Table as Interface}
use Rattle.mrc_wiring.specs.declared.claim.ForbiddenLine.{ForbiddenLine}
use Rattle.mrc_wiring.specs.Claims.{Claimed}
use Rattle.mrc_check.specs.Texts.{Meaningless, Policy, Stated, stated_over, stated_of}
use Rattle.mrc_why.specs.Answered.{IsMet}
use Rattle.mrc_why.specs.Broken.{HasYes, HasNoYes}
use Rattle.mrc_mend.specs.declared.changes.Change.{Change}
use Rattle.mrc_mend.specs.declared.answers.Answer.{Answer}
use Rattle.mrc_mend.specs.declared.answers.Answer.TheVariants.{Nothing, Found}
use Rattle.mrc_mend.specs.declared.answers.Mend.{Mend}
use Rattle.mrc_mend.specs.declared.judging.Verdict.{Verdict}
use Rattle.mrc_mend.specs.declared.judging.Verdict.TheVariants as verdict
use Rattle.mrc_mend.specs.Causes.{IsCause}
use Rattle.mrc_mend.specs.Mending.{mended}

-- those of a policy's lines that are asked for: all, or those of one number
abbrev pub asked_lines : Option ℕ → List ForbiddenLine → List ForbiddenLine
asked_lines None lines = lines
asked_lines (Some n) lines = filter (λ line. line.line == n) lines

-- the claim of the lines that are asked for
abbrev pub of_line : Option ℕ → Claimed → Claimed
of_line only claim = record { table = claim.table; lines = asked_lines only claim.lines }

-- the bytes of a wiring that is to be mended, a policy, and the number of the only line of
-- the policy that is asked for, if not all are
pub record Texts : Type 0 where
  pub wiring : List ℕ
  pub policy : Policy
  pub only : Option ℕ

-- the answer to the lines that are asked for is yes: the least set is one, by which no task could
-- rewrite a trusted one, and has what the policy expects
abbrev pub IsYesTo : Option ℕ → Stated → Type 0
IsYesTo only stated = HasYes (of_line only stated.claim) × IsMet stated true

-- what the wiring with the changes and the policy mean over interfaces
abbrev pub stated_with : List Interface → Texts → List Change → Result Stated Meaningless
stated_with interfaces texts changes =
    stated_over interfaces (mended texts.wiring changes) texts.policy

-- the wiring with the changes has a meaning, and the answer to what is asked for is yes
pub record MendOver (interfaces : List Interface) (texts : Texts) (changes : List Change)
    : Type 0 where
  pub stated : Stated
  pub means : stated_with interfaces texts changes ≡ Ok stated
  pub yes : IsYesTo texts.only stated

-- the changes mend the wiring: its text, changed as it is printed, has a meaning with the policy
-- over the MIG files, and the answer is yes: to all lines that forbid, or to the one that is asked
-- for
pub record IsMend (defs : List (List ℕ)) (wiring : List ℕ) (policy : Policy) (only : Option ℕ)
    (changes : List Change) : Type 0 where
  pub stated : Stated
  pub means : stated_of defs (mended wiring changes) policy ≡ Ok stated
  pub yes : IsYesTo only stated

-- where the changes are said to mend a wiring, this holds
abbrev pub IfMending : Type 0 → Verdict → Type 0
IfMending mending (verdict.Mends lost) = mending
IfMending mending (verdict.Fails failed) = Unit {0}
IfMending mending verdict.Senseless = Unit {0}

-- the changes of each mend are such
abbrev pub AllAre : (List Change → Type 0) → List Mend → Type 0
AllAre P mends = All (λ m. P m.changes.items) mends

-- the changes of each mend that is answered are such
abbrev pub AreAnswered : (List Change → Type 0) → Answer → Type 0
AreAnswered P Nothing = Unit {0}
AreAnswered P (Found mends) = AllAre P mends.mends.items

-- no more mends are answered than that
abbrev pub AreAtMost : ℕ → Answer → Type 0
AreAtMost most Nothing = Unit {0}
AreAtMost most (Found mends) = length mends.mends.items ≤ most

-- of a system there is nothing to mend if and only if the answer to the lines that are asked for is
-- yes; else no set is one, or the least lacks what the policy expects
abbrev pub IsNeeded : Option ℕ → Stated → Answer → Type 0
IsNeeded only stated Nothing = IsYesTo only stated
IsNeeded only stated (Found mends) =
    HasNoYes (of_line only stated.claim) ⊎ IsMet stated false

-- what is told of a claim that its broken lines have in common is so
abbrev pub HasCause : Claimed → Answer → Type 0
HasCause claim Nothing = Unit {0}
HasCause claim (Found mends) = IfSome mends.cause (IsCause claim)

-- the files have a meaning, of which this is needed for the lines that are asked for; and what is
-- told that its broken lines have in common is so
pub record IsNeededOf (made : Result Stated Meaningless) (only : Option ℕ) (answer : Answer)
    : Type 0 where
  pub stated : Stated
  pub is : made ≡ Ok stated
  pub needed : IsNeeded only stated answer
  pub cause : HasCause stated.claim answer
