-- Believe. Which lines of a policy are broken, and what a yes and a no say. The lines of a policy
-- that are broken, each with a chain that derives what it forbids; the trusted task that another
-- could rewrite; and the verdict. This profile's own choice.
use Rattle.std.specs.Prelude.{◌≡◌, ◌⊎◌, ℕ, Bool, true, false, List, [], ◌∷◌, ◌++◌, filter, map}
use Rattle.std.specs.Prelude.{Option, Some, None, IfSome}
use Rattle.std.specs.List.{All}
use Rattle.mrc_base.specs.declared.Fact.{Fact}
use Rattle.mrc_base.specs.declared.Fact.TheVariants.{Hold}
use Rattle.mrc_model.specs.Rules.{IsLeast, SaysYes}
use Rattle.mrc_wiring.specs.declared.claim.ForbiddenLine.{ForbiddenLine}
use Rattle.mrc_wiring.specs.Claims.{Claimed, policy_of}
use Rattle.mrc_wiring.specs.Table.{Table, wiring_of}
use Rattle.mrc_facts.specs.Sets.{has}
use Rattle.mrc_closure.specs.declared.chains.Step.{Step}
use Rattle.mrc_closure.specs.Chains.{IsChain}
use Rattle.mrc_check.specs.Trusted.{AreSecure, IsExposed}
use Rattle.mrc_why.specs.Derived.{Derived}

-- A line that is broken, and the steps that lead there.
pub record BrokenLine : Type 0 where
  pub line : ForbiddenLine
  pub steps : List Step

-- the fact that a line forbids
abbrev pub forbidden_fact : ForbiddenLine → Fact
forbidden_fact line = Hold line.task line.class line.right

-- the set has what the line forbids
abbrev pub is_broken : (Fact → Bool) → ForbiddenLine → Bool
is_broken set line = set (forbidden_fact line)

-- those of the lines that forbid a fact of the set, in order
abbrev pub broken_lines : (Fact → Bool) → List ForbiddenLine → List ForbiddenLine
broken_lines set lines = filter (is_broken set) lines

-- the line of a broken line
abbrev pub line_of : BrokenLine → ForbiddenLine
line_of broken = broken.line

-- they are the lines of the claim's policy that forbid a fact of the least set: no other, none is
-- left out, and in their order
abbrev pub AreBroken : Claimed → List BrokenLine → Type 0
AreBroken claim broken = (set : Fact → Bool) → IsLeast (wiring_of claim.table) set
    → map line_of broken ≡ broken_lines set claim.lines

-- the steps derive what the line forbids, over the wiring of this table
abbrev pub IsDerivedIn : Table → BrokenLine → Type 0
IsDerivedIn table broken = IsChain (wiring_of table) (forbidden_fact broken.line) broken.steps

-- over that of the claim
abbrev pub IsDerived : Claimed → BrokenLine → Type 0
IsDerived claim broken = IsDerivedIn claim.table broken

-- A trusted task that another could rewrite: the number of the first trust line about it, the hold
-- by which the other could, and the steps that lead there.
pub record ExposedTask : Type 0 where
  pub line : ℕ
  pub fact : Fact
  pub steps : List Step

-- the first trusted task that another could rewrite by the set; none if no task could rewrite one
abbrev pub IsFirstExposed : Table → (Fact → Bool) → Option ExposedTask → Type 0
IsFirstExposed table set None = AreSecure (wiring_of table) set table.trusts
IsFirstExposed table set (Some x) = IsExposed table set x.line x.fact

-- that is so by the least set
abbrev pub IsExposedOf : Claimed → Option ExposedTask → Type 0
IsExposedOf claim exposed = (set : Fact → Bool) → IsLeast (wiring_of claim.table) set
    → IsFirstExposed claim.table set exposed

-- the steps derive the hold by which a trusted task could be rewritten
abbrev pub IsReached : Table → ExposedTask → Type 0
IsReached table x = IsChain (wiring_of table) x.fact x.steps

-- the facts are the least set; by them this is the first trusted task that another could rewrite,
-- if there is one, and these are the broken lines; the steps of each derive its fact
pub record IsFound (claim : Claimed) (facts : List Fact) (exposed : Option ExposedTask)
    (broken : List BrokenLine) : Type 0 where
  pub least : IsLeast (wiring_of claim.table) (has facts)
  pub first : IsFirstExposed claim.table (has facts) exposed
  pub chain : IfSome exposed (IsReached claim.table)
  pub lines : map line_of broken ≡ broken_lines (has facts) claim.lines
  pub chains : All (IsDerived claim) broken

-- what verify finds is a yes: no trusted task that another could rewrite, and no broken line
abbrev pub is_yes : Option ExposedTask → List BrokenLine → Bool
is_yes (Some x) lines = false
is_yes None [] = true
is_yes None (line ∷ lines) = false

-- a least set of the claim's wiring by which no task could rewrite a trusted one, and that the
-- checker says yes to
pub record IsYes (claim : Claimed) (facts : List Fact) : Type 0 where
  pub least : IsLeast (wiring_of claim.table) (has facts)
  pub secure : AreSecure (wiring_of claim.table) (has facts) claim.table.trusts
  pub says : SaysYes (wiring_of claim.table) (policy_of claim) (has facts)

-- there is one
abbrev pub HasYes : Claimed → Type 0
HasYes claim = (facts : List Fact) × IsYes claim facts

-- the checker says yes to no set by which no task could rewrite a trusted one
abbrev pub HasNoYes : Claimed → Type 0
HasNoYes claim =
    (set : Fact → Bool) → SaysYes (wiring_of claim.table) (policy_of claim) set
    → AreSecure (wiring_of claim.table) set claim.table.trusts → ⊥

-- one more line is told, with a chain that derives what it forbids
pub record HasOneMore (d : Derived) (line : ForbiddenLine) (before after : List BrokenLine)
    : Type 0 where
  pub steps : List Step
  pub derives : IsChain (wiring_of d.table) (forbidden_fact line) steps
  pub pushed : after ≡ before ++ (record { line = line; steps = steps }) ∷ []

-- the line is told where it is broken, and else nothing is
abbrev pub IsJudged : Derived → ForbiddenLine → List BrokenLine → List BrokenLine → Type 0
IsJudged d line before after =
    ((is_broken (has d.facts) line ≡ true) × HasOneMore d line before after)
    ⊎ ((is_broken (has d.facts) line ≡ false) × (after ≡ before))
