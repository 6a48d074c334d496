-- Believe. When a certificate is accepted, and each reason why not. This profile's own choice.
use Rattle.std.specs.Prelude.{◌≡◌, ℕ, ◌<◌, ◌≤◌, Bool, List, length, Option, Some, find}
use Rattle.std.specs.Option.{option_map}
use Rattle.mrc_base.specs.declared.Fact.TheVariants.{Hold}
use Rattle.mrc_base.specs.declared.Fact.{Fact}
use Rattle.mrc_facts.specs.Sets.{has}
use Rattle.mrc_classes.specs.declared.rule_names.RuleName.{RuleName}
use Rattle.mrc_classes.specs.declared.rule_names.RuleName.TheVariants.{First, Births}
use Rattle.mrc_classes.specs.Missing.{rule_number, IsFirstMissing}
use Rattle.mrc_certificate.specs.Drafts.{Content}
use Rattle.mrc_model.specs.Wiring.{classes}
use Rattle.mrc_model.specs.Rules.{Has, Closed, SaysYes}
use Rattle.mrc_wiring.specs.declared.claim.ForbiddenLine.{ForbiddenLine}
use Rattle.mrc_wiring.specs.Table.{wiring_of}
use Rattle.mrc_wiring.specs.Claims.{Claimed, policy_of}
use Rattle.mrc_check.specs.declared.verdict.Why.{Why}
use Rattle.mrc_check.specs.declared.verdict.Why.TheVariants.{Counts, MissingFirst, NotClosed}
use Rattle.mrc_check.specs.declared.verdict.Why.TheVariants.{Trusted, Forbidden}
use Rattle.mrc_check.specs.Trusted.{AreSecure, IsExposed}

-- the draft has the numbers of the claim's wiring
pub record HasCounts (claim : Claimed) (draft : Content) : Type 0 where
  pub tasks : draft.tasks ≡ length claim.table.names
  pub class_count : draft.classes ≡ classes (wiring_of claim.table)
  pub births : draft.births ≡ length claim.table.births

-- the draft has the wiring's numbers, its facts are closed under the ten rules and expose no
-- trusted task, and none of them is forbidden
pub record IsAccepted (claim : Claimed) (draft : Content) : Type 0 where
  pub counts : HasCounts claim draft
  pub secure : AreSecure (wiring_of claim.table) (has draft.facts) claim.table.trusts
  pub yes : SaysYes (wiring_of claim.table) (policy_of claim) (has draft.facts)

-- a claim, and what a certificate says to it
pub record Case : Type 0 where
  pub claim : Claimed
  pub draft : Content

-- the line forbids a hold of the set
abbrev pub is_broken : List Fact → ForbiddenLine → Bool
is_broken facts line = has facts (Hold line.task line.class line.right)

-- the number of a line
abbrev pub line_number : ForbiddenLine → ℕ
line_number line = line.line

-- the number of the first line that forbids a hold of the set
abbrev pub first_broken : List Fact → List ForbiddenLine → Option ℕ
first_broken facts lines = option_map line_number (find (is_broken facts) lines)

-- the reason that a lack by a rule gives: what the first two rules conclude is there from the first
abbrev pub reason : RuleName → Fact → Why
reason First f = MissingFirst f
reason Births f = MissingFirst f
reason rule f = NotClosed rule f

-- the reason is the first that closed facts give: a trusted task that another may rewrite, then a
-- broken line of the policy
abbrev pub IsObjection : Claimed → List Fact → Why → Type 0
IsObjection claim facts (Trusted n f) = IsExposed claim.table (has facts) n f
IsObjection claim facts (Forbidden n) =
    AreSecure (wiring_of claim.table) (has facts) claim.table.trusts
    × (first_broken facts claim.lines ≡ Some n)
IsObjection claim facts why = ⊥

-- the reason is the first, in the order in which the reasons are declared
abbrev pub IsWhy : Claimed → Content → Why → Type 0
IsWhy claim draft Counts = HasCounts claim draft → ⊥
IsWhy claim draft (MissingFirst f) =
    HasCounts claim draft × ((k : ℕ) × (k < 3)
    × IsFirstMissing (wiring_of claim.table) (has draft.facts) k f)
IsWhy claim draft (NotClosed rule f) =
    HasCounts claim draft × (3 ≤ rule_number rule)
    × IsFirstMissing (wiring_of claim.table) (has draft.facts) (rule_number rule) f
IsWhy claim draft (Trusted n f) =
    HasCounts claim draft × Closed (wiring_of claim.table) (Has (has draft.facts))
    × IsObjection claim draft.facts (Trusted n f)
IsWhy claim draft (Forbidden n) =
    HasCounts claim draft × Closed (wiring_of claim.table) (Has (has draft.facts))
    × IsObjection claim draft.facts (Forbidden n)
