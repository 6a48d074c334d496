-- From what the code found to the verdict: forbidden lines, and that the verdict is one.
use Rattle.std.proofs.Common.{◌≡◌, ℕ, true, false, List, [], ◌∷◌, map, Some, None, refl}
use Rattle.std.proofs.Common.{subst, sym, arith, IsTrue, inl, inr, if◌then◌else◌}
use Rattle.std.specs.Prelude.{find}
use Rattle.std.specs.Option.{option_map}
use Rattle.mrc_base.specs.declared.memory.OrMemory.{OrMemory}
use Rattle.mrc_base.specs.declared.memory.OrMemory.TheVariants.{Fault, Memory}
use Rattle.mrc_base.specs.Reading.{UnlessMemory}
use Rattle.mrc_base.specs.declared.Fact.{Fact}
use Rattle.mrc_base.specs.declared.Fact.TheVariants.{Hold}
use Rattle.mrc_facts.specs.Sets.{has}
use Rattle.mrc_classes.specs.Missing.{rule_number, IsFirstMissing}
use Rattle.mrc_classes.specs.declared.rule_names.RuleName.{RuleName}
use Rattle.mrc_classes.specs.declared.rule_names.RuleName.TheVariants.{First, Births, Weaker, Slot}
use Rattle.mrc_classes.specs.declared.rule_names.RuleName.TheVariants.{Reply, Received, KernelPort}
use Rattle.mrc_classes.specs.declared.rule_names.RuleName.TheVariants.{Request, Notice, Returned}
use Rattle.mrc_certificate.specs.Drafts.{Content}
use Rattle.mrc_model.specs.IsIn.{IsIn, here, later}
use Rattle.mrc_model.proofs.FirstHeld.{in_cons}
use Rattle.mrc_model.proofs.Members.{in_right}
use Rattle.mrc_model.specs.Breach.{Forbid}
use Rattle.mrc_model.specs.Rules.{Has, Closed, ForbidsNone}
use Rattle.mrc_wiring.specs.declared.claim.ForbiddenLine.{ForbiddenLine}
use Rattle.mrc_wiring.specs.Table.{wiring_of}
use Rattle.mrc_wiring.specs.Claims.{Claimed, holding_of}
use Rattle.mrc_check.specs.declared.verdict.Why.{Why}
use Rattle.mrc_check.specs.declared.verdict.Why.TheVariants.{Counts, MissingFirst, NotClosed}
use Rattle.mrc_check.specs.declared.verdict.Why.TheVariants.{Trusted, Forbidden}
use Rattle.mrc_check.specs.Trusted.{AreSecure}
use Rattle.mrc_check.specs.Verdict.{HasCounts, IsAccepted, is_broken, line_number, first_broken}
use Rattle.mrc_check.specs.Verdict.{IsObjection, IsWhy, reason}

-- where no line is broken, nothing is forbidden
pub none_forbidden : (facts : List Fact) (lines : List ForbiddenLine)
    → first_broken facts lines ≡ None
    → ForbidsNone (map holding_of lines) (Has (has facts))
none_forbidden facts [] e l at h = elim at [ ]
none_forbidden facts (line ∷ lines) e l at h =
    elim (is_broken facts line) as (λ b. is_broken facts line ≡ b
    → option_map line_number (if b then Some line else find (is_broken facts) lines) ≡ None → ⊥) [
      | true ↦ λ broken none. cc
      | false ↦ λ broken none. elim (in_cons l (holding_of line) (map holding_of lines) at) [
        | inl same ↦ let there : is_broken facts line ≡ true = subst
            (λ (x : Forbid). IsTrue (has facts (Hold x.task x.class x.right))) same h in cc
        | inr rest ↦ none_forbidden facts lines none l rest h
      ]
    ] refl e

-- a broken line is one of the lines
broken_line : (facts : List Fact) (lines : List ForbiddenLine) (n : ℕ)
    → first_broken facts lines ≡ Some n
    → (l : Forbid) × IsIn l (map holding_of lines)
    × IsTrue (has facts (Hold l.task l.class l.right))
broken_line facts [] n e = cc
broken_line facts (line ∷ lines) n e =
    elim (is_broken facts line) as (λ b. is_broken facts line ≡ b
    → option_map line_number (if b then Some line else find (is_broken facts) lines) ≡ Some n
    → (l : Forbid) × IsIn l (map holding_of (line ∷ lines))
    × IsTrue (has facts (Hold l.task l.class l.right))) [
      | true ↦ λ broken found. (holding_of line, here, broken)
      | false ↦ λ broken found. let rest = broken_line facts lines n found in
          (rest.0, later rest.1, rest.2)
    ] refl e

-- an accepted draft has no reason to be refused
pub no_reason : (claim : Claimed) (draft : Content) (why : Why)
    → IsAccepted claim draft
    → IsWhy claim draft why
    → ⊥
no_reason claim draft Counts is why = why is.counts
no_reason claim draft (MissingFirst f) is why =
    let m = why.1.2.missing in
    let x = m.follows in
    let there = is.yes.closed why.1.0 x.premises f x.rule x.known x.in_range in
    cc
no_reason claim draft (NotClosed rule f) is why =
    let m = why.2.missing in
    let x = m.follows in
    let there = is.yes.closed _ x.premises f x.rule x.known x.in_range in
    cc
no_reason claim draft (Trusted n f) is why =
    let exposed = why.2 in
    let line_in : IsIn exposed.line claim.table.trusts =
    subst (IsIn exposed.line) (sym exposed.lines)
    (in_right exposed.line exposed.before (exposed.line ∷ exposed.behind) here) in
    let none = is.secure exposed.line line_in exposed.task exposed.first.there in
    let some = exposed.first.may in
    cc
no_reason claim draft (Forbidden n) is why =
    let b = broken_line draft.facts claim.lines n why.2.1 in
    is.yes.allowed b.0 b.1 b.2

-- but that memory runs out
pub only_memory : (claim : Claimed) (draft : Content) (why : OrMemory Why)
    → IsAccepted claim draft
    → UnlessMemory (IsWhy claim draft) why
    → why ≡ Memory
only_memory claim draft (Fault reason) is why = absurd (no_reason claim draft reason is why)
only_memory claim draft Memory is why = refl

-- no lack, no trusted task that another may rewrite, no broken line: the draft is accepted
pub accepted : (claim : Claimed) (draft : Content)
    → HasCounts claim draft
    → Closed (wiring_of claim.table) (Has (has draft.facts))
    → AreSecure (wiring_of claim.table) (has draft.facts) claim.table.trusts
    → first_broken draft.facts claim.lines ≡ None
    → IsAccepted claim draft
accepted claim draft counts closed secure none = record {
  counts = counts;
  secure = secure;
  yes = record { closed = closed; allowed = none_forbidden draft.facts claim.lines none };
}

-- what closed facts give as a reason is one
pub objection_is_why : (claim : Claimed) (draft : Content)
    → HasCounts claim draft
    → Closed (wiring_of claim.table) (Has (has draft.facts))
    → (why : Why) → IsObjection claim draft.facts why → IsWhy claim draft why
objection_is_why claim draft counts closed Counts is = absurd is
objection_is_why claim draft counts closed (MissingFirst f) is = absurd is
objection_is_why claim draft counts closed (NotClosed rule f) is = absurd is
objection_is_why claim draft counts closed (Trusted n f) is = (counts, closed, is)
objection_is_why claim draft counts closed (Forbidden n) is = (counts, closed, is)

-- the reason that is told for a missing fact is a reason
pub missing_is_why : (claim : Claimed) (draft : Content)
    → HasCounts claim draft
    → (rule : RuleName) (f : Fact)
    → IsFirstMissing (wiring_of claim.table) (has draft.facts) (rule_number rule) f
    → IsWhy claim draft (reason rule f)
missing_is_why claim draft counts First f m = (counts, (1, omega arith, m))
missing_is_why claim draft counts Births f m = (counts, (2, omega arith, m))
missing_is_why claim draft counts Weaker f m = (counts, omega arith, m)
missing_is_why claim draft counts Slot f m = (counts, omega arith, m)
missing_is_why claim draft counts Reply f m = (counts, omega arith, m)
missing_is_why claim draft counts Received f m = (counts, omega arith, m)
missing_is_why claim draft counts KernelPort f m = (counts, omega arith, m)
missing_is_why claim draft counts Request f m = (counts, omega arith, m)
missing_is_why claim draft counts Notice f m = (counts, omega arith, m)
missing_is_why claim draft counts Returned f m = (counts, omega arith, m)
