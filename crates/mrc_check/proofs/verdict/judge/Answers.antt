use Rattle.std.proofs.Common.{subst, sym}
use Rattle.mrc_certificate.specs.Spelling.{content}
use Rattle.mrc_facts.specs.Sets.{has}
use Rattle.mrc_classes.specs.Missing.{IsAnswer}
use Rattle.mrc_wiring.specs.Table.{wiring_of}
use Rattle.mrc_check.specs.Verdict.{IsWhy}
use Rattle.mrc_check.proofs.Accepted.{accepted, missing_is_why, objection_is_why}
use Rattle.mrc_check.proofs.verdict.judge.Goals as goal

-- a fact is missing
pub returns-in-Some-clause-fault : goal.returns-in-Some-clause-fault
returns-in-Some-clause-fault g c =
    let claim = c.args.claim.now in
    let draft = content c.args.draft.now in
    let missing = subst (IsAnswer (wiring_of claim.table) (has draft.facts)) c.in-Some.is
    c.in_ok-missing.ensures in
    subst (IsWhy claim draft) (sym c.reason.ensures)
    (missing_is_why claim draft (c.has_counts.ensures.0 c.if-not-has_counts.false)
    c.in-Some.missing.rule c.in-Some.missing.fact missing)

-- the counts are right, nothing lacks, and closed facts give no reason
pub returns-in-None-first_objection-clause-found : goal.returns-in-None-first_objection-clause-found
returns-in-None-first_objection-clause-found g c =
    let claim = c.args.claim.now in
    let draft = content c.args.draft.now in
    let closed = subst (IsAnswer (wiring_of claim.table) (has draft.facts)) c.in-None.is
    c.in_ok-missing.ensures in
    let none = c.in-None-first_objection.ensures.none in
    accepted claim draft (c.has_counts.ensures.0 c.if-not-has_counts.false) closed none.0 none.1

-- the counts are right, nothing lacks, and closed facts give a reason
pub returns-in-Some-first_objection-clause-fault : goal.returns-in-Some-first_objection-clause-fault
returns-in-Some-first_objection-clause-fault g c =
    let claim = c.args.claim.now in
    let draft = content c.args.draft.now in
    let closed = subst (IsAnswer (wiring_of claim.table) (has draft.facts)) c.in-None.is
    c.in_ok-missing.ensures in
    objection_is_why claim draft (c.has_counts.ensures.0 c.if-not-has_counts.false) closed
    c.in-Some-first_objection.why c.in-Some-first_objection.ensures.some
