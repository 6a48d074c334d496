use Rattle.std.proofs.Common.{subst, List}
use Rattle.mrc_facts.specs.Sets.{has}
use Rattle.mrc_wiring.specs.Table.{wiring_of}
use Rattle.mrc_wiring.specs.declared.table.TrustedLine.{TrustedLine}
use Rattle.mrc_check.specs.Trusted.{AreSecure}
use Rattle.mrc_check.proofs.Exposed.{secure_more, secure_all, exposed_at}
use Rattle.mrc_check.proofs.trusted.first_exposed.Goals as goal

pub loop-line-preserved : goal.loop-line-preserved
loop-line-preserved c =
    let at = c.loop-line.invariant in
    let next = secure_more (wiring_of c.args.wired.now) (has c.args.facts.now)
    c.trusts-line-items.result.now c.loop-line.line-index _ c.loop-line-test.true at.secure
    c.in_default.ensures.none in
    record { lines = at.lines; secure = next }

pub returns-clause-none : goal.returns-clause-none
returns-clause-none c =
    let at = c.loop-line.invariant in
    let W = wiring_of c.args.wired.now in
    let S = has c.args.facts.now in
    subst (λ (xs : List TrustedLine). AreSecure W S xs) at.lines
    (secure_all W S c.trusts-line-items.result.now c.loop-line.line-index c.loop-line-test.false
    at.secure)

pub returns-in-Some-clause-some : goal.returns-in-Some-clause-some
returns-in-Some-clause-some c =
    let at = c.loop-line.invariant in
    exposed_at c.args.wired.now (has c.args.facts.now) c.trusts-line-items.result.now
    c.loop-line.line-index _ c.in-Some.by c.kernel_hold.result at.lines c.loop-line-test.true
    at.secure c.in-Some.ensures.some c.kernel_hold.ensures
