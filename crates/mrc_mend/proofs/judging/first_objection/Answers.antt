use Rattle.std.proofs.Common.{subst}
use Rattle.mrc_facts.specs.Sets.{has}
use Rattle.mrc_wiring.specs.Table.{Table, wiring_of}
use Rattle.mrc_check.specs.Trusted.{AreSecure, IsExposed}
use Rattle.mrc_why.proofs.Verdicts.{no_of_exposed}
use Rattle.mrc_mend.specs.Judging.{of_line}
use Rattle.mrc_mend.proofs.judging.first_objection.Goals as goal

-- another task could rewrite a trusted one by each closed set
pub returns-in-Some-clause-no : goal.returns-in-Some-clause-no
returns-in-Some-clause-no c =
    no_of_exposed (of_line c.args.only c.args.claim.now) c.args.facts.now c.in-Some.field-0-0
    c.in-Some.fact c.requires
    (subst (λ (t : Table). IsExposed t (has c.args.facts.now) c.in-Some.field-0-0 c.in-Some.fact)
    c.wired.ensures c.in-Some.ensures.some)

pub first_broken-requires-clause-secure : goal.first_broken-requires-clause-secure
first_broken-requires-clause-secure c =
    subst (λ (t : Table). AreSecure (wiring_of t) (has c.args.facts.now) t.trusts)
    c.wired.ensures c.in-None.ensures.none
