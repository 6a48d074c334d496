use Rattle.std.proofs.Common.{List, subst}
use Rattle.std.specs.Prelude.{IfNone}
use Rattle.mrc_base.specs.declared.Fact.{Fact}
use Rattle.mrc_facts.specs.Sets.{has}
use Rattle.mrc_model.specs.Rules.{Least, IsLeast}
use Rattle.mrc_wiring.specs.Table.{wiring_of}
use Rattle.mrc_why.proofs.Verdicts.{exposed_is_least}
use Rattle.mrc_why.proofs.judging.exposed_by.Goals as goal

-- the hold is in the least set, so it has a chain
pub returns-in-None-clause-exposed : goal.returns-in-None-clause-exposed
returns-in-None-clause-exposed c =
    let d = c.args.derivations.now in
    let W = wiring_of d.table in
    let least : IsLeast W (has d.facts) = subst (λ (fs : List Fact). IsLeast W (has fs))
    c.facts-least.ensures.exact c.facts-least.ensures.least in
    let none = subst (λ o. IfNone o (Least W c.args.fact.now → ⊥)) c.in-None.is
    c.in_ok-steps.ensures.none in
    absurd (none (exposed_is_least d.table d.facts c.args.line c.args.fact.now least c.requires))
