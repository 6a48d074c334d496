use Rattle.std.proofs.Common.{subst}
use Rattle.mrc_facts.specs.Sets.{IsAscending}
use Rattle.mrc_facts.proofs.Keys.{ascending}
use Rattle.mrc_facts.proofs.listed.ListedFacts.len.Goals as goal

pub returns-clause-ascending : goal.returns-clause-ascending
returns-clause-ascending c =
    subst IsAscending c.self.view_is (ascending c.self.inside.facts.keys c.len.ensures.ordered)
