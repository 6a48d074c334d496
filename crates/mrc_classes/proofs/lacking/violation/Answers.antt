use Rattle.std.proofs.Common.{subst}
use Rattle.mrc_facts.specs.Sets.{has}
use Rattle.mrc_classes.specs.Missing.{Searched, IsAnswer}
use Rattle.mrc_classes.proofs.Missed.{answered}
use Rattle.mrc_classes.proofs.lacking.violation.Goals as goal

-- the tests are read as the ten rules
pub returns : goal.returns
returns c =
    let search = c.in_ok-search.search in
    let first = c.first_missing in
    subst (λ (s : Searched). IsAnswer s.wiring (has s.facts) first.result) c.in_ok-search.ensures
    (answered search.wiring (has search.facts) first.result first.ensures.found
    first.ensures.earlier first.ensures.none)
