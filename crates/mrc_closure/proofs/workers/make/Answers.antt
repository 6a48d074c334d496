use Rattle.mrc_closure.proofs.Within.{are_within}
use Rattle.mrc_closure.proofs.workers.make.Goals as goal

pub invariant_of-result-clause-ascending : goal.invariant_of-result-clause-ascending
invariant_of-result-clause-ascending g c = c.in_ok-facts.ensures.ascending

-- the facts are over the wiring's tasks and classes
pub invariant_of-result-clause-within : goal.invariant_of-result-clause-within
invariant_of-result-clause-within g c =
    are_within c.args.wired.now c.tasks.result c.classes.result c.tasks.ensures.exact
    c.classes.ensures.exact c.in_ok-facts.facts c.in_ok-facts.ensures.in_range
