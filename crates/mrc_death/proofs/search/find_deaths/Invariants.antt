use Rattle.std.proofs.Common.{◌-◌, length}
use Rattle.mrc_model.specs.Map.{keys}
use Rattle.mrc_death.specs.Search.{Going}
use Rattle.mrc_death.proofs.search.find_deaths.Given as goal

abbrev pub invariant-loop-search : goal.invariant-loop-search
invariant-loop-search l = Going l.store l.doomed l.search

-- no port is followed twice
abbrev pub decreases-loop-search : goal.decreases-loop-search
decreases-loop-search l = length (keys l.store.ports) - l.search.done
