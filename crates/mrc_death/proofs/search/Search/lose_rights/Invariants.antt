use Rattle.std.proofs.Common.{take}
use Rattle.mrc_death.specs.Search.{Step}
use Rattle.mrc_death.proofs.search.Search.lose_rights.Given as goal

-- those so far have gone
abbrev pub invariant-loop-held : goal.invariant-loop-held
invariant-loop-held l = Step l.store l.doomed (take l.held-index l.rights) l.fn.self l.self
