use Rattle.std.proofs.Common.{◌≡◌, take}
use Rattle.mrc_base.specs.declared.Fact.{Fact}
use Rattle.mrc_facts.specs.Sets.{has}
use Rattle.mrc_draw.proofs.sets.set_of.Given as goal

-- the set has the facts so far
abbrev pub invariant-loop-fact : goal.invariant-loop-fact
invariant-loop-fact l = (f : Fact) → has l.set f ≡ has (take l.fact-index l.facts) f
