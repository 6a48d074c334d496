-- The next fact is one of the set.
use Rattle.std.proofs.Common.{◌-◌, length}
use Rattle.mrc_facts.proofs.Walking.{place, IsNextAt}
use Rattle.mrc_draw.proofs.filter.facts_text.Given as goal

abbrev pub invariant-loop-next : goal.invariant-loop-next
invariant-loop-next l = IsNextAt l.facts l.next

abbrev pub decreases-loop-next : goal.decreases-loop-next
decreases-loop-next l = length l.facts - place l.facts l.next
