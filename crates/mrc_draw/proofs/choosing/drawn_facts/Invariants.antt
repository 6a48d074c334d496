use Rattle.std.proofs.Common.{◌≡◌, ◌-◌, length, take}
use Rattle.std.specs.Prelude.{filter}
use Rattle.mrc_base.specs.declared.Fact.{Fact}
use Rattle.mrc_facts.specs.Sets.{has}
use Rattle.mrc_facts.proofs.Walking.{place, IsNextAt}
use Rattle.mrc_draw.specs.Filters.{is_drawn}
use Rattle.mrc_draw.proofs.choosing.drawn_facts.Given as goal

-- of the facts before the next one, those that are drawn are kept
abbrev pub invariant-loop-next : goal.invariant-loop-next
invariant-loop-next l = record {
  at : IsNextAt l.facts l.next;
  so_far : (g : Fact) → has l.kept g
      ≡ has (filter (is_drawn l.asked l.holds) (take (place l.facts l.next) l.facts)) g;
}

abbrev pub decreases-loop-next : goal.decreases-loop-next
decreases-loop-next l = length l.facts - place l.facts l.next
