use Rattle.std.proofs.Common.{◌≡◌, ◌-◌, length, take}
use Rattle.std.specs.Prelude.{◌||◌}
use Rattle.mrc_base.specs.declared.Fact.{Fact}
use Rattle.mrc_facts.specs.Sets.{has, IsAscending}
use Rattle.mrc_facts.proofs.Walking.{place, IsNextAt}
use Rattle.mrc_rows.proofs.facts.Facts.join_listed.Given as goal

-- those before the next one are there
abbrev pub invariant-loop-next : goal.invariant-loop-next
invariant-loop-next l = record {
  ascending : IsAscending l.self;
  at : IsNextAt l.list l.next;
  so_far : (g : Fact) → has l.self g
      ≡ (has l.fn.self g || has (take (place l.list l.next) l.list) g);
}

abbrev pub decreases-loop-next : goal.decreases-loop-next
decreases-loop-next l = length l.list - place l.list l.next
