use Rattle.std.proofs.Common.{◌≡◌, ◌<◌}
use Rattle.std.specs.Prelude.{◌||◌, ◌&&◌}
use Rattle.mrc_base.specs.declared.Fact.{Fact}
use Rattle.mrc_facts.specs.Sets.{has, IsAscending}
use Rattle.mrc_rows.proofs.Joins.{is_kept_before}
use Rattle.mrc_rows.proofs.facts.Facts.join_rows.Given as goal

-- the rows up to here are joined
abbrev pub invariant-loop-number : goal.invariant-loop-number
invariant-loop-number l = record {
  joined : (g : Fact) → has l.self g
      ≡ (has l.fn.self g || (is_kept_before l.number g && has l.other g));
  before : IsAscending l.self → IsAscending l.fn.self;
  ascending : 0 < l.number → IsAscending l.self;
}
