use Rattle.std.proofs.Common.{ap, ◌∙◌}
use Rattle.mrc_rows.specs.Walking.{facts_from}
use Rattle.mrc_rows.proofs.Behind.{first_there, from_first}
use Rattle.mrc_rows.proofs.facts.Facts.iter.Goals as goal

pub invariant_of-result : goal.invariant_of-result
invariant_of-result c = record {
  ascending = c.first-next.ensures.kept;
  there = first_there c.args.self.now c.first-next.result c.first-next.ensures.exact;
  planes_are = c.planes_of_next.ensures;
}

pub returns-clause-exact : goal.returns-clause-exact
returns-clause-exact c =
    ap (facts_from c.args.self.now) c.first-next.ensures.exact
    ∙ from_first c.args.self.now c.first-next.ensures.kept
