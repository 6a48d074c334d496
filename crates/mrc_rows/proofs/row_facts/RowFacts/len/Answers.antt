use Rattle.mrc_rows.proofs.Rows.{few_shown}
use Rattle.mrc_rows.proofs.row_facts.RowFacts.len.Goals as goal

pub returns-clause-few : goal.returns-clause-few
returns-clause-few c =
    few_shown c.self.inside.rows.items c.self.inside.count c.self.inside.shown.0
    c.self.inside.shown.1
