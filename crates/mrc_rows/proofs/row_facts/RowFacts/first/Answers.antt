use Rattle.mrc_rows.proofs.Rows.{is_first}
use Rattle.mrc_rows.proofs.row_facts.RowFacts.first.Goals as goal

pub returns : goal.returns
returns c =
    is_first c.args.self.now c.first_from.ensures.ascending c.first_from.result
    c.first_from.ensures.found c.first_from.ensures.none
