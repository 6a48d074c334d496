-- What the births of a task accept leaves a state.
use Rattle.mrc_wiring.proofs.StateLemmas.{births_kept_as}
use Rattle.mrc_wiring.proofs.resolving.Resolving.place_births.Goals as goal

pub returns-clause-kept : goal.returns-clause-kept
returns-clause-kept c =
    births_kept_as _ c.args.self.now c.args.task c.args.kind c.args.label c.put_row.new.rows.items
    c.self.view_is c.requires.state c.requires.there c.requires.kind c.in_ok-put_row.ensures
