-- The first line ends at the first line feed, or with the text.
use Rattle.mrc_wiring_text.proofs.LineLemmas.{lines_at, lines_last}
use Rattle.mrc_wiring_text.proofs.lexis.first_line.Goals as goal

pub returns-then-end-text-clause-cut : goal.returns-then-end-text-clause-cut
returns-then-end-text-clause-cut c =
    lines_at c.args.text.now c.place_of-end.result c.requires c.place_of-end.ensures

pub returns-else-end-text-clause-cut : goal.returns-else-end-text-clause-cut
returns-else-end-text-clause-cut c =
    lines_last c.args.text.now c.place_of-end.result c.requires c.place_of-end.ensures
    c.if-end-text.false
