use Rattle.std.proofs.Common.{◌∙◌, ap}
use Rattle.std.specs.Prelude.{◌||◌, ◌==◌}
use Rattle.mrc_facts.specs.Sets.{has}
use Rattle.mrc_rows.specs.Rows.{is_within, row_of, place_of}
use Rattle.mrc_bits.specs.Bits.{is_set}
use Rattle.mrc_rows.specs.Joining.{is_of}
use Rattle.mrc_rows.proofs.Joins.{one_row}
use Rattle.mrc_rows.proofs.facts.Facts.join_row.Goals as goal

pub returns-clause-ok : goal.returns-clause-ok
returns-clause-ok c = λ g.
    let row = c.row_at-row.result in
    let words = c.words-words.result.now in
    c.in_ok-join.ensures.ok g
    ∙ ap (λ b. has c.args.self.now g || b)
    (one_row (is_within g) (is_of row g) (row_of g == c.args.number) (is_set words (place_of g))
    (has c.args.other.now g) (c.row_at-row.ensures.facts g) (c.words-words.ensures.shown g))
