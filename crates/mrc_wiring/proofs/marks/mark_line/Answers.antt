use Rattle.std.proofs.Common.{◌∙◌, ap, sym}
use Rattle.std.specs.Prelude.{◌||◌, ◌&&◌, nat_lt}
use Rattle.mrc_bits.specs.Bits.{is_set}
use Rattle.mrc_wiring.specs.Marks.{is_marked}
use Rattle.mrc_wiring.proofs.MarkLaws.{one_more, same_wide, set_wide, words_there}
use Rattle.mrc_wiring.proofs.marks.mark_line.Goals as goal

pub returns-clause-more : goal.returns-clause-more
returns-clause-more c =
    let line = c.args.line in
    let reached = c.reach.new.rows.items in
    let read = words_there reached line.0 c.index_mut.result.now c.in_ok-reach.ensures.there
    c.index_mut.ensures.value in
    one_more c.args.width c.args.places c.args.rows.now.items reached line c.mark_row.new.row
    c.in_ok-reach.ensures.same c.in_ok-reach.ensures.there c.in_ok-mark_row.ensures.wide
    (λ p. c.in_ok-mark_row.ensures.bits p
    ∙ ap (λ ws. is_set ws p || (nat_lt p c.args.places && is_marked p line.1)) (sym read))

pub returns-clause-wide : goal.returns-clause-wide
returns-clause-wide c =
    let reached = c.reach.new.rows.items in
    set_wide c.args.width c.args.line.0 reached c.mark_row.new.row c.in_ok-reach.ensures.there
    (same_wide c.args.width c.args.rows.now.items reached c.in_ok-reach.ensures.same
    c.requires.wide) c.in_ok-mark_row.ensures.wide
