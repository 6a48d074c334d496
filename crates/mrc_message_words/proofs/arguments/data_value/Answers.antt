use Rattle.std.proofs.Common.{◌≡◌, ◌*◌, ◌∙◌, ap, sym, length}
use Rattle.mrc_message_words.proofs.Making.{said_numbers, items_len}
use Rattle.mrc_message_words.proofs.arguments.data_value.Goals as goal

pub numbers_at-requires-clause-all : goal.numbers_at-requires-clause-all
numbers_at-requires-clause-all c =
    let len : length c.as_slice.result.now ≡ length c.args.bytes.now = ap length c.as_slice.ensures in
    len ∙ c.requires.all_items
    ∙ items_len c.args.desc.size c.args.desc.number c.requires.whole_bytes
    ∙ ap (λ n. c.args.desc.number * n) (sym c.from-width.ensures)

pub returns : goal.returns
returns c =
    let narrow = c.are_narrow.ensures.0 c.if-not-are_narrow.false in
    let is = c.in_ok-numbers.ensures in
    rw c.from.ensures
    (said_numbers c.args.items c.args.desc.name c.args.desc.size c.args.desc.number
    c.from-width.result c.args.bytes.now c.in_ok-numbers.numbers.items c.requires narrow
    c.from-width.ensures is.count (is.back ∙ c.as_slice.ensures) is.fits)
