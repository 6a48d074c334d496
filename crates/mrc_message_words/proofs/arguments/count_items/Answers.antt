use Rattle.std.proofs.Common.{length, arith}
use Rattle.mrc_message_words.proofs.Making.{not_items, items_told}
use Rattle.mrc_message_words.proofs.arguments.count_items.Goals as goal

pub returns-then-bytes-width-ne0 : goal.returns-then-bytes-width-ne0
returns-then-bytes-width-ne0 c number are =
    c.if-bytes-width-ne0.true (not_items c.args.size number c.from-width.result
    (length c.args.bytes.now) are.whole_bytes c.from-width.ensures are.all_items)

pub returns : goal.returns
returns c =
    rw c.ok.ensures.value
    (items_told c.try_from.result c.args.size c.from-width.result c.args.bytes.now
    c.try_from.ensures (omega arith) (omega arith) c.from-width.ensures
    c.if-bytes-width-ne0.false)
