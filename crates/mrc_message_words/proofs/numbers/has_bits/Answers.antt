use Rattle.std.proofs.Common.{sym, ◌∙◌}
use Rattle.std.proofs.lemmas.Bool.{le-leb}
use Rattle.mrc_message_words.proofs.Counting.{below_large, shifted}
use Rattle.mrc_message_words.proofs.numbers.has_bits.Goals as goal

pub returns-then-size-ge64 : goal.returns-then-size-ge64
returns-then-size-ge64 c =
    le-leb 64 c.args.size c.if-size-ge64.true
    ∙ sym (below_large c.args.size c.args.number c.ranges.number.fits c.if-size-ge64.true)

pub returns-else-size-ge64 : goal.returns-else-size-ge64
returns-else-size-ge64 c = shifted c.args.size c.args.number
