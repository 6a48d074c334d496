use Rattle.std.proofs.Common.{◌∙◌, ap}
use Rattle.std.specs.Prelude.{◌||◌}
use Rattle.mrc_bits.specs.Bits.{is_set}
use Rattle.mrc_wiring.proofs.MarkLaws.{joined_bit}
use Rattle.mrc_wiring.proofs.wired.Wired.join_admitted.Goals as goal

pub returns : goal.returns
returns c = λ class.
    let row = c.args.row.now in
    let admitted = c.admitting-admitted.result.now in
    c.join_bits.ensures.bits class
    ∙ (joined_bit row admitted class c.requires c.admitting-admitted.ensures.few
    ∙ ap (λ b. is_set row class || b) (c.admitting-admitted.ensures.exact class))
