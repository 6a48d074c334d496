use Rattle.std.proofs.Common.{◌∙◌, sym}
use Rattle.mrc_base.proofs.Steps.{ok_is}
use Rattle.mrc_desc.proofs.Whole.{message_again}
use Rattle.mrc_desc.proofs.laws.spells_one_message.Goals as goal

pub returns : goal.returns
returns c = λ bytes m n one other. ok_is m n (sym (message_again bytes m one)
    ∙ message_again bytes n other)
