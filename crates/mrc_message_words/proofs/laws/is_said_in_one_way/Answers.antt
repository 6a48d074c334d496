use Rattle.mrc_message_words.proofs.OneWay.{said_in_one_way}
use Rattle.mrc_message_words.proofs.laws.is_said_in_one_way.Goals as goal

pub returns : goal.returns
returns c = said_in_one_way
