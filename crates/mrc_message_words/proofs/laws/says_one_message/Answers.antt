use Rattle.mrc_message_words.proofs.Walking.{says_one}
use Rattle.mrc_message_words.proofs.laws.says_one_message.Goals as goal

pub returns : goal.returns
returns c = says_one
