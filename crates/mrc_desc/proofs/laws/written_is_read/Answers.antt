use Rattle.mrc_model.specs.Message.{written}
use Rattle.mrc_desc.proofs.Whole.{message_again, message_written}
use Rattle.mrc_desc.proofs.laws.written_is_read.Goals as goal

pub returns-clause-read : goal.returns-clause-read
returns-clause-read c = λ m sent. message_again (written m) m (message_written m sent)

pub returns-clause-spelled : goal.returns-clause-spelled
returns-clause-spelled c = λ m sent. message_written m sent
