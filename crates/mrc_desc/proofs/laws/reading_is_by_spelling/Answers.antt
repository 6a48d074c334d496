use Rattle.mrc_desc.proofs.Words.{IsBytes-from}
use Rattle.mrc_desc.proofs.Whole.{message_takes, message_again}
use Rattle.mrc_desc.proofs.laws.reading_is_by_spelling.Goals as goal

pub returns : goal.returns
returns c = λ bytes m each. (
  (λ read. message_takes bytes m (IsBytes-from bytes each) read),
  (λ spelled. message_again bytes m spelled),
)
