use Rattle.mrc_message_words.proofs.laws.spoken_is_read.Goals as goal

pub returns : goal.returns
returns c = λ tables said m h. c.written_is_read.ensures.read m h.over.sent
