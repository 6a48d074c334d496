use Rattle.mrc_interface.proofs.WrittenLaws.{written_is_second}
use Rattle.mrc_interface.proofs.laws.written_texts_are_of_edition_2.Goals as goal

pub returns : goal.returns
returns c = record { second = written_is_second }
