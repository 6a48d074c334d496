use Rattle.mrc_command.proofs.ShownLaws.{names_apart, names_plain}
use Rattle.mrc_command.proofs.told.names_are_shown_safely.Goals as goal

pub returns : goal.returns
returns c = record { plain = names_plain; apart = names_apart }
