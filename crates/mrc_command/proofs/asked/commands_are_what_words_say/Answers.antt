use Rattle.mrc_command.proofs.AskedLaws.{names_subcommand, format_of_options}
use Rattle.mrc_command.proofs.AskedLaws.{text_without_option}
use Rattle.mrc_command.proofs.asked.commands_are_what_words_say.Goals as goal

pub returns : goal.returns
returns c = record {
  named = names_subcommand;
  format = format_of_options;
  text = text_without_option;
}
