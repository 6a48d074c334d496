use Rattle.mrc_mig_arguments.proofs.ArgumentPhrases.{read_is_argument, argument_is_read}
use Rattle.mrc_mig_arguments.proofs.laws.arguments_by_grammar.Goals as goal

pub returns : goal.returns
returns c = record {
  found = read_is_argument;
  only = argument_is_read;
}
