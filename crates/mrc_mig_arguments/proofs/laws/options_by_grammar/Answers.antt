use Rattle.mrc_mig_arguments.proofs.OptionPhrases.{options_is, options_read}
use Rattle.mrc_mig_arguments.proofs.laws.options_by_grammar.Goals as goal

pub returns : goal.returns
returns c = record {
  found = options_is;
  only = options_read;
}
