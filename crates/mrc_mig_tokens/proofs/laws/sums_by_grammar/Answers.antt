use Rattle.mrc_mig_tokens.proofs.laws.sums_by_grammar.Goals as goal
use Rattle.mrc_mig_tokens.proofs.SumLaw.{read_is_spelled, spelled_is_read, spelled_has_one_value}

pub returns : goal.returns
returns c = record {
  spelled = read_is_spelled;
  read = spelled_is_read;
  one_value = spelled_has_one_value;
}
