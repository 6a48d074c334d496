use Rattle.mrc_mig_symbols.proofs.laws.expressions_by_grammar.Goals as goal
use Rattle.mrc_mig_symbols.proofs.ExpressionLaw.{read_is_spelled, spelled_is_read}
use Rattle.mrc_mig_symbols.proofs.ExpressionLaw.{spelled_has_one_value}

pub returns : goal.returns
returns c = record {
  spelled = read_is_spelled;
  read = spelled_is_read;
  one_value = spelled_has_one_value;
}
