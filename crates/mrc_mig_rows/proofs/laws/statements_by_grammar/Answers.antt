use Rattle.mrc_mig_rows.proofs.StatementLemmas.{read_is, is_read}
use Rattle.mrc_mig_rows.proofs.laws.statements_by_grammar.Goals as goal

pub returns : goal.returns
returns c = record { found = read_is; only = is_read }
