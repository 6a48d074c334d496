use Rattle.mrc_mig_laws.proofs.RowLemmas.{read_rows_are, routines_are_read}
use Rattle.mrc_mig_laws.proofs.laws.rows_by_grammar.Goals as goal

pub returns : goal.returns
returns c = record { found = read_rows_are; only = routines_are_read }
