use Rattle.mrc_mig_laws.proofs.RowLemmas.{left_out_are_none, others_are_left_out}
use Rattle.mrc_mig_laws.proofs.laws.other_rows_are_left_out.Goals as goal

pub returns : goal.returns
returns c = record { found = left_out_are_none; only = others_are_left_out }
