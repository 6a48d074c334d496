-- Proved of the definitions.
use Rattle.mrc_wide_policy.proofs.OneLemmas.{one_port, one_kernel, births_alone}
use Rattle.mrc_wide_policy.proofs.laws.lines_of_one_name_name_one_fact.Goals as goal

pub returns : goal.returns
returns c = record { port = one_port; kernel = one_kernel; births = births_alone }
