use Rattle.mrc_mig_laws.proofs.FileLemmas.{files_are_found, files_are_read}
use Rattle.mrc_mig_laws.proofs.laws.files_by_grammar.Goals as goal

pub returns : goal.returns
returns c = record { found = files_are_found; only = files_are_read }
