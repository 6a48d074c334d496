use Rattle.mrc_answer.proofs.VerifiedSafe.{attacked_no, unattacked_safe}
use Rattle.mrc_answer.proofs.laws.attacked_files_are_so.Goals as goal

pub returns : goal.returns
returns c = record { safe = unattacked_safe; no = attacked_no }
