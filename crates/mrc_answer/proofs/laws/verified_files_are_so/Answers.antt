use Rattle.mrc_answer.proofs.VerifiedSafe.{allowed_safe, broken_no, unmet_never, waived_safe}
use Rattle.mrc_answer.proofs.laws.verified_files_are_so.Goals as goal

pub returns : goal.returns
returns c = record { safe = allowed_safe; waived = waived_safe; no = broken_no; unmet = unmet_never }
