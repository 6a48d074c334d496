use Rattle.mrc_files.proofs.PartLaws.{in_two, is_another}
use Rattle.mrc_files.proofs.laws.paths_and_parts.Goals as goal

pub returns-clause-two : goal.returns-clause-two
returns-clause-two c = in_two

pub returns-clause-another : goal.returns-clause-another
returns-clause-another c = is_another
