use Rattle.mrc_index.proofs.IndexLaws.{ones}
use Rattle.mrc_index.proofs.names.all_free.Goals as goal

pub returns-clause-bits : goal.returns-clause-bits
returns-clause-bits c = ones
