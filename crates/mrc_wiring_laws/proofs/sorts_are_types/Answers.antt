use Rattle.mrc_wiring_laws.proofs.SortLaws.{sorts_types, sorts_numbered}
use Rattle.mrc_wiring_laws.proofs.sorts_are_types.Goals as goal

pub returns-clause-types : goal.returns-clause-types
returns-clause-types c = sorts_types

pub returns-clause-numbered : goal.returns-clause-numbered
returns-clause-numbered c = sorts_numbered
