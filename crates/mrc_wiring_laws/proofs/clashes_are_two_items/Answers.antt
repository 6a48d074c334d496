use Rattle.mrc_wiring_laws.proofs.ClashLaws.{clashes_items}
use Rattle.mrc_wiring_laws.proofs.clashes_are_two_items.Goals as goal

pub returns : goal.returns
returns c = record { clashes = clashes_items }
