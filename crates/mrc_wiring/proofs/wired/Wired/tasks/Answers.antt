use Rattle.std.proofs.Common.{subst, IsTrue}
use Rattle.mrc_model.specs.First.{is_sound}
use Rattle.mrc_wiring.specs.Table.{Table, wiring_of}
use Rattle.mrc_wiring.proofs.Sound.{table_is_sound}
use Rattle.mrc_wiring.proofs.wired.Wired.tasks.Goals as goal

-- no line of a table is refused
pub returns-clause-sound : goal.returns-clause-sound
returns-clause-sound c =
    subst (λ (table : Table). IsTrue (is_sound (wiring_of table))) c.self.view_is
    (table_is_sound _ c.self.invariant.0)
