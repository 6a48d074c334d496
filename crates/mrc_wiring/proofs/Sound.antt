-- No line of a table is refused when the first state is made.
use Rattle.std.proofs.Common.{arith, IsTrue}
use Rattle.mrc_model.specs.First.{is_sound}
use Rattle.mrc_model.proofs.Few.{sound_task_by_task}
use Rattle.mrc_wiring.specs.Table.{Table, IsTable, wiring_of}
use Rattle.mrc_wiring.proofs.Lines.{names_earlier_of}

pub table_is_sound : (table : Table) → IsTable table → IsTrue (is_sound (wiring_of table))
table_is_sound table is =
    (sound_task_by_task (wiring_of table)).1 (
      names_earlier_of (wiring_of table) table.lines 0 0 0 is.earlier (omega (arith, is.tasks))
          (omega (arith, is.ports)),
      is.few_names,
    )
