use Rattle.std.proofs.Common.{Ok, Err}
use Rattle.mrc_interface.proofs.ReadingLaws.{defs_told, defs_read, told, interface_read}
use Rattle.mrc_interface.proofs.ReadingLaws.{reason_read}
use Rattle.mrc_interface.proofs.ReadingLaws.{files_told, interfaces_read, first_read}
use Rattle.mrc_interface.proofs.laws.files_are_read.Goals as goal

pub returns : goal.returns
returns c = record {
  says = λ bytes said. (defs_told bytes (Ok said), defs_read bytes said);
  table = λ bytes table. (told bytes (Ok table), interface_read bytes table);
  reason = λ bytes reason. (told bytes (Err reason), reason_read bytes reason);
  tables = λ files tables. (files_told files (Ok tables), interfaces_read files tables);
  first = λ files refused. (files_told files (Err refused), first_read files refused);
}
