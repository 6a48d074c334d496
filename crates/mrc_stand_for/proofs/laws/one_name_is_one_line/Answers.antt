-- Proved of the definitions.
use Rattle.mrc_stand_for.proofs.OldLemmas.{births_of_one_task, send_of_one_task, once_of_one_task}
use Rattle.mrc_stand_for.proofs.OldLemmas.{kernel_of_one_task}
use Rattle.mrc_stand_for.proofs.laws.one_name_is_one_line.Goals as goal

pub returns : goal.returns
returns c = record {
  births = births_of_one_task;
  send = send_of_one_task;
  once = once_of_one_task;
  kernel = kernel_of_one_task;
}
