use Rattle.mrc_model.proofs.sound_task_by_task.Goals as goal
use Rattle.mrc_model.proofs.Few.{sound_task_by_task}

pub returns : goal.returns
returns c = record { sound = sound_task_by_task }
