use Rattle.mrc_model.proofs.tasks_kept.Goals as goal
use Rattle.mrc_model.proofs.KeptTasks.{tasks_are_kept}

pub returns : goal.returns
returns c = record { kept = tasks_are_kept }
