use Rattle.mrc_model.proofs.sound_if_few.Goals as goal
use Rattle.mrc_model.proofs.Few.{sound_if_few}

pub returns : goal.returns
returns c = record { sound = sound_if_few }
