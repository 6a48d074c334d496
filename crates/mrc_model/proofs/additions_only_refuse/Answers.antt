use Rattle.mrc_model.proofs.additions_only_refuse.Goals as goal
use Rattle.mrc_model.proofs.Added.{additions_keep_yes, additions_refuse, limited_alone}

pub returns : goal.returns
returns c = record { refuses = additions_refuse; yes = additions_keep_yes; alone = limited_alone }
