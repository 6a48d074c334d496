use Rattle.mrc_report.proofs.ReplayLaws.{replay_told}
use Rattle.mrc_report.proofs.replaying.replays_are_told.Goals as goal

pub returns : goal.returns
returns c = replay_told
