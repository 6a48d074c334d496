use Rattle.std.proofs.Common.{subst}
use Rattle.mrc_filter.specs.Meeting.{IsAnswer}
use Rattle.mrc_filter.proofs.Answering.{answered, answers}
use Rattle.mrc_filter.proofs.laws.judging_is_meeting.Goals as goal

pub returns : goal.returns
returns c = record {
  meeting = λ W c m answer. (
    λ e. subst (IsAnswer W c m) e (answered W c m),
    λ is. answers W c m answer is,
  );
}
