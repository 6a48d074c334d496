use Rattle.mrc_filter.proofs.Few.{few}
use Rattle.mrc_filter.proofs.meeting.meet.Goals as goal

pub first_difference-requires : goal.first_difference-requires
first_difference-requires c =
    few c.args.message.now c.args-args.result.now c.args-args.ensures.lawful
    c.args-args.ensures.exact
