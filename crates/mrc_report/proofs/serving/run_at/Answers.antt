use Rattle.std.proofs.Common.{rules}
use Rattle.mrc_report.proofs.Joining.{says_all, waits_first}
use Rattle.mrc_report.proofs.serving.run_at.Goals as goal

-- each seat had made no call before the run
pub whole-requires-clause-said : goal.whole-requires-clause-said
whole-requires-clause-said g c =
    says_all c.args.script.now c.in-Ok.seats.items c.in-Ok-run_script.seats.items
    c.in-Ok-run_script.ensures.ran c.in-Ok.ensures.each

pub halted-requires-clause-said : goal.halted-requires-clause-said
halted-requires-clause-said g c =
    waits_first c.args.script.now c.in-Ok.seats.items c.in-Err-AllWait.field-0.seats.items
    c.in-Err-AllWait.field-0.fault (search rules) c.in-Err-AllWait.ensures.refused
    c.in-Ok.ensures.each
