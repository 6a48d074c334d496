use Rattle.mrc_answer.proofs.NoticeLaws.{yes_by_least}
use Rattle.mrc_answer.proofs.gathering.yes_notices.Goals as goal

pub returns-in-Ok : goal.returns-in-Ok
returns-in-Ok c =
    yes_by_least c.args.files.now c.args.stated c.args.facts.now c.in-Ok.notices c.with_wired.result
    c.into_wired.result c.requires c.in-Ok.ensures c.into_wired.ensures c.with_wired.ensures
