use Rattle.mrc_answer.proofs.NoticeLaws.{waived_by_least}
use Rattle.mrc_answer.proofs.gathering.waived_notices.Goals as goal

pub returns : goal.returns
returns c =
    waived_by_least c.args.files.now c.args.stated.now c.args.facts.now c.trusted_notices.result
    c.requires c.trusted_notices.ensures
