use Rattle.std.proofs.Common.{rules}
use Rattle.mrc_answer.proofs.NoticeLaws.{no_by_least}
use Rattle.mrc_answer.proofs.gathering.notices.Goals as goal

pub returns : goal.returns
returns c =
    no_by_least c.args.files.now c.args.stated.now c.args.facts.now _ c.notices_with.result
    c.requires c.notices_with.ensures (search rules)
