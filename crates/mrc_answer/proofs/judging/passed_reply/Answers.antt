use Rattle.mrc_answer.proofs.VerdictLaws.{yes_reply_is}
use Rattle.mrc_answer.proofs.judging.passed_reply.Goals as goal

pub returns : goal.returns
returns c =
    yes_reply_is c.args.files.now c.args.stated c.args.found c.yes_reply-reply.result
    c.requires.says c.requires.judged c.requires.passed c.yes_reply-reply.ensures.answer
    c.yes_reply-reply.ensures.notices
