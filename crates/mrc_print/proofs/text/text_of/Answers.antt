use Rattle.std.proofs.Common.{string_bytes}
use Rattle.mrc_print.proofs.HeadLaws.{told_whole}
use Rattle.mrc_print.proofs.text.text_of.Goals as goal

pub returns : goal.returns
returns c = λ asked.
    told_whole c.args.printing.now.only c.args.verdict.now.exposed c.args.told.now
    (string_bytes c.in_ok-common.common) (string_bytes c.in_ok-task.task)
    (string_bytes c.in_ok-lines.lines) (string_bytes c.in_ok-text.text) asked
    c.in_ok-common.ensures c.in_ok-task.ensures c.in_ok-lines.ensures c.in_ok-text.ensures.ok
