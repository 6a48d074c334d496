use Rattle.std.proofs.Common.{sym}
use Rattle.mrc_report.proofs.NameLemmas.{no_task}
use Rattle.mrc_report.proofs.calls.task_of_word.Goals as goal

pub returns-in-Err : goal.returns-in-Err
returns-in-Err c =
    sym (no_task c.args.wired.now.names c.args.word.now c.tasks-tasks.ensures.named
    c.in-Err.ensures.cases.0)
