use Rattle.mrc_answer.proofs.VerdictLaws.{only_unattacked}
use Rattle.mrc_answer.proofs.attack.attacked.Goals as goal

pub returns-in-Ok-clause-only : goal.returns-in-Ok-clause-only
returns-in-Ok-clause-only g c meant says has_yes =
    only_unattacked c.args.line c.args.files.now meant c.stated_attacked.result says has_yes
    c.stated_attacked.ensures
