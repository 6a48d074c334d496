use Rattle.std.proofs.Common.{None}
use Rattle.mrc_answer.proofs.VerdictLaws.{attacked_broken}
use Rattle.mrc_answer.proofs.attack.unattacked.Goals as goal

pub returns-then-not-is_passed : goal.returns-then-not-is_passed
returns-then-not-is_passed c =
    attacked_broken None c.args.files.now c.broken_reply.result c.broken_reply.ensures
