use Rattle.std.proofs.Common.{arith}
use Rattle.std.proofs.lemmas.Grind.{common_steps}
use Rattle.mrc_command.proofs.Escapes.{hex_spelled}
use Rattle.mrc_command.proofs.told.push_hex.Goals as goal

pub returns-clause-ok : goal.returns-clause-ok
returns-clause-ok c = let spelled = hex_spelled c.args.c c.requires in grind (arith, common_steps)

pub returns-clause-len : goal.returns-clause-len
returns-clause-len c = grind (arith, common_steps)

pub returns-clause-succeeds : goal.returns-clause-succeeds
returns-clause-succeeds c = grind (arith, common_steps)
