use Rattle.std.proofs.Common.{codes, rules}
use Rattle.std.proofs.lemmas.Result.{IfOk-weaker}
use Rattle.clap.specs.Words.{found_of}
use Rattle.mrc_command.proofs.CommandLaws.{values_in_rows}
use Rattle.mrc_command.proofs.command.defs_given.Goals as goal

pub returns-in-Some : goal.returns-in-Some
returns-in-Some c =
    let given = values_in_rows (found_of c.args.matches.now) (codes "defs") _ c.get_strs.ensures in
    IfOk-weaker c.from_slice.result _ _ (λ files is. search rules) c.from_slice.ensures.items

pub returns-in-None : goal.returns-in-None
returns-in-None c =
    let given = values_in_rows (found_of c.args.matches.now) (codes "defs") _ c.get_strs.ensures in
    search rules
