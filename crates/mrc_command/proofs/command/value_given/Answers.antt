use Rattle.std.proofs.Common.{sym, ◌∙◌}
use Rattle.clap.proofs.WalkLemmas.{first_value-rows}
use Rattle.clap.specs.Words.{found_of}
use Rattle.mrc_command.proofs.command.value_given.Goals as goal

pub returns : goal.returns
returns c =
    sym (c.get_str.ensures ∙ first_value-rows (found_of c.args.matches.now) c.args.option.now)
