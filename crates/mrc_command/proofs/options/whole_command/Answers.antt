use Rattle.mrc_command.proofs.options.whole_command.Goals as goal

pub returns : goal.returns
returns c = c.program_of.ensures
