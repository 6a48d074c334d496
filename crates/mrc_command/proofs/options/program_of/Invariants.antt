use Rattle.std.proofs.Common.{◌≡◌, map, take}
use Rattle.clap.specs.Words.{app_of}
use Rattle.mrc_command.specs.CommandLine.{bare_app, command_app, with_commands}
use Rattle.mrc_command.proofs.options.program_of.Given as goal

abbrev pub invariant-loop-entry : goal.invariant-loop-entry
invariant-loop-entry l =
    app_of l.program ≡ with_commands bare_app
    (map (λ entry. command_app (entry.0.now, map (λ row. (row.0.now, row.1)) entry.3.now))
    (take l.entry-index l.entries))
