use Rattle.std.proofs.Common.{◌≡◌, map, take}
use Rattle.clap.specs.Words.{app_of, new_app}
use Rattle.mrc_command.specs.CommandLine.{HasNoGlobals, rule_of_option, with_rules}
use Rattle.mrc_command.proofs.options.entry_command.Given as goal

abbrev pub invariant-loop-row : goal.invariant-loop-row
invariant-loop-row l =
    (app_of l.command ≡ with_rules (new_app l.entry.0.now)
    (map (λ row. rule_of_option (row.0.now, row.1)) (take l.row-index l.entry.3.now)))
    × HasNoGlobals l.command
