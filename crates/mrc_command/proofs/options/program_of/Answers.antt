use Rattle.std.proofs.Common.{arith, map}
use Rattle.mrc_command.specs.CommandLine.{bare_app, command_app}
use Rattle.mrc_command.proofs.CommandLaws.{all_commands, next_command}
use Rattle.mrc_command.proofs.options.program_of.Goals as goal

pub loop-entry-preserved : goal.loop-entry-preserved
loop-entry-preserved c =
    next_command
    (λ entry. command_app (entry.0.now, map (λ row. (row.0.now, row.1)) entry.3.now)) bare_app
    c.args.entries.now c.loop-entry.entry-index _ c.loop-entry-test.true c.loop-entry.invariant
    c.in_ok-entry_command.ensures.app c.in_ok-program.ensures

pub returns : goal.returns
returns c =
    all_commands (λ entry. (entry.0.now, map (λ row. (row.0.now, row.1)) entry.3.now)) bare_app
    c.args.entries.now c.loop-entry.entry-index (omega (arith, c.loop-entry-test.false))
    c.loop-entry.invariant
