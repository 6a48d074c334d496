use Rattle.std.proofs.Common.{arith}
use Rattle.clap.specs.Words.{new_app}
use Rattle.mrc_command.specs.CommandLine.{rule_of_option}
use Rattle.mrc_command.proofs.CommandLaws.{all_rules, next_rule}
use Rattle.mrc_command.proofs.options.entry_command.Goals as goal

pub loop-row-preserved : goal.loop-row-preserved
loop-row-preserved c = (
  next_rule (λ row. rule_of_option (row.0.now, row.1)) (new_app c.args.entry.now.0.now)
      c.args.entry.now.3.now c.loop-row.row-index _ c.loop-row-test.true c.loop-row.invariant.0
      c.argument.ensures.rule c.in_ok-command.ensures.app,
  c.in_ok-command.ensures.local,
)

pub returns-clause-app : goal.returns-clause-app
returns-clause-app c =
    all_rules (λ row. (row.0.now, row.1)) (new_app c.args.entry.now.0.now) c.args.entry.now.3.now
    c.loop-row.row-index (omega (arith, c.loop-row-test.false)) c.loop-row.invariant.0
