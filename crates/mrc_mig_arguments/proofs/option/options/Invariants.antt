use Rattle.std.proofs.Common.{◌≡◌, ◌-◌}
use Rattle.mrc_mig_tokens.specs.Reading.{many, left}
use Rattle.mrc_mig_arguments.specs.Reading.{begins_option, option_at, options_at}
use Rattle.mrc_mig_arguments.proofs.option.options.Given as goal

abbrev pub invariant-loop : goal.invariant-loop
invariant-loop l =
    many begins_option option_at (l.count - l.counter) (left l.rest) ≡ options_at (left l.fn.rest)
