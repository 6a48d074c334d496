use Rattle.std.proofs.Common.{◌≡◌, ◌-◌, length}
use Rattle.mrc_mig_symbols.specs.Symbols.{many, many_stop}
use Rattle.mrc_mig_symbols.specs.Readers.{left}
use Rattle.mrc_mig_parse.specs.Arguments.{begins_option, option_at}
use Rattle.mrc_mig_parse.specs.Stops.{option_stop, each_option_stop}
use Rattle.mrc_mig_parse.proofs.options.each_option.Given as goal

abbrev pub invariant-loop : goal.invariant-loop
invariant-loop l = (many begins_option option_at (l.count - l.counter) (left l.rest)
    ≡ many begins_option option_at (length (left l.fn.rest)) (left l.fn.rest))
    × (many_stop begins_option option_at option_stop (l.count - l.counter) (left l.rest)
    ≡ each_option_stop (left l.fn.rest))
