use Rattle.std.proofs.Common.{◌≡◌, ◌-◌, map, length}
use Rattle.mrc_mig_symbols.specs.Symbols.{many, many_stop}
use Rattle.mrc_mig_symbols.specs.Readers.{left}
use Rattle.mrc_mig_parse.specs.Arguments.{goes_on, next_argument}
use Rattle.mrc_mig_parse.specs.Stops.{next_argument_stop, more_arguments_stop}
use Rattle.mrc_mig_parse.specs.Readers.{parameter_of}
use Rattle.mrc_mig_parse.proofs.arguments.more_arguments.Given as goal

abbrev pub invariant-loop : goal.invariant-loop
invariant-loop l = (many goes_on (next_argument l.types l.is_simple) (l.count - l.counter)
    (map parameter_of l.seen.items, left l.rest) ≡ many goes_on
    (next_argument l.types l.is_simple) (length (left l.fn.rest))
    (map parameter_of l.fn.seen.items, left l.fn.rest))
    × (many_stop goes_on (next_argument l.types l.is_simple)
    (next_argument_stop l.types l.is_simple) (l.count - l.counter)
    (map parameter_of l.seen.items, left l.rest)
    ≡ more_arguments_stop l.types l.is_simple (map parameter_of l.fn.seen.items) (left l.fn.rest))
