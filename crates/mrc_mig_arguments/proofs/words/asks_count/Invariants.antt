use Rattle.std.proofs.Common.{◌≡◌, ◌-◌, take}
use Rattle.mrc_mig_tokens.specs.Reading.{left}
use Rattle.mrc_mig_arguments.specs.Words.{asks_count}
use Rattle.mrc_mig_arguments.proofs.words.asks_count.Given as goal

abbrev pub invariant-loop : goal.invariant-loop
invariant-loop l =
    asks_count (take (l.count - l.counter) (left l.rest))
    ≡ asks_count (take l.fn.count (left l.fn.rest))
