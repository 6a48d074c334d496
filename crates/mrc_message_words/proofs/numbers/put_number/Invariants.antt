use Rattle.std.proofs.Common.{◌≡◌, ◌++◌, ◌-◌}
use Rattle.mrc_message_words.specs.Values.{number_bytes}
use Rattle.mrc_message_words.proofs.numbers.put_number.Given as goal

abbrev pub invariant-loop : goal.invariant-loop
invariant-loop l =
    l.out.items ++ number_bytes (l.width - l.counter) l.rest
    ≡ l.fn.out.items ++ number_bytes l.width l.number
