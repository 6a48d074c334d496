use Rattle.std.proofs.Common.{◌↔◌, ◌<◌, ◌^◌, drop}
use Rattle.std.specs.List.{AllByRecursion}
use Rattle.mrc_message_words.proofs.numbers.have_bits.Given as goal

abbrev pub invariant-loop-number : goal.invariant-loop-number
invariant-loop-number l =
    AllByRecursion (λ number. number < 2 ^ l.size) (drop l.number-index l.numbers)
    ↔ AllByRecursion (λ number. number < 2 ^ l.size) l.numbers
