-- What the digits so far spell, where the first number of more than 32 bits stands for any such.
use Rattle.std.proofs.Common.{◌≡◌, ◌^◌, take, min}
use Rattle.mrc_wiring_text.specs.Lexis.{decimal}
use Rattle.mrc_words.proofs.numbers.value_of.Given as goal

abbrev pub invariant-loop-digit : goal.invariant-loop-digit
invariant-loop-digit l = l.value ≡ min (decimal (take l.digit-index l.digits)) (2 ^ 32)
