-- Numbers that words spell, by computation.
use Rattle.std.proofs.Common.{◌≡◌, Some, None, refl}
use Rattle.std.specs.Prelude.{codes}
use Rattle.mrc_words.specs.Numbers.{number_of_word}

-- a number of more than 32 bits, and the last that has no more
large : number_of_word (codes "4294967296") ≡ None
unfolding number_of_word
large = refl

largest : number_of_word (codes "04294967295") ≡ Some 4294967295
unfolding number_of_word
largest = refl
