-- Words that are no task's name.
use Rattle.std.proofs.Common.{◌≡◌, ℕ, List, Option, Some, None, refl}
use Rattle.std.specs.Str.{IsUtf8}
use Rattle.mrc_wiring.specs.Names.{AreNames, number_of}
use Rattle.mrc_wiring.proofs.NameLemmas.{named_at}
use Rattle.mrc_wiring_text.proofs.NameLemmas.{IsUtf8-name}

none_if : (o : Option ℕ) → ((t : ℕ) → o ≡ Some t → ⊥) → o ≡ None
none_if None never = refl
none_if (Some t) never = absurd (never t refl)

-- names are UTF-8, so a word that is not is nobody's name
pub no_task : (names : List (List ℕ)) (word : List ℕ) → AreNames names → (IsUtf8 word → ⊥)
    → number_of names word ≡ None
no_task names word are bad =
    none_if (number_of names word)
    (λ t e. bad (IsUtf8-name word (are.each t word (named_at names word t e))))
