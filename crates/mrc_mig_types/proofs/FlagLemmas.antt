-- A name is compared with a word in lower case.
use Rattle.std.proofs.Common.{◌≡◌, ℕ, Bool, true, false, List, refl, sym}
use Rattle.std.specs.Str.{bytes_eq, str_to_ascii_lowercase}
use Rattle.mrc_mig_symbols.proofs.TableLemmas.{lower_same, lower_differs}

pub spelled_is : (text word : List ℕ) (b : Bool) → str_to_ascii_lowercase word ≡ word
    → (b ≡ true → str_to_ascii_lowercase text ≡ str_to_ascii_lowercase word)
    → (str_to_ascii_lowercase text ≡ str_to_ascii_lowercase word → b ≡ true)
    → b ≡ bytes_eq (str_to_ascii_lowercase text) word
spelled_is text word true low to from = sym (lower_same text word low (to refl))
spelled_is text word false low to from =
    sym (lower_differs text word low (λ e. let t = from e in absurd cc))
