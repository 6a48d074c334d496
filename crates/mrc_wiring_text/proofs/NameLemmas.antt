-- A name is ASCII.
use Rattle.std.proofs.Common.{◌≡◌, ℕ, ◌<◌, true, ltb, ◌&&◌, List, [], ◌∷◌, length, arith}
use Rattle.std.specs.List.{list_all}
use Rattle.std.specs.Str.{IsAscii, IsUtf8}
use Rattle.std.proofs.lemmas.Bool.{and_parts, false≢true}
use Rattle.std.proofs.lemmas.Bool.Decides.{nat_tests}
use Rattle.std.proofs.lemmas.Str.{IsUtf8-from_ascii}
use Rattle.std.proofs.lemmas.Str.Ascii.{IsAscii-nil, IsAscii-cons}
use Rattle.mrc_base.specs.Limits.{limit_of_name}
use Rattle.mrc_wiring_text.specs.Names.{is_letter, is_name_byte, is_name}

letter_below : (b : ℕ) → is_letter b ≡ true → b < 128
letter_below b e = grind (arith, nat_tests)

name_byte_below : (b : ℕ) → is_name_byte b ≡ true → b < 128
name_byte_below b e = grind (arith, nat_tests)

name_bytes_ascii : (bs : List ℕ) → list_all is_name_byte bs ≡ true → IsAscii bs
name_bytes_ascii [] e = IsAscii-nil
name_bytes_ascii (b ∷ bs) e =
    let parts = and_parts (is_name_byte b) (list_all is_name_byte bs) e in
    IsAscii-cons b bs (name_byte_below b parts.0) (name_bytes_ascii bs parts.1)

-- a name is UTF-8
pub IsUtf8-name : (word : List ℕ) → is_name word ≡ true → IsUtf8 word
unfolding is_name
IsUtf8-name [] e = absurd (false≢true e)
IsUtf8-name (b ∷ bs) e =
    let parts = and_parts (is_letter b && ltb (length bs) limit_of_name) (list_all is_name_byte bs)
    e in
    let front = and_parts (is_letter b) (ltb (length bs) limit_of_name) parts.0 in
    IsUtf8-from_ascii (b ∷ bs) (IsAscii-cons b bs (letter_below b front.0)
    (name_bytes_ascii bs parts.1))
