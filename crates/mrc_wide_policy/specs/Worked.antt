-- Worked. Words of lines with strings.
use Rattle.std.specs.Prelude.{◌≡◌, [], ◌∷◌, Some, None, codes, refl}
use Rattle.mrc_wiring_text.specs.Lexis.{is_blank, between_blanks, words}
use Rattle.mrc_wide_policy.specs.Quotes.{by_turns, quoted_words, is_in_quotes, is_string, quoted_of}

-- ---- words

pub strings_are_words : quoted_words (codes "forbid\"a, #1\"a,b # \"c") ≡ codes "forbid"
    ∷ codes "\"a, #1\"" ∷ codes "a" ∷ codes "," ∷ codes "b" ∷ []
unfolding quoted_words by_turns words between_blanks is_blank
strings_are_words = refl

pub end_is_missing : quoted_words (codes "a \"b c") ≡ codes "a" ∷ codes "\"b c" ∷ []
unfolding quoted_words by_turns words between_blanks is_blank
end_is_missing = refl

-- ---- strings

pub string : quoted_of (codes "\"ticket #7, known\"") ≡ Some (codes "ticket #7, known")
unfolding quoted_of is_in_quotes is_string
string = refl

pub no_end : quoted_of (codes "\"b c") ≡ None
unfolding quoted_of is_in_quotes is_string
no_end = refl

pub quote_alone : quoted_of (codes "\"") ≡ None
unfolding quoted_of is_in_quotes is_string
quote_alone = refl

pub empty_string : quoted_of (codes "\"\"") ≡ None
unfolding quoted_of is_in_quotes is_string
empty_string = refl

pub control_character : quoted_of (34 ∷ 97 ∷ 9 ∷ 34 ∷ []) ≡ None
unfolding quoted_of is_in_quotes is_string
control_character = refl

-- U+0085 is one, in two bytes
pub wide_control_character : quoted_of (34 ∷ 194 ∷ 133 ∷ 34 ∷ []) ≡ None
unfolding quoted_of is_in_quotes is_string
wide_control_character = refl

-- U+00A9 is none
pub wide_character : quoted_of (34 ∷ 194 ∷ 169 ∷ 34 ∷ []) ≡ Some (194 ∷ 169 ∷ [])
unfolding quoted_of is_in_quotes is_string
wide_character = refl
