-- Believe. Letters, blanks and signs. Which characters make up a MIG subsystem text, by its ASCII
-- codes: letters, digits and signs as the grammar of the Server Writer's Guide for MIG uses them;
-- which blanks and signs there are is this profile's own choice.
use Rattle.std.specs.Prelude.{ℕ, Bool, ◌||◌, ◌==◌, Option, Some, None, if◌then◌else◌}
use Rattle.std.specs.Char.{is_ascii_alphabetic, is_ascii_digit}
use Rattle.mrc_mig_lex.specs.declared.token.Sign.{Sign}
use Rattle.mrc_mig_lex.specs.declared.token.Sign.TheVariants.{Semicolon, Colon, Comma, Equals}
use Rattle.mrc_mig_lex.specs.declared.token.Sign.TheVariants.{OpenParenthesis, CloseParenthesis}
use Rattle.mrc_mig_lex.specs.declared.token.Sign.TheVariants.{OpenBracket, CloseBracket, Star, Plus}
use Rattle.mrc_mig_lex.specs.declared.token.Sign.TheVariants.{Minus, Slash, Caret, Bar}

-- the line feed, which ends a line
abbrev pub line_feed : ℕ
line_feed = 10

-- `"`
abbrev pub quote : ℕ
quote = 34

-- `<`
abbrev pub less_than : ℕ
less_than = 60

-- `>`
abbrev pub greater_than : ℕ
greater_than = 62

-- `#`
abbrev pub hash : ℕ
hash = 35

-- `/`
abbrev pub slash : ℕ
slash = 47

-- `_`
abbrev pub underscore : ℕ
underscore = 95

-- space, tab, carriage return, line feed
abbrev pub is_blank : ℕ → Bool
is_blank c = (((c == 32) || (c == 9)) || (c == 13)) || (c == line_feed)

-- a letter or `_`
abbrev pub begins_name : ℕ → Bool
begins_name c = is_ascii_alphabetic c || (c == underscore)

-- a letter, `_` or a digit
abbrev pub continues_name : ℕ → Bool
continues_name c = begins_name c || is_ascii_digit c

-- the sign that a character is: one of ; : , = ( ) [ ] * + - / ^ |
abbrev pub sign_of : ℕ → Option Sign
sign_of c =
    if c == 59 then Some Semicolon
    else (if c == 58 then Some Colon
    else (if c == 44 then Some Comma
    else (if c == 61 then Some Equals
    else (if c == 40 then Some OpenParenthesis
    else (if c == 41 then Some CloseParenthesis
    else (if c == 91 then Some OpenBracket
    else (if c == 93 then Some CloseBracket
    else (if c == 42 then Some Star
    else (if c == 43 then Some Plus
    else (if c == 45 then Some Minus
    else (if c == 47 then Some Slash
    else (if c == 94 then Some Caret
    else (if c == 124 then Some Bar
    else None)))))))))))))
