-- Believe. When a text is made of tokens, with `decimal` of `Pieces`. What it is for a MIG
-- subsystem text to be made of tokens (Server Writer's Guide for MIG), blanks and comments: a
-- grammar by cases, apart from how one reads it. Which characters may stand is this profile's own
-- choice.
use Rattle.std.specs.Prelude.{◌≡◌, ℕ, ◌+◌, ◌≤◌, ◌⊎◌, Bool, false, ◌||◌, ◌&&◌, ◌==◌, not, IsTrue}
use Rattle.std.specs.Prelude.{List, [], ◌∷◌, ◌++◌, length, Option, Some, None, option_map}
use Rattle.std.specs.Prelude.{option_to_list, nat_eq, codes}
use Rattle.std.specs.List.{list_all, after_last, starts_with}
use Rattle.std.specs.Char.{is_ascii_digit}
use Rattle.mrc_base.specs.Limits.{limit_of_number}
use Rattle.mrc_mig_lex.specs.declared.token.TokenKind.{TokenKind}
use Rattle.mrc_mig_lex.specs.declared.token.TokenKind.TheVariants.{Name, Number, Text, Header, Sign}
use Rattle.mrc_mig_lex.specs.declared.token.TokenKind.TheVariants.{Directive}
use Rattle.mrc_mig_lex.specs.Tokens.{Lexeme}
use Rattle.mrc_mig_lex.specs.Characters.{line_feed, quote, less_than, greater_than, hash, slash}
use Rattle.mrc_mig_lex.specs.Characters.{is_blank, begins_name, continues_name, sign_of}
use Rattle.mrc_mig_lex.specs.Pieces.{decimal}

-- a part of a text: a token of this kind, or without a kind a blank or a comment
pub record Part : Type 0 where
  pub kind : Option TokenKind
  pub bytes : List ℕ

-- no such character follows, so that a run of them ends here
abbrev pub Ends : (ℕ → Bool) → List ℕ → Type 0
Ends test [] = Unit {0}
Ends test (c ∷ after) = test c ≡ false

-- only blanks stand before on the line
abbrev pub is_fresh : List ℕ → Bool
is_fresh before = list_all is_blank (after_last (λ c. c == line_feed) before)

-- no `*/` stands in it
abbrev pub NoClose : List ℕ → Type 0
NoClose [] = Unit {0}
NoClose (c ∷ rest) = (starts_with nat_eq (c ∷ rest) (codes "*/") ≡ false) × NoClose rest

-- one blank
abbrev pub IsBlank : List ℕ → Type 0
IsBlank bytes = (c : ℕ) × (bytes ≡ c ∷ []) × IsTrue (is_blank c)

-- `/*` up to the next `*/`
abbrev pub IsComment : List ℕ → Type 0
IsComment bytes =
    (inner : List ℕ) × (bytes ≡ codes "/*" ++ (inner ++ codes "*/")) × NoClose (inner ++ codes "*")

-- neither the close nor the end of the line
abbrev pub stays_open : ℕ → ℕ → Bool
stays_open close c = not ((c == close) || (c == line_feed))

-- from this character up to its close, on one line
abbrev pub IsClosed : ℕ → ℕ → List ℕ → Type 0
IsClosed open_with close bytes =
    (inner : List ℕ) × (bytes ≡ open_with ∷ (inner ++ close ∷ []))
    × IsTrue (list_all (stays_open close) inner)

-- the bytes are a token of this kind, between what stands before and after
abbrev pub IsToken : TokenKind → List ℕ → List ℕ → List ℕ → Type 0
IsToken Name before bytes after =
    (first : ℕ) × (body : List ℕ) × (bytes ≡ first ∷ body) × IsTrue (begins_name first)
    × IsTrue (list_all continues_name body) × Ends continues_name after
IsToken (Number n) before bytes after =
    (first : ℕ) × (body : List ℕ) × (bytes ≡ first ∷ body) × IsTrue (list_all is_ascii_digit bytes)
    × Ends is_ascii_digit after × (decimal bytes ≡ n) × (n ≤ limit_of_number)
IsToken Text before bytes after = IsClosed quote quote bytes
IsToken Header before bytes after = IsClosed less_than greater_than bytes
IsToken (Sign s) before bytes after =
    (c : ℕ) × (bytes ≡ c ∷ []) × (sign_of c ≡ Some s)
    × (((c == slash) && starts_with nat_eq after (codes "*")) ≡ false)
IsToken Directive before bytes after =
    (line : List ℕ) × (bytes ≡ hash ∷ line) × IsTrue (is_fresh before)
    × IsTrue (list_all (λ c. not (c == line_feed)) line)
    × Ends (λ c. not (c == line_feed)) after

-- the bytes are a token of this kind, or without a kind a blank or a comment
abbrev pub IsPart : Option TokenKind → List ℕ → List ℕ → List ℕ → Type 0
IsPart None before bytes after = IsBlank bytes ⊎ IsComment bytes
IsPart (Some kind) before bytes after = IsToken kind before bytes after

-- what is left of a text, behind what stands before, is made of these parts
abbrev pub AreParts : List ℕ → List ℕ → List Part → Type 0
AreParts before rest [] = rest ≡ []
AreParts before rest (part ∷ parts) =
    (after : List ℕ) × (rest ≡ part.bytes ++ after) × IsPart part.kind before part.bytes after
    × AreParts (before ++ part.bytes) after parts

-- the tokens among the parts, the first of which begins at this place
abbrev pub tokens_among : ℕ → List Part → List Lexeme
tokens_among at [] = []
tokens_among at (part ∷ parts) =
    option_to_list
    (option_map (λ kind. record { kind = kind; at = at; bytes = part.bytes }) part.kind)
    ++ tokens_among (at + length part.bytes) parts

-- the text is made of tokens, blanks and comments, and these are its tokens
abbrev pub HasTokens : List ℕ → List Lexeme → Type 0
HasTokens text tokens =
    (parts : List Part) × AreParts [] text parts × (tokens ≡ tokens_among 0 parts)
