-- Believe. When a text of edition 2 is made of tokens. What it is for a MIG text of the second
-- edition to be made of tokens, lines of the preprocessor, blanks and comments: a grammar by cases,
-- apart from how one reads it. What is no token of the Server Writer's Guide for MIG is a stray, by
-- this profile's own choice.
use Rattle.std.specs.Prelude.{◌≡◌, ℕ, ◌+◌, ◌<◌, ◌⊎◌, false, not, ◌==◌}
use Rattle.std.specs.Prelude.{IsTrue, List, [], ◌∷◌, ◌++◌, length, Option, Some, None}
use Rattle.std.specs.List.{list_all}
use Rattle.std.specs.Char.{is_ascii_digit}
use Rattle.mrc_base.specs.Limits.{limit_of_number}
use Rattle.mrc_mig_lex.specs.Characters.{line_feed, quote, less_than, greater_than, hash}
use Rattle.mrc_mig_lex.specs.Characters.{is_blank, begins_name, sign_of}
use Rattle.mrc_mig_lex.specs.Pieces.{decimal}
use Rattle.mrc_mig_lex.specs.Parts.{Ends, is_fresh, stays_open, IsBlank, IsComment, IsToken}
use Rattle.mrc_mig_tokens.specs.declared.piece.Kind.{Kind}
use Rattle.mrc_mig_tokens.specs.declared.piece.Kind.TheVariants.{Plain, OpenBrace, CloseBrace}
use Rattle.mrc_mig_tokens.specs.declared.piece.Kind.TheVariants.{Stray}
use Rattle.mrc_mig_tokens.specs.Fronts.{continues_character}
use Rattle.mrc_mig_tokens.specs.Tokens.{Lexed, nothing_lexed, front_before}

-- a part of a text: a token or a line of the preprocessor of this kind, or without a kind a blank
-- or a comment
pub record Piece : Type 0 where
  pub kind : Option Kind
  pub bytes : List ℕ

-- no such character closes what is open, before the end of the line or of the text
abbrev pub IsUnclosed : ℕ → List ℕ → Type 0
IsUnclosed close after =
    (line rest : List ℕ) × (after ≡ line ++ rest) × IsTrue (list_all (stays_open close) line)
    × Ends (λ c. not (c == line_feed)) rest

-- a character with which no token, line, blank or comment begins, in front of what stands after it
abbrev pub BeginsNothing : ℕ → List ℕ → Type 0
BeginsNothing c after =
    (is_blank c ≡ false) × (begins_name c ≡ false) × (is_ascii_digit c ≡ false)
    × ((c == quote) ≡ false) × ((c == less_than) ≡ false) × ((c == hash) ≡ false)
    × ((c == 123) ≡ false) × ((c == 125) ≡ false) × (sign_of c ≡ None)

-- a number that is too large
abbrev pub IsLargeNumber : List ℕ → List ℕ → Type 0
IsLargeNumber bytes after =
    (first : ℕ) × (body : List ℕ) × (bytes ≡ first ∷ body) × IsTrue (list_all is_ascii_digit bytes)
    × Ends is_ascii_digit after × (limit_of_number < decimal bytes)

-- one character, with the bytes that go on with it
abbrev pub IsCharacter : ℕ → List ℕ → List ℕ → Type 0
IsCharacter c bytes after =
    (more : List ℕ) × (bytes ≡ c ∷ more) × IsTrue (list_all continues_character more)
    × Ends continues_character after

-- what no phrase has: a number that is too large; a quote or a `<` that is not closed on its line;
-- a `#` that is not first on its line; a character with which nothing begins
pub data IsStray : List ℕ → List ℕ → List ℕ → Type 0 where
  large_number : {before bytes after : List ℕ}
      → IsLargeNumber bytes after
      → IsStray before bytes after
  open_string : {before bytes after : List ℕ}
      → IsCharacter quote bytes after
      → IsUnclosed quote after
      → IsStray before bytes after
  open_header : {before bytes after : List ℕ}
      → IsCharacter less_than bytes after
      → IsUnclosed greater_than after
      → IsStray before bytes after
  late_hash : {before bytes after : List ℕ}
      → IsCharacter hash bytes after
      → is_fresh before ≡ false
      → IsStray before bytes after
  other : {before bytes after : List ℕ} {c : ℕ}
      → IsCharacter c bytes after
      → BeginsNothing c after
      → IsStray before bytes after

-- the bytes are of this kind, between what stands before and after
abbrev pub IsOfKind : Kind → List ℕ → List ℕ → List ℕ → Type 0
IsOfKind (Plain kind) before bytes after = IsToken kind before bytes after
IsOfKind OpenBrace before bytes after = IsCharacter 123 bytes after
IsOfKind CloseBrace before bytes after = IsCharacter 125 bytes after
IsOfKind Stray before bytes after = IsStray before bytes after

-- the same, or without a kind a blank or a comment
abbrev pub IsPiece : Option Kind → List ℕ → List ℕ → List ℕ → Type 0
IsPiece None before bytes after = IsBlank bytes ⊎ IsComment bytes
IsPiece (Some kind) before bytes after = IsOfKind kind before bytes after

-- what is left of a text, behind what stands before, is made of these
abbrev pub ArePieces : List ℕ → List ℕ → List Piece → Type 0
ArePieces before rest [] = rest ≡ []
ArePieces before rest (piece ∷ pieces) =
    (after : List ℕ) × (rest ≡ piece.bytes ++ after)
    × IsPiece piece.kind before piece.bytes after
    × ArePieces (before ++ piece.bytes) after pieces

-- the tokens and marks of lines among these, the first of which begins at this place
abbrev pub lexed_among : ℕ → List Piece → Lexed
lexed_among at [] = nothing_lexed
lexed_among at (piece ∷ pieces) =
    front_before piece.kind at piece.bytes (lexed_among (at + length piece.bytes) pieces)

-- the text is made of tokens, lines of the preprocessor, blanks and comments, and these are its
-- tokens and its marks of lines
abbrev pub HasTokens : List ℕ → Lexed → Type 0
HasTokens text lexed =
    (pieces : List Piece) × ArePieces [] text pieces × (lexed ≡ lexed_among 0 pieces)
