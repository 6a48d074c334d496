-- Step. The tokens of a text of edition 2, from left to right. The tokens of a whole MIG text of
-- the
-- second edition with its marks of lines, or its first comment that is not closed.
use Rattle.std.specs.Prelude.{ℕ, zero, suc, ◌+◌, ◌≤◌, Bool, true, List, [], ◌∷◌, ◌++◌, map}
use Rattle.std.specs.Prelude.{take, drop, Option, Some, None, Result, Ok, length, slice_range}
use Rattle.std.specs.Str.{IsCharBoundary}
use Rattle.mrc_base.specs.Reading.{◌>>=◌}
use Rattle.mrc_mig_lex.specs.declared.fault.LexFault.{LexFault}
use Rattle.mrc_mig_tokens.specs.declared.piece.Kind.{Kind}
use Rattle.mrc_mig_tokens.specs.declared.symbol.Part.{Part}
use Rattle.mrc_mig_tokens.specs.declared.symbol.Part.TheVariants as parts
use Rattle.mrc_mig_tokens.specs.declared.symbol.Symbol.{Symbol}
use Rattle.mrc_mig_tokens.specs.declared.tokens.LineMark.{LineMark}
use Rattle.mrc_mig_tokens.specs.declared.tokens.Mark.{Mark}
use Rattle.mrc_mig_tokens.specs.Symbols.{part_by}
use Rattle.mrc_mig_tokens.specs.Fronts.{front_at}

-- what the grammar sees of a token, the offset of its first byte in the text, and its bytes
pub record Token : Type 0 where
  pub symbol : Symbol
  pub at : ℕ
  pub bytes : List ℕ

-- the tokens of a text, and beside them its marks of lines, by where each begins and ends
pub record Lexed : Type 0 where
  pub tokens : List Token
  pub lines : List LineMark

-- nothing is read
abbrev pub nothing_lexed : Lexed
nothing_lexed = record { tokens = []; lines = [] }

-- what is kept of a part from one place to another: a token, a mark of lines, or nothing
abbrev pub marks_of_part : Part → ℕ → ℕ → List Mark
marks_of_part (parts.Token symbol) at end =
    record { symbol = symbol; at = at; end = end } ∷ []
marks_of_part parts.Mark at end = []
marks_of_part parts.Gap at end = []

abbrev pub lines_of_part : Part → ℕ → ℕ → List LineMark
lines_of_part (parts.Token symbol) at end = []
lines_of_part parts.Mark at end = record { at = at; end = end } ∷ []
lines_of_part parts.Gap at end = []

-- a token of a text, by what is kept of it
abbrev pub token_in : List ℕ → Mark → Token
token_in text mark =
    record { symbol = mark.symbol; at = mark.at; bytes = slice_range text mark.at mark.end }

-- what a text has, by what is kept of it
abbrev pub lexed_by : List ℕ → List Mark → List LineMark → Lexed
lexed_by text marks lines = record { tokens = map (token_in text) marks; lines = lines }

-- a token begins and ends between two characters of the text
pub record IsCut (text : List ℕ) (mark : Mark) : Type 0 where
  pub begins : IsCharBoundary text mark.at
  pub ends : IsCharBoundary text mark.end
  pub order : mark.at ≤ mark.end

-- the tokens that a part is: one or none
abbrev pub tokens_of_part : Part → ℕ → List ℕ → List Token
tokens_of_part (parts.Token symbol) at bytes =
    record { symbol = symbol; at = at; bytes = bytes } ∷ []
tokens_of_part parts.Mark at bytes = []
tokens_of_part parts.Gap at bytes = []

-- a part of a text before what follows it
abbrev pub part_before : Part → ℕ → List ℕ → Lexed → Lexed
part_before part at bytes later = record {
  tokens = tokens_of_part part at bytes ++ later.tokens;
  lines = lines_of_part part at (at + length bytes) ++ later.lines;
}

-- what stands at a place before what follows it: a blank or a comment is nothing
abbrev pub front_before : Option Kind → ℕ → List ℕ → Lexed → Lexed
front_before None at bytes later = later
front_before (Some kind) at bytes later = part_before (part_by kind bytes) at bytes later

-- What is left of a text from this place on, of which so many bytes still belong to what stands
-- before. fresh: only blanks stand before it on its line.
abbrev pub lex_from : ℕ → Bool → ℕ → List ℕ → Result Lexed LexFault
lex_from left fresh at [] = Ok nothing_lexed
lex_from (suc left) fresh at (c ∷ rest) = lex_from left fresh (at + 1) rest
lex_from zero fresh at (c ∷ rest) = do
  front ← front_at at fresh c rest
  later ← lex_from front.more front.fresh (at + 1) rest
  Ok (front_before front.kind at (c ∷ take front.more rest) later)

-- what a text has from this place on
abbrev pub lex_behind : Bool → ℕ → List ℕ → Result Lexed LexFault
lex_behind fresh at text = lex_from 0 fresh at (drop at text)

-- the tokens of a text from left to right and its marks of lines, or the first comment that is not
-- closed
abbrev pub lex : List ℕ → Result Lexed LexFault
lex text = lex_from 0 true 0 text
