-- Believe. The first fault; for the tokens a step. The tokens of a whole MIG subsystem text (Server
-- Writer's Guide for MIG), or its first fault in byte order.
use Rattle.std.specs.Prelude.{ℕ, zero, suc, ◌+◌, Bool, true, List, [], ◌∷◌, ◌++◌, Result, Ok, take}
use Rattle.std.specs.Prelude.{◌≡◌, false, drop, option_map, option_to_list, Option, Some, None, Err}
use Rattle.mrc_base.specs.Reading.{◌>>=◌}
use Rattle.mrc_mig_lex.specs.declared.fault.LexFault.{LexFault}
use Rattle.mrc_mig_lex.specs.declared.piece.Piece.{Piece}
use Rattle.mrc_mig_lex.specs.Tokens.{Lexeme, end_of}
use Rattle.mrc_mig_lex.specs.Pieces.{piece_at}

-- the token that a piece is, if it is one; it begins with this character, at this place
abbrev pub lexeme_of : Piece → ℕ → ℕ → List ℕ → List Lexeme
lexeme_of piece at first rest =
    option_to_list
    (option_map (λ kind. record { kind = kind; at = at; bytes = first ∷ take piece.more rest })
    piece.kind)

-- The tokens of what is left of a text from this place on, of which so many bytes still belong to
-- the piece before. fresh: only blanks stand before it on its line.
abbrev pub tokens_from : ℕ → Bool → ℕ → List ℕ → Result (List Lexeme) LexFault
tokens_from left fresh at [] = Ok []
tokens_from (suc left) fresh at (c ∷ rest) = tokens_from left fresh (at + 1) rest
tokens_from zero fresh at (c ∷ rest) = do
  piece ← piece_at at fresh c rest
  later ← tokens_from piece.more piece.fresh (at + 1) rest
  Ok (lexeme_of piece at c rest ++ later)

-- the tokens of a text from this place on, or the first fault there
abbrev pub tokens_behind : Bool → ℕ → List ℕ → Result (List Lexeme) LexFault
tokens_behind fresh at text = tokens_from 0 fresh at (drop at text)

-- the tokens from some place of a text on begin with this one, or with none, or have this fault
abbrev pub BeginsWith : List ℕ → Result (Option Lexeme) LexFault → Result (List Lexeme) LexFault
    → Type 0
BeginsWith text (Ok None) read = read ≡ Ok []
BeginsWith text (Ok (Some token)) read =
    read ≡ (tokens_behind false (end_of token) text >>= λ later. Ok (token ∷ later))
BeginsWith text (Err fault) read = read ≡ Err fault

-- the tokens of a text, from left to right, or its first fault
abbrev pub tokens_of : List ℕ → Result (List Lexeme) LexFault
tokens_of text = tokens_from 0 true 0 text
