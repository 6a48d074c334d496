-- Step. What is kept of tokens. What is kept of the tokens of a text: this profile's own choice.
use Rattle.std.specs.Prelude.{◌≡◌, ℕ, List, [], Result, Ok, Err, map}
use Rattle.mrc_base.specs.Reading.{◌>>=◌}
use Rattle.mrc_mig_lex.specs.Tokens.{Lexeme}
use Rattle.mrc_mig_lex.specs.Lexing.{tokens_of}
use Rattle.mrc_mig_lex.specs.declared.fault.LexFault.{LexFault}
use Rattle.mrc_mig_symbols.specs.declared.tokens.Mark.{Mark}
use Rattle.mrc_mig_symbols.specs.Symbols.{symbol_of}

-- the tokens that were read, or none
abbrev pub tokens_or_none : Result (List Lexeme) LexFault → List Lexeme
tokens_or_none (Ok tokens) = tokens
tokens_or_none (Err fault) = []

-- the tokens of a text that has no fault
unfoldable pub tokens_in : List ℕ → List Lexeme
tokens_in text = tokens_or_none (tokens_of text)

-- what is kept of a token
abbrev pub mark_of : Lexeme → Mark
mark_of token = record { symbol = symbol_of token; at = token.at }

-- what is kept of the tokens of a text, or its first fault
unfoldable pub marks_of : List ℕ → Result (List Mark) LexFault
marks_of text = tokens_of text >>= λ tokens. Ok (map mark_of tokens)

-- the text has tokens, and this is kept of them
pub record AreMarks (text : List ℕ) (marks : List Mark) : Type 0 where
  pub read : tokens_of text ≡ Ok (tokens_in text)
  pub marks_are : marks ≡ map mark_of (tokens_in text)
