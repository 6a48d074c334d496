-- Believe. Where a statement ends, without how one reads: with its first `;` outside of parentheses
-- and braces, which are counted together. This profile's own choice.
use Rattle.std.specs.Prelude.{◌≡◌, ℕ, suc, List, [], ◌∷◌, ◌++◌, Bool, true, false, Ok}
use Rattle.mrc_mig_lex.specs.declared.token.Sign.TheVariants as signs
use Rattle.mrc_mig_tokens.specs.declared.symbol.Symbol.{Symbol}
use Rattle.mrc_mig_tokens.specs.declared.symbol.Symbol.TheVariants as symbols
use Rattle.mrc_mig_tokens.specs.Tokens.{Token}
use Rattle.mrc_mig_rows.specs.Ends.{statement_end}

-- `(` or `{`
abbrev pub is_opening : Symbol → Bool
is_opening (symbols.Sign signs.OpenParenthesis) = true
is_opening symbols.OpenBrace = true
is_opening _ = false

-- `)` or `}`
abbrev pub is_closing : Symbol → Bool
is_closing (symbols.Sign signs.CloseParenthesis) = true
is_closing symbols.CloseBrace = true
is_closing _ = false

-- `;`
abbrev pub is_semicolon : Symbol → Bool
is_semicolon (symbols.Sign signs.Semicolon) = true
is_semicolon _ = false

-- none of these, and no line of the preprocessor
abbrev pub is_other : Symbol → Bool
is_other (symbols.Sign signs.OpenParenthesis) = false
is_other (symbols.Sign signs.CloseParenthesis) = false
is_other (symbols.Sign signs.Semicolon) = false
is_other symbols.OpenBrace = false
is_other symbols.CloseBrace = false
is_other symbols.Include = false
is_other symbols.Line = false
is_other symbols.End = false
is_other _ = true

-- what stands in a statement before its `;`, where so many parentheses and braces are open
pub data IsInside : ℕ → List Token → Type 0 where
  -- nothing, with nothing open
  nothing : IsInside 0 []
  -- one more is open behind an opening sign
  opening : (depth : ℕ) (token : Token) (later : List Token)
      → is_opening token.symbol ≡ true
      → IsInside (suc depth) later
      → IsInside depth (token ∷ later)
  -- one less behind a closing sign
  closing : (depth : ℕ) (token : Token) (later : List Token)
      → is_closing token.symbol ≡ true
      → IsInside depth later
      → IsInside (suc depth) (token ∷ later)
  -- a `;` stands where one is open
  inner : (depth : ℕ) (token : Token) (later : List Token)
      → is_semicolon token.symbol ≡ true
      → IsInside (suc depth) later
      → IsInside (suc depth) (token ∷ later)
  -- any other token stands anywhere
  other : (depth : ℕ) (token : Token) (later : List Token)
      → is_other token.symbol ≡ true
      → IsInside depth later
      → IsInside depth (token ∷ later)

-- these tokens are a statement and what follows it
pub record IsStatement (tokens behind : List Token) : Type 0 where
  pub inside : List Token
  pub end : Token
  pub splits : tokens ≡ inside ++ end ∷ behind
  pub ends : is_semicolon end.symbol ≡ true
  pub stands : IsInside 0 inside

-- what is read stands there
abbrev pub ReadIsStatement : Type 0
ReadIsStatement =
    (tokens behind : List Token) → statement_end tokens ≡ Ok behind → IsStatement tokens behind

-- what stands there is read
abbrev pub StatementIsRead : Type 0
StatementIsRead =
    (tokens behind : List Token) → IsStatement tokens behind → statement_end tokens ≡ Ok behind
