-- Believe. Which symbols encode which value; with the law that reading agrees. MIG's expressions in
-- this profile's own form: `*` and `/` bind closer than `+` and `-`, and each goes from left to
-- right. An expression of which a part is out of range has no value.
use Rattle.std.specs.Prelude.{◌≡◌, ℕ, List, [], ◌∷◌, ◌++◌, map, Bool, true, false, Option, Ok}
use Rattle.mrc_mig_lex.specs.declared.token.Sign.TheVariants.{OpenParenthesis, CloseParenthesis}
use Rattle.mrc_mig_lex.specs.declared.token.Sign.TheVariants.{Star, Plus, Minus, Slash}
use Rattle.mrc_mig_symbols.specs.ExpressionGrammar.{Level, Sum, Product, Operand}
use Rattle.mrc_mig_tokens.specs.declared.symbol.Symbol.{Symbol}
use Rattle.mrc_mig_tokens.specs.declared.symbol.Symbol.TheVariants.{Number, Sign}
use Rattle.mrc_mig_tokens.specs.Tokens.{Token}
use Rattle.mrc_mig_tokens.specs.Reading.{first_of}
use Rattle.mrc_mig_tokens.specs.Sums.{part, multiplied, divided, added, subtracted, sum_at}

-- the symbols spell a sum, a product or an operand of this value, or of none, as the level says
pub data Spells : Level → List Symbol → Option ℕ → Type 0 where
  -- a product alone is a sum
  product_alone : {p : List Symbol} {n : Option ℕ} → Spells Product p n → Spells Sum p n
  -- a sum, `+` and a product
  plus : {s p : List Symbol} {m n : Option ℕ}
      → Spells Sum s m
      → Spells Product p n
      → Spells Sum (s ++ Sign Plus ∷ p) (added m n)
  -- a sum, `-` and a product
  minus : {s p : List Symbol} {m n : Option ℕ}
      → Spells Sum s m
      → Spells Product p n
      → Spells Sum (s ++ Sign Minus ∷ p) (subtracted m n)
  -- an operand alone is a product
  operand_alone : {o : List Symbol} {n : Option ℕ} → Spells Operand o n → Spells Product o n
  -- a product, `*` and an operand
  times : {p o : List Symbol} {m n : Option ℕ}
      → Spells Product p m
      → Spells Operand o n
      → Spells Product (p ++ Sign Star ∷ o) (multiplied m n)
  -- a product, `/` and an operand
  divided_by : {p o : List Symbol} {m n : Option ℕ}
      → Spells Product p m
      → Spells Operand o n
      → Spells Product (p ++ Sign Slash ∷ o) (divided m n)
  -- a number is an operand
  whole_number : (n : ℕ) → Spells Operand (Number n ∷ []) (part n)
  -- a sum in parentheses is an operand
  parenthesized : {s : List Symbol} {n : Option ℕ}
      → Spells Sum s n
      → Spells Operand (Sign OpenParenthesis ∷ (s ++ Sign CloseParenthesis ∷ [])) n

-- behind an operand an expression goes on with one of `+`, `-`, `*` and `/`
abbrev pub goes_on : Symbol → Bool
goes_on (Sign Plus) = true
goes_on (Sign Minus) = true
goes_on (Sign Star) = true
goes_on (Sign Slash) = true
goes_on _ = false

-- what the grammar sees of a token
abbrev pub symbol_of : Token → Symbol
symbol_of token = token.symbol

-- the tokens are those of an expression of this value, or of none, and then the rest, which does
-- not go on with it
pub record BeginsWith (tokens : List Token) (n : Option ℕ) (rest : List Token) : Type 0 where
  pub written : List Token
  pub splits : tokens ≡ written ++ rest
  pub spells : Spells Sum (map symbol_of written) n
  pub stops : goes_on (first_of rest) ≡ false

-- an expression that is read at the front of tokens is spelled there
abbrev pub ReadIsSpelled : Type 0
ReadIsSpelled =
    (tokens : List Token) (n : Option ℕ) (rest : List Token) → sum_at tokens ≡ Ok (n, rest)
    → BeginsWith tokens n rest

-- an expression that is spelled at the front of tokens is read there
abbrev pub SpelledIsRead : Type 0
SpelledIsRead =
    (tokens : List Token) (n : Option ℕ) (rest : List Token) → BeginsWith tokens n rest
    → sum_at tokens ≡ Ok (n, rest)

-- the same symbols spell no two values
abbrev pub SpelledHasOneValue : Type 0
SpelledHasOneValue =
    (symbols : List Symbol) (m n : Option ℕ) → Spells Sum symbols m → Spells Sum symbols n → m ≡ n
