-- Believe. Which symbols encode which number; with the law that reading agrees. This profile's own
-- form of MIG's expressions: `*` and `/` bind closer than `+` and `-`, and each goes from left to
-- right.
use Rattle.std.specs.Prelude.{◌≡◌, ℕ, ◌+◌, ◌-◌, ◌*◌, ◌/◌, ◌<◌, ◌≤◌, List, [], ◌∷◌, ◌++◌, map, Bool}
use Rattle.std.specs.Prelude.{true, false, Some}
use Rattle.mrc_base.specs.Limits.{limit_of_number}
use Rattle.mrc_mig_lex.specs.Tokens.{Lexeme}
use Rattle.mrc_mig_lex.specs.declared.token.Sign.TheVariants.{OpenParenthesis, CloseParenthesis}
use Rattle.mrc_mig_lex.specs.declared.token.Sign.TheVariants.{Star, Plus, Minus, Slash}
use Rattle.mrc_mig_symbols.specs.declared.symbol.Symbol.{Symbol}
use Rattle.mrc_mig_symbols.specs.declared.symbol.Symbol.TheVariants.{Number, Sign}
use Rattle.mrc_mig_symbols.specs.Symbols.{symbol_of, first_of}
use Rattle.mrc_mig_symbols.specs.Expressions.{expression_at}

-- how closely the parts of an expression are bound
pub data Level : Type 0 where
  Sum : Level
  Product : Level
  Operand : Level

-- the symbols spell a sum, a product or an operand of this value, as the level says
pub data Spells : Level → List Symbol → ℕ → Type 0 where
  -- a product alone is a sum
  product_alone : {p : List Symbol} {n : ℕ} → Spells Product p n → Spells Sum p n
  -- a sum, `+` and a product: their sum, if it is no greater than a number may be
  plus : {s p : List Symbol} {m n : ℕ}
      → Spells Sum s m
      → Spells Product p n
      → m + n ≤ limit_of_number
      → Spells Sum (s ++ Sign Plus ∷ p) (m + n)
  -- a sum, `-` and a product that is no greater: their difference
  minus : {s p : List Symbol} {m n : ℕ}
      → Spells Sum s m
      → Spells Product p n
      → n ≤ m
      → Spells Sum (s ++ Sign Minus ∷ p) (m - n)
  -- an operand alone is a product, if it is no greater than a number may be
  operand_alone : {o : List Symbol} {n : ℕ}
      → Spells Operand o n
      → n ≤ limit_of_number
      → Spells Product o n
  -- a product, `*` and an operand: their product, if it is no greater than a number may be
  times : {p o : List Symbol} {m n : ℕ}
      → Spells Product p m
      → Spells Operand o n
      → m * n ≤ limit_of_number
      → Spells Product (p ++ Sign Star ∷ o) (m * n)
  -- a product, `/` and an operand that is not 0: their quotient, cut off
  divided : {p o : List Symbol} {m n : ℕ}
      → Spells Product p m
      → Spells Operand o n
      → 0 < n
      → Spells Product (p ++ Sign Slash ∷ o) (m / n)
  -- a number is an operand
  whole_number : (n : ℕ) → Spells Operand (Number n ∷ []) n
  -- a sum in parentheses is an operand
  parenthesized : {s : List Symbol} {n : ℕ}
      → Spells Sum s n
      → Spells Operand (Sign OpenParenthesis ∷ (s ++ Sign CloseParenthesis ∷ [])) n

-- behind an operand an expression goes on with one of `+`, `-`, `*` and `/`
abbrev pub goes_on : Symbol → Bool
goes_on (Sign Plus) = true
goes_on (Sign Minus) = true
goes_on (Sign Star) = true
goes_on (Sign Slash) = true
goes_on _ = false

-- the tokens are those of an expression of value n and then the rest, which does not go on with it
pub record BeginsWith (tokens : List Lexeme) (n : ℕ) (rest : List Lexeme) : Type 0 where
  pub written : List Lexeme
  pub splits : tokens ≡ written ++ rest
  pub spells : Spells Sum (map symbol_of written) n
  pub stops : goes_on (first_of rest) ≡ false

-- an expression that is read at the front of tokens is spelled there
abbrev pub ReadIsSpelled : Type 0
ReadIsSpelled =
    (tokens : List Lexeme) (n : ℕ) (rest : List Lexeme) → expression_at tokens ≡ Some (n, rest)
    → BeginsWith tokens n rest

-- an expression that is spelled at the front of tokens is read there
abbrev pub SpelledIsRead : Type 0
SpelledIsRead =
    (tokens : List Lexeme) (n : ℕ) (rest : List Lexeme) → BeginsWith tokens n rest
    → expression_at tokens ≡ Some (n, rest)

-- the same symbols spell no two values
abbrev pub SpelledHasOneValue : Type 0
SpelledHasOneValue =
    (symbols : List Symbol) (m n : ℕ) → Spells Sum symbols m → Spells Sum symbols n → m ≡ n
