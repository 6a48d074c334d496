-- Believe. Where reading an expression stops. The order of faults and their places are this
-- profile's own choice.
use Rattle.std.specs.Prelude.{ℕ, List, [], ◌∷◌, length, map, Bool, true, false, Result, Ok, Err}
use Rattle.std.specs.Prelude.{if◌then◌else◌}
use Rattle.std.specs.Option.{ok_or}
use Rattle.mrc_base.specs.Reading.{◌>>=◌}
use Rattle.mrc_mig_lex.specs.Tokens.{Lexeme}
use Rattle.mrc_mig_lex.specs.declared.token.Sign.TheVariants as signs
use Rattle.mrc_mig_symbols.specs.declared.fault.Stop.{Stop}
use Rattle.mrc_mig_symbols.specs.declared.symbol.Symbol.{Symbol}
use Rattle.mrc_mig_symbols.specs.declared.symbol.Symbol.TheVariants as symbols
use Rattle.mrc_mig_symbols.specs.Symbols.{symbol_of, unexpected_at}
use Rattle.mrc_mig_symbols.specs.Expressions.{Partial, Unfinished, nothing_read, with_operand}
use Rattle.mrc_mig_symbols.specs.Expressions.{value_of, ends}

-- a sum that is being read, and how many tokens are left where the operand begins that it is, with
-- its parenthesis, where it begins itself, and where its last product does
pub record Placed : Type 0 where
  pub sum : Partial
  pub operand : ℕ
  pub from : ℕ
  pub product : ℕ

-- a sum of which nothing is read
abbrev pub nothing_placed : ℕ → ℕ → Placed
nothing_placed operand from =
    record { sum = nothing_read; operand = operand; from = from; product = from }

-- a divisor 0 stops at itself, a product that is too great at its first factor
abbrev pub operand_place : ℕ → Placed → ℕ
operand_place at p = if p.sum.divides then at else p.product

-- the sum with one more factor or divisor, which begins here
unfoldable pub placed_with : ℕ → ℕ → Placed → Result Placed Stop
placed_with n at p = do
  sum ← ok_or (with_operand n p.sum) (unexpected_at (operand_place at p))
  Ok (record p { sum = sum })

-- the value of a sum, which stops at the sum where it is out of range
unfoldable pub placed_value : Placed → Result ℕ Stop
placed_value p = ok_or (value_of p.sum) (unexpected_at p.from)

-- before the next product, which begins here
unfoldable pub placed_product : Bool → ℕ → Placed → Result Placed Stop
placed_product subtracts at p = do
  total ← placed_value p
  Ok (record {
    sum = record { total = total; subtracts = subtracts; product = 1; divides = false };
    operand = p.operand;
    from = p.from;
    product = at;
  })

-- an expression that is being read: the sums around the innermost open parenthesis, that
-- parenthesis's sum, and whether an operand comes next
pub record Reading : Type 0 where
  pub outer : List Placed
  pub sum : Placed
  pub wants_operand : Bool

-- the same without places
abbrev pub unplaced : Reading → Unfinished
unplaced r = record {
  outer = map (λ (p : Placed). p.sum) r.outer;
  sum = r.sum.sum;
  wants_operand = r.wants_operand;
}

-- behind an operand
abbrev pub placed_read : List Placed → Placed → Result Reading Stop
placed_read outer p = Ok (record { outer = outer; sum = p; wants_operand = false })

-- before an operand
abbrev pub placed_wanted : List Placed → Placed → Result Reading Stop
placed_wanted outer p = Ok (record { outer = outer; sum = p; wants_operand = true })

-- an operand, or the parenthesis that opens one, with so many tokens left at it and behind it
abbrev pub placed_operand : Symbol → ℕ → ℕ → List Placed → Placed → Result Reading Stop
placed_operand (symbols.Number n) at next outer p =
    placed_with n at p >>= λ p. placed_read outer p
placed_operand (symbols.Sign signs.OpenParenthesis) at next outer p =
    placed_wanted (p ∷ outer) (nothing_placed at next)
placed_operand _ at next outer p = Err (unexpected_at at)

-- the parenthesis that closes a sum, which is an operand of the sum around it
abbrev pub placed_closed : ℕ → List Placed → Placed → Result Reading Stop
placed_closed at [] p = Err (unexpected_at at)
placed_closed at (around ∷ outer) p =
    placed_value p >>= λ n. placed_with n p.operand around >>= λ p. placed_read outer p

-- an operator, or the parenthesis that closes a sum
abbrev pub placed_operator : Symbol → ℕ → ℕ → List Placed → Placed → Result Reading Stop
placed_operator (symbols.Sign signs.Star) at next outer p =
    placed_wanted outer (record p { sum = record p.sum { divides = false } })
placed_operator (symbols.Sign signs.Slash) at next outer p =
    placed_wanted outer (record p { sum = record p.sum { divides = true } })
placed_operator (symbols.Sign signs.Plus) at next outer p =
    placed_product false next p >>= λ p. placed_wanted outer p
placed_operator (symbols.Sign signs.Minus) at next outer p =
    placed_product true next p >>= λ p. placed_wanted outer p
placed_operator (symbols.Sign signs.CloseParenthesis) at next outer p = placed_closed at outer p
placed_operator _ at next outer p = Err (unexpected_at at)

-- one symbol further, by whether an operand comes next
abbrev pub placed_by : Bool → Symbol → ℕ → ℕ → List Placed → Placed → Result Reading Stop
placed_by true symbol at next outer p = placed_operand symbol at next outer p
placed_by false symbol at next outer p = placed_operator symbol at next outer p

-- one symbol further
unfoldable pub placed_step : Symbol → ℕ → ℕ → Reading → Result Reading Stop
placed_step symbol at next r = placed_by r.wants_operand symbol at next r.outer r.sum

-- the value of the sum of an expression that ends here, where no parenthesis is open
abbrev pub outermost : List Placed → ℕ → ℕ → Result ℕ Stop
outermost [] at n = Ok n
outermost (around ∷ outer) at n = Err (unexpected_at at)

-- the value of an expression that ends here
abbrev pub placed_value_by : Bool → ℕ → List Placed → Placed → Result ℕ Stop
placed_value_by true at outer p = Err (unexpected_at at)
placed_value_by false at outer p = placed_value p >>= λ n. outermost outer at n

-- that value, and what follows it
unfoldable pub placed_before : List Lexeme → Reading → Result (ℕ × List Lexeme) Stop
placed_before tokens r =
    placed_value_by r.wants_operand (length tokens) r.outer r.sum >>= λ n. Ok (n, tokens)

-- the value of the expression that these tokens complete, and what follows it
unfoldable pub placed_from : Reading → List Lexeme → Result (ℕ × List Lexeme) Stop
placed_from r [] = placed_before [] r
placed_from r (token ∷ tokens) =
    if ends (unplaced r) (symbol_of token)
    then placed_before (token ∷ tokens) r
    else (placed_step (symbol_of token) (length (token ∷ tokens)) (length tokens) r
    >>= λ next. placed_from next tokens)

-- the value of the expression at the front and what follows it, or where reading it stops
unfoldable pub read_expression : List Lexeme → Result (ℕ × List Lexeme) Stop
read_expression tokens =
    placed_from (record {
      outer = [];
      sum = nothing_placed (length tokens) (length tokens);
      wants_operand = true;
    }) tokens

-- where reading it stops, if it does
abbrev pub stop_in : {A : Type 0} → Result A Stop → Stop
stop_in (Ok a) = unexpected_at 0
stop_in (Err stop) = stop

unfoldable pub expression_stop : List Lexeme → Stop
expression_stop tokens = stop_in (read_expression tokens)
