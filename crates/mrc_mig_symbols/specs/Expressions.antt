-- Step. Reading an expression symbol by symbol. The bounds of their parts are this profile's own
-- choice.
use Rattle.std.specs.Prelude.{ℕ, ◌+◌, ◌-◌, ◌*◌, ◌/◌, List, [], ◌∷◌, Bool, true, false, Option, Some}
use Rattle.std.specs.Prelude.{None, nat_le, nat_lt, ◌==◌, if◌then◌else◌}
use Rattle.mrc_base.specs.Limits.{limit_of_number}
use Rattle.mrc_mig_lex.specs.Tokens.{Lexeme}
use Rattle.mrc_mig_lex.specs.declared.token.Sign.TheVariants as signs
use Rattle.mrc_mig_symbols.specs.declared.symbol.Symbol.{Symbol}
use Rattle.mrc_mig_symbols.specs.declared.symbol.Symbol.TheVariants as symbols
use Rattle.mrc_mig_symbols.specs.Symbols.{◌>>=◌, symbol_of}

-- a part's value, if it is one
abbrev pub part : ℕ → Option ℕ
part n = if nat_le n limit_of_number then Some n else None

-- a sum that is being read: the parts that are finished and what becomes of the product that is
-- read now
pub record Partial : Type 0 where
  pub total : ℕ
  pub subtracts : Bool
  pub product : ℕ
  pub divides : Bool

-- a sum of which nothing is read
abbrev pub nothing_read : Partial
nothing_read = record { total = 0; subtracts = false; product = 1; divides = false }

-- the product with one more factor or divisor
abbrev pub next_factor : Bool → ℕ → ℕ → Option ℕ
next_factor false product n = part (product * n)
next_factor true product n = if n == 0 then None else Some (product / n)

-- the sum with one more summand
abbrev pub next_summand : Bool → ℕ → ℕ → Option ℕ
next_summand false total n = part (total + n)
next_summand true total n = if nat_lt total n then None else Some (total - n)

-- the sum with one more factor or divisor of its last product
unfoldable pub with_operand : ℕ → Partial → Option Partial
with_operand n sum =
    next_factor sum.divides sum.product n >>= λ product. Some (record sum { product = product })

-- the value of a sum
unfoldable pub value_of : Partial → Option ℕ
value_of sum = next_summand sum.subtracts sum.total sum.product

-- before the next product, which is added or taken away
unfoldable pub next_product : Bool → Partial → Option Partial
next_product subtracts sum = value_of sum
    >>= λ total. Some (record {
      total = total;
      subtracts = subtracts;
      product = 1;
      divides = false;
    })

-- an expression that is being read: the sums around the innermost open parenthesis, that
-- parenthesis's sum, and whether an operand comes next
pub record Unfinished : Type 0 where
  pub outer : List Partial
  pub sum : Partial
  pub wants_operand : Bool

-- behind an operand
abbrev pub operand_read : List Partial → Partial → Option Unfinished
operand_read outer sum = Some (record { outer = outer; sum = sum; wants_operand = false })

-- before an operand
abbrev pub operand_wanted : List Partial → Partial → Option Unfinished
operand_wanted outer sum = Some (record { outer = outer; sum = sum; wants_operand = true })

-- an operand, or the parenthesis that opens one
abbrev pub operand_step : Symbol → List Partial → Partial → Option Unfinished
operand_step (symbols.Number n) outer sum = with_operand n sum >>= λ sum. operand_read outer sum
operand_step (symbols.Sign signs.OpenParenthesis) outer sum =
    operand_wanted (sum ∷ outer) nothing_read
operand_step _ outer sum = None

-- the parenthesis that closes a sum, which is an operand of the sum around it
abbrev pub closed : List Partial → Partial → Option Unfinished
closed [] sum = None
closed (around ∷ outer) sum =
    value_of sum >>= λ n. with_operand n around >>= λ sum. operand_read outer sum

-- an operator, or the parenthesis that closes a sum
abbrev pub operator_step : Symbol → List Partial → Partial → Option Unfinished
operator_step (symbols.Sign signs.Star) outer sum = operand_wanted outer (record sum {
  divides = false;
})
operator_step (symbols.Sign signs.Slash) outer sum = operand_wanted outer (record sum {
  divides = true;
})
operator_step (symbols.Sign signs.Plus) outer sum =
    next_product false sum >>= λ sum. operand_wanted outer sum
operator_step (symbols.Sign signs.Minus) outer sum =
    next_product true sum >>= λ sum. operand_wanted outer sum
operator_step (symbols.Sign signs.CloseParenthesis) outer sum = closed outer sum
operator_step _ outer sum = None

-- one symbol further, by whether an operand comes next
abbrev pub step_by : Bool → Symbol → List Partial → Partial → Option Unfinished
step_by true symbol outer sum = operand_step symbol outer sum
step_by false symbol outer sum = operator_step symbol outer sum

-- one symbol further
unfoldable pub step : Symbol → Unfinished → Option Unfinished
step symbol u = step_by u.wants_operand symbol u.outer u.sum

-- a closing parenthesis ends an expression in which none is open
abbrev pub is_empty : List Partial → Bool
is_empty [] = true
is_empty (around ∷ outer) = false

-- behind an operand this symbol belongs to the expression no more
abbrev pub ends_by : Bool → List Partial → Symbol → Bool
ends_by true outer symbol = false
ends_by false outer (symbols.Sign signs.Star) = false
ends_by false outer (symbols.Sign signs.Slash) = false
ends_by false outer (symbols.Sign signs.Plus) = false
ends_by false outer (symbols.Sign signs.Minus) = false
ends_by false outer (symbols.Sign signs.CloseParenthesis) = is_empty outer
ends_by false outer _ = true

-- this symbol belongs to the expression no more
unfoldable pub ends : Unfinished → Symbol → Bool
ends u symbol = ends_by u.wants_operand u.outer symbol

-- the value of an expression that ends here
abbrev pub value_by : Bool → List Partial → Partial → Option ℕ
value_by true outer sum = None
value_by false [] sum = value_of sum
value_by false (around ∷ outer) sum = None

-- the value of the whole expression, where it may end
unfoldable pub whole_value : Unfinished → Option ℕ
whole_value u = value_by u.wants_operand u.outer u.sum

-- that value, and what follows it
unfoldable pub value_before : List Lexeme → Unfinished → Option (ℕ × List Lexeme)
value_before tokens u = whole_value u >>= λ n. Some (n, tokens)

-- the value of the expression that these tokens complete, and what follows it
unfoldable pub value_from : Unfinished → List Lexeme → Option (ℕ × List Lexeme)
value_from u [] = value_before [] u
value_from u (token ∷ tokens) =
    if ends u (symbol_of token)
    then value_before (token ∷ tokens) u
    else (step (symbol_of token) u >>= λ next. value_from next tokens)

-- the value of the expression at the front, and what follows it
unfoldable pub expression_at : List Lexeme → Option (ℕ × List Lexeme)
expression_at tokens =
    value_from (record { outer = []; sum = nothing_read; wants_operand = true }) tokens
