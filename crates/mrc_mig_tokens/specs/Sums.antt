-- Step. Reading an expression symbol by symbol; Believe `multiplied`, `divided`, `added` and
-- `subtracted`. Whole-number expressions of the second edition, each with a value or none. The
-- bounds of their parts are this profile's own choice.
use Rattle.std.specs.Prelude.{ℕ, ◌+◌, ◌-◌, ◌*◌, ◌/◌, List, [], ◌∷◌, Bool, true, false, ◌||◌, not}
use Rattle.std.specs.Prelude.{Option, Some, None, Result, Ok, Err, nat_le, nat_lt}
use Rattle.std.specs.Prelude.{◌==◌, if◌then◌else◌}
use Rattle.std.specs.Option.{ok_or}
use Rattle.mrc_base.specs.Limits.{limit_of_number}
use Rattle.mrc_base.specs.Reading.{◌>>=◌}
use Rattle.mrc_mig_lex.specs.declared.token.Sign.TheVariants as signs
use Rattle.mrc_mig_symbols.specs.declared.fault.Stop.{Stop}
use Rattle.mrc_mig_tokens.specs.declared.symbol.Symbol.{Symbol}
use Rattle.mrc_mig_tokens.specs.declared.symbol.Symbol.TheVariants as symbols
use Rattle.mrc_mig_tokens.specs.Tokens.{Token}
use Rattle.mrc_mig_tokens.specs.Reading.{unexpected}

-- a part's value, if it is one
abbrev pub part : ℕ → Option ℕ
part n = if nat_le n limit_of_number then Some n else None

-- a value of two values, where there are two
abbrev pub of_both : (ℕ → ℕ → Option ℕ) → Option ℕ → Option ℕ → Option ℕ
of_both f (Some m) (Some n) = f m n
of_both f (Some m) None = None
of_both f None other = None

-- the product of two parts
abbrev pub multiplied : Option ℕ → Option ℕ → Option ℕ
multiplied = of_both (λ m n. part (m * n))

-- the quotient of two parts, cut off; a divisor 0 has none
abbrev pub divided : Option ℕ → Option ℕ → Option ℕ
divided = of_both (λ m n. if n == 0 then None else Some (m / n))

-- the sum of two parts
abbrev pub added : Option ℕ → Option ℕ → Option ℕ
added = of_both (λ m n. part (m + n))

-- the difference of two parts, which is not below 0
abbrev pub subtracted : Option ℕ → Option ℕ → Option ℕ
subtracted = of_both (λ m n. if nat_lt m n then None else Some (m - n))

-- a sum that is being read: the parts that are finished and what becomes of the product that is
-- read now
pub record Partial : Type 0 where
  pub total : Option ℕ
  pub subtracts : Bool
  pub product : Option ℕ
  pub divides : Bool

-- a sum of which nothing is read
abbrev pub nothing_read : Partial
nothing_read = record { total = Some 0; subtracts = false; product = Some 1; divides = false }

-- the product with one more factor or divisor
abbrev pub next_factor : Bool → Option ℕ → Option ℕ → Option ℕ
next_factor false product n = multiplied product n
next_factor true product n = divided product n

-- the sum with one more summand
abbrev pub next_summand : Bool → Option ℕ → Option ℕ → Option ℕ
next_summand false total n = added total n
next_summand true total n = subtracted total n

-- the sum with one more factor or divisor of its last product
abbrev pub with_operand : Option ℕ → Partial → Partial
with_operand n sum = record sum { product = next_factor sum.divides sum.product n }

-- the value of a sum
abbrev pub value_of : Partial → Option ℕ
value_of sum = next_summand sum.subtracts sum.total sum.product

-- before the next product, which is added or taken away
abbrev pub next_product : Bool → Partial → Partial
next_product subtracts sum = record {
  total = value_of sum;
  subtracts = subtracts;
  product = Some 1;
  divides = false;
}

-- an expression that is being read: the sums around the innermost open parenthesis, that
-- parenthesis's sum, and whether an operand comes next
pub record Reading : Type 0 where
  pub outer : List Partial
  pub sum : Partial
  pub wants_operand : Bool

-- behind an operand
abbrev pub operand_read : List Partial → Partial → Option Reading
operand_read outer sum = Some (record { outer = outer; sum = sum; wants_operand = false })

-- before an operand
abbrev pub operand_wanted : List Partial → Partial → Option Reading
operand_wanted outer sum = Some (record { outer = outer; sum = sum; wants_operand = true })

-- an operand, or the parenthesis that opens one
abbrev pub operand_step : Symbol → Reading → Option Reading
operand_step (symbols.Number n) r = operand_read r.outer (with_operand (part n) r.sum)
operand_step (symbols.Sign signs.OpenParenthesis) r = operand_wanted (r.sum ∷ r.outer) nothing_read
operand_step _ r = None

-- the parenthesis that closes a sum, which is an operand of the sum around it
abbrev pub closed_by : List Partial → Partial → Option Reading
closed_by [] sum = None
closed_by (around ∷ outer) sum = operand_read outer (with_operand (value_of sum) around)

abbrev pub closed : Reading → Option Reading
closed r = closed_by r.outer r.sum

-- an operator, or the parenthesis that closes a sum
abbrev pub operator_step : Symbol → Reading → Option Reading
operator_step (symbols.Sign signs.Star) r = operand_wanted r.outer (record r.sum {
  divides = false;
})
operator_step (symbols.Sign signs.Slash) r = operand_wanted r.outer (record r.sum {
  divides = true;
})
operator_step (symbols.Sign signs.Plus) r = operand_wanted r.outer (next_product false r.sum)
operator_step (symbols.Sign signs.Minus) r = operand_wanted r.outer (next_product true r.sum)
operator_step (symbols.Sign signs.CloseParenthesis) r = closed r
operator_step _ r = None

-- one symbol further
unfoldable pub step : Symbol → Reading → Option Reading
step symbol r = if r.wants_operand then operand_step symbol r else operator_step symbol r

-- none is open
abbrev pub is_empty : List Partial → Bool
is_empty [] = true
is_empty (around ∷ outer) = false

-- behind an operand this symbol belongs to the expression no more
abbrev pub ends_by : Bool → List Partial → Symbol → Bool
ends_by true outer symbol = false
ends_by false outer (symbols.Sign signs.Star) = false
ends_by false outer (symbols.Sign signs.Slash) = false
ends_by false outer (symbols.Sign signs.Plus) = false
ends_by false outer (symbols.Sign signs.Minus) = false
ends_by false outer (symbols.Sign signs.CloseParenthesis) = is_empty outer
ends_by false outer _ = true

-- this symbol belongs to the expression no more
unfoldable pub ends : Reading → Symbol → Bool
ends r symbol = ends_by r.wants_operand r.outer symbol

-- the value of an expression that ends before these tokens, where it may end
unfoldable pub value_before : List Token → Reading → Result (Option ℕ × List Token) Stop
value_before tokens r =
    if r.wants_operand || not (is_empty r.outer) then Err (unexpected tokens)
    else Ok (value_of r.sum, tokens)

-- the value of the expression that these tokens complete, and what follows it
unfoldable pub value_from : Reading → List Token → Result (Option ℕ × List Token) Stop
value_from r [] = value_before [] r
value_from r (token ∷ tokens) =
    if ends r token.symbol
    then value_before (token ∷ tokens) r
    else (ok_or (step token.symbol r) (unexpected (token ∷ tokens))
    >>= λ next. value_from next tokens)

-- the value of the expression at the front, if it has one, and what follows it
unfoldable pub sum_at : List Token → Result (Option ℕ × List Token) Stop
sum_at tokens =
    value_from (record { outer = []; sum = nothing_read; wants_operand = true }) tokens
