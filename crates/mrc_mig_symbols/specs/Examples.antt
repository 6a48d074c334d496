-- Worked. Expressions. Worked examples of whole-number expressions.
use Rattle.std.specs.Prelude.{◌≡◌, ℕ, [], ◌∷◌, Some, None, refl}
use Rattle.mrc_mig_lex.specs.Tokens.{Lexeme}
use Rattle.mrc_mig_lex.specs.declared.token.Sign.{Sign}
use Rattle.mrc_mig_lex.specs.declared.token.Sign.TheVariants.{OpenParenthesis, CloseParenthesis}
use Rattle.mrc_mig_lex.specs.declared.token.Sign.TheVariants.{CloseBracket, Star, Plus, Minus}
use Rattle.mrc_mig_lex.specs.declared.token.Sign.TheVariants.{Slash}
use Rattle.mrc_mig_lex.specs.declared.token.TokenKind.TheVariants as kinds
use Rattle.mrc_mig_symbols.specs.Symbols.{symbol_of, unexpected_at}
use Rattle.mrc_mig_symbols.specs.Expressions.{with_operand, value_of, next_product, step, ends}
use Rattle.mrc_mig_symbols.specs.ExpressionStops.{placed_with, placed_value, placed_product}
use Rattle.mrc_mig_symbols.specs.ExpressionStops.{placed_step, placed_before, placed_from}
use Rattle.mrc_mig_symbols.specs.ExpressionStops.{read_expression, expression_stop}
use Rattle.mrc_mig_symbols.specs.Expressions.{whole_value, value_before, value_from, expression_at}

-- a number, wherever it stands
abbrev number : ℕ → Lexeme
number n = record { kind = kinds.Number n; at = 0; bytes = [] }

-- a sign, wherever it stands
abbrev sign : Sign → Lexeme
sign s = record { kind = kinds.Sign s; at = 0; bytes = [] }

-- `2*(3+1)]` is 8, before the bracket
pub product_of_a_sum : expression_at
    (number 2 ∷ sign Star ∷ sign OpenParenthesis ∷ number 3 ∷ sign Plus ∷ number 1 ∷ sign
    CloseParenthesis ∷ sign CloseBracket ∷ []) ≡ Some (8, sign CloseBracket ∷ [])
unfolding with_operand value_of next_product step ends whole_value value_before value_from
    expression_at symbol_of
product_of_a_sum = refl

-- `7/2]` is 3
pub quotient : expression_at (number 7 ∷ sign Slash ∷ number 2 ∷ sign CloseBracket ∷ [])
    ≡ Some (3, sign CloseBracket ∷ [])
unfolding with_operand value_of next_product step ends whole_value value_before value_from
    expression_at symbol_of
quotient = refl

-- `1+2*3]` is 7
pub product_first : expression_at
    (number 1 ∷ sign Plus ∷ number 2 ∷ sign Star ∷ number 3 ∷ sign CloseBracket ∷ [])
    ≡ Some (7, sign CloseBracket ∷ [])
unfolding with_operand value_of next_product step ends whole_value value_before value_from
    expression_at symbol_of
product_first = refl

-- `2*(3-4)]` stops at the part below 0, `7/0]` at the divisor, `2 *]` at the bracket
pub stops_at_the_part : expression_stop
    (number 2 ∷ sign Star ∷ sign OpenParenthesis ∷ number 3 ∷ sign Minus ∷ number 4 ∷ sign
    CloseParenthesis ∷ sign CloseBracket ∷ []) ≡ unexpected_at 5
unfolding with_operand value_of next_product step ends symbol_of placed_with placed_value
    placed_product placed_step placed_before placed_from read_expression expression_stop
stops_at_the_part = refl

pub stops_at_the_divisor : expression_stop
    (number 7 ∷ sign Slash ∷ number 0 ∷ sign CloseBracket ∷ []) ≡ unexpected_at 2
unfolding with_operand value_of next_product step ends symbol_of placed_with placed_value
    placed_product placed_step placed_before placed_from read_expression expression_stop
stops_at_the_divisor = refl

pub stops_at_the_bracket : expression_stop
    (number 2 ∷ sign Star ∷ sign CloseBracket ∷ []) ≡ unexpected_at 1
unfolding with_operand value_of next_product step ends symbol_of placed_with placed_value
    placed_product placed_step placed_before placed_from read_expression expression_stop
stops_at_the_bracket = refl

-- `1-2+5]` has a part below 0
pub part_below_zero : expression_at
    (number 1 ∷ sign Minus ∷ number 2 ∷ sign Plus ∷ number 5 ∷ sign CloseBracket ∷ []) ≡ None
unfolding with_operand value_of next_product step ends whole_value value_before value_from
    expression_at symbol_of
part_below_zero = refl

-- `7-2-1]` is 4
pub left_first : expression_at
    (number 7 ∷ sign Minus ∷ number 2 ∷ sign Minus ∷ number 1 ∷ sign CloseBracket ∷ [])
    ≡ Some (4, sign CloseBracket ∷ [])
unfolding with_operand value_of next_product step ends whole_value value_before value_from
    expression_at symbol_of
left_first = refl
