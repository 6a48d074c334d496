-- An expression that is read with the places of its parts is read as without them.
use Rattle.std.proofs.Common.{◌≡◌, ℕ, Bool, true, false, List, [], ◌∷◌, map, length, Option, Some}
use Rattle.std.proofs.Common.{None, Ok, Err, refl, sym, ap, ◌∙◌, if◌then◌else◌, Result, subst}
use Rattle.std.specs.Option.{option_and_then, ok_or}
use Rattle.std.specs.Result.{result_ok}
use Rattle.mrc_base.specs.Reading.{◌>>=◌, Gives}
use Rattle.mrc_base.specs.declared.memory.OrMemory.{OrMemory}
use Rattle.mrc_base.specs.declared.memory.OrMemory.TheVariants.{Fault, Memory}
use Rattle.mrc_mig_lex.specs.Tokens.{Lexeme}
use Rattle.mrc_mig_lex.specs.declared.token.Sign.TheVariants.{OpenParenthesis, CloseParenthesis}
use Rattle.mrc_mig_lex.specs.declared.token.Sign.TheVariants.{Star, Plus, Minus, Slash}
use Rattle.mrc_mig_symbols.specs.declared.fault.Stop.{Stop}
use Rattle.mrc_mig_symbols.specs.declared.symbol.Symbol.{Symbol}
use Rattle.mrc_mig_symbols.specs.declared.symbol.Symbol.TheVariants.{Number, Sign}
use Rattle.mrc_mig_symbols.specs.Symbols.{symbol_of, MeansOrMemory, StopsAtOrMemory, unexpected_at}
use Rattle.mrc_mig_symbols.specs.Expressions.{Partial, Unfinished, with_operand, value_of}
use Rattle.mrc_mig_symbols.specs.Expressions.{next_product, operand_read, operand_wanted, step_by}
use Rattle.mrc_mig_symbols.specs.Expressions.{step, ends, value_by, whole_value, value_before}
use Rattle.mrc_mig_symbols.specs.Expressions.{value_from, expression_at}
use Rattle.mrc_mig_symbols.specs.ExpressionStops.{Placed, Reading, unplaced, placed_with}
use Rattle.mrc_mig_symbols.specs.ExpressionStops.{placed_value, placed_product, placed_read}
use Rattle.mrc_mig_symbols.specs.ExpressionStops.{placed_wanted, placed_by, placed_step}
use Rattle.mrc_mig_symbols.specs.ExpressionStops.{outermost, placed_value_by, placed_before}
use Rattle.mrc_mig_symbols.specs.ExpressionStops.{placed_from, read_expression, stop_in}

-- the sums without their places
abbrev sums : List Placed → List Partial
sums outer = map (λ (p : Placed). p.sum) outer

-- the state that a reading gives, without places
abbrev state : Result Reading Stop → Option Unfinished
state (Ok r) = Some (unplaced r)
state (Err stop) = None

-- what two steps behind a value give, by what they give of each
by_value : {X Y Z W : Type 0} (value : Option X) (stop : Stop) (first : X → Result Y Stop)
    (second : Y → Result Z Stop) (seen : Result Z Stop → Option W) (read : X → Option W)
    → seen (Err stop) ≡ None → ((x : X) → seen (first x >>= second) ≡ read x)
    → seen ((ok_or value stop >>= first) >>= second) ≡ option_and_then read value
by_value None stop first second seen read none each = none
by_value (Some x) stop first second seen read none each = each x

operand_made : (outer : List Placed) (n at : ℕ) (p : Placed)
    → state (placed_with n at p >>= λ q. placed_read outer q)
    ≡ option_and_then (λ sum. operand_read (sums outer) sum) (with_operand n p.sum)
unfolding placed_with
operand_made outer n at p = by_value (with_operand n p.sum) _ _ _ state _ refl (λ sum. refl)

product_made : (outer : List Placed) (subtracts : Bool) (at : ℕ) (p : Placed)
    → state (placed_product subtracts at p >>= λ q. placed_wanted outer q)
    ≡ option_and_then (λ sum. operand_wanted (sums outer) sum) (next_product subtracts p.sum)
unfolding placed_product placed_value next_product
product_made outer subtracts at p = by (value_of p.sum)
  where
    by : (value : Option ℕ) → state
        ((ok_or value (unexpected_at p.from) >>= λ total. Ok (record {
          sum = record { total = total; subtracts = subtracts; product = 1; divides = false };
          operand = p.operand;
          from = p.from;
          product = at;
        })) >>= λ q. placed_wanted outer q)
        ≡ option_and_then (λ sum. operand_wanted (sums outer) sum)
        (option_and_then (λ total. Some (record {
          total = total;
          subtracts = subtracts;
          product = 1;
          divides = false;
        })) value)
    by None = refl
    by (Some n) = refl

closed_made : (outer : List Placed) (around p : Placed)
    → state (placed_value p >>= λ n. placed_with n p.operand around >>= λ q. placed_read outer q)
    ≡ option_and_then (λ n. option_and_then (λ sum. operand_read (sums outer) sum)
    (with_operand n around.sum)) (value_of p.sum)
unfolding placed_value
closed_made outer around p = by (value_of p.sum)
  where
    by : (value : Option ℕ) → state
        (ok_or value (unexpected_at p.from) >>= λ n. placed_with n p.operand around >>= λ q. placed_read outer q)
        ≡ option_and_then (λ n. option_and_then (λ sum. operand_read (sums outer) sum)
        (with_operand n around.sum)) value
    by None = refl
    by (Some n) = operand_made outer n p.operand around

step_made : (wants : Bool) (symbol : Symbol) (at next : ℕ) (outer : List Placed) (p : Placed)
    → state (placed_by wants symbol at next outer p) ≡ step_by wants symbol (sums outer) p.sum
step_made true (Number n) at next outer p = operand_made outer n at p
step_made true (Sign OpenParenthesis) at next outer p = refl
step_made true _ at next outer p = refl
step_made false (Sign Star) at next outer p = refl
step_made false (Sign Slash) at next outer p = refl
step_made false (Sign Plus) at next outer p = product_made outer false next p
step_made false (Sign Minus) at next outer p = product_made outer true next p
step_made false (Sign CloseParenthesis) at next [] p = refl
step_made false (Sign CloseParenthesis) at next (around ∷ outer) p = closed_made outer around p
step_made false _ at next outer p = refl

value_made : (wants : Bool) (tokens : List Lexeme) (at : ℕ) (outer : List Placed) (p : Placed)
    → result_ok {T = ℕ × List Lexeme} (placed_value_by wants at outer p >>= λ n. Ok (n, tokens))
    ≡ option_and_then (λ n. Some (n, tokens)) (value_by wants (sums outer) p.sum)
unfolding placed_value
value_made true tokens at outer p = refl
value_made false tokens at [] p = by_value (value_of p.sum) _ _ _ result_ok _ refl (λ n. refl)
value_made false tokens at (around ∷ outer) p = by_none (value_of p.sum)
  where
    by_none : (value : Option ℕ) → result_ok {T = ℕ × List Lexeme}
        ((ok_or value (unexpected_at p.from) >>= λ n. outermost (around ∷ outer) at n)
        >>= λ n. Ok (n, tokens))
        ≡ None
    by_none None = refl
    by_none (Some n) = refl

before_made : (tokens : List Lexeme) (r : Reading)
    → result_ok (placed_before tokens r) ≡ value_before tokens (unplaced r)
unfolding placed_before value_before whole_value
before_made tokens r = value_made r.wants_operand tokens (length tokens) r.outer r.sum

step_is_made : (symbol : Symbol) (at next : ℕ) (r : Reading)
    → state (placed_step symbol at next r) ≡ step symbol (unplaced r)
unfolding placed_step step
step_is_made symbol at next r = step_made r.wants_operand symbol at next r.outer r.sum

further : (tokens : List Lexeme)
    → ((r : Reading) → result_ok (placed_from r tokens) ≡ value_from (unplaced r) tokens)
    → (next : Result Reading Stop)
    → result_ok (next >>= λ r. placed_from r tokens)
    ≡ option_and_then (λ u. value_from u tokens) (state next)
further tokens same (Ok r) = same r
further tokens same (Err stop) = refl

from_made : (tokens : List Lexeme) (r : Reading)
    → result_ok (placed_from r tokens) ≡ value_from (unplaced r) tokens
unfolding placed_from value_from
from_made [] r = before_made [] r
from_made (token ∷ tokens) r = by (ends (unplaced r) (symbol_of token)) (from_made tokens)
  where
    by : (b : Bool)
        → ((r : Reading) → result_ok (placed_from r tokens) ≡ value_from (unplaced r) tokens)
        → result_ok (if b then placed_before (token ∷ tokens) r
        else (placed_step (symbol_of token) (length (token ∷ tokens)) (length tokens) r
        >>= λ next. placed_from next tokens))
        ≡ (if b then value_before (token ∷ tokens) (unplaced r)
        else option_and_then (λ u. value_from u tokens)
        (step (symbol_of token) (unplaced r)))
    by true same = before_made (token ∷ tokens) r
    by false same =
        further tokens same
        (placed_step (symbol_of token) (length (token ∷ tokens)) (length tokens) r)
        ∙ ap (λ u. option_and_then (λ u. value_from u tokens) u)
        (step_is_made (symbol_of token) (length (token ∷ tokens)) (length tokens) r)

read_made : (tokens : List Lexeme) → result_ok (read_expression tokens) ≡ expression_at tokens
unfolding read_expression expression_at
read_made tokens = from_made tokens _

-- what is answered is the value that is read, or where reading stops
exact_by : {X Y : Type 0} (view : X → Y) (answer : Result X (OrMemory Stop)) (given : Result Y Stop)
    → Gives view answer given → MeansOrMemory view answer (result_ok given)
exact_by view (Ok x) given e = ap result_ok e
exact_by view (Err (Fault stop)) given e = ap result_ok e
exact_by view (Err Memory) given e = tt

pub exact_from : {X : Type 0} (view : X → ℕ × List Lexeme) (answer : Result X (OrMemory Stop))
    (tokens : List Lexeme) → Gives view answer (read_expression tokens)
    → MeansOrMemory view answer (expression_at tokens)
exact_from view answer tokens gives =
    subst (λ read. MeansOrMemory view answer read) (read_made tokens)
    (exact_by view answer (read_expression tokens) gives)

pub stop_from : {X Y : Type 0} (view : X → Y) (answer : Result X (OrMemory Stop))
    (given : Result Y Stop) → Gives view answer given → StopsAtOrMemory answer (stop_in given)
stop_from view (Ok x) given e = tt
stop_from view (Err (Fault stop)) given e = ap stop_in (sym e)
stop_from view (Err Memory) given e = tt
