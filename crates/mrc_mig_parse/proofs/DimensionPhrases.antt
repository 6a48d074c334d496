-- Expressions and the dimensions of arrays, structs and strings are read exactly where they stand.
use Rattle.std.proofs.Common.{◌≡◌, ℕ, Bool, true, false, not, List, [], ◌∷◌, ◌++◌, Option, Some}
use Rattle.std.proofs.Common.{refl, sym, ap, ◌∙◌, subst, append_assoc}
use Rattle.std.proofs.lemmas.Option.{some_pair_parts}
use Rattle.mrc_mig_lex.specs.Tokens.{Lexeme}
use Rattle.mrc_mig_lex.specs.declared.token.Sign.TheVariants.{Colon, OpenParenthesis, OpenBracket}
use Rattle.mrc_mig_lex.specs.declared.token.Sign.TheVariants.{CloseBracket, Star}
use Rattle.mrc_mig_symbols.specs.declared.symbol.Symbol.{Symbol}
use Rattle.mrc_mig_symbols.specs.declared.symbol.Symbol.TheVariants.{Number, Sign}
use Rattle.mrc_mig_symbols.specs.Symbols.{◌>>=◌, symbol_of, first_of, tail_of, after_sign}
use Rattle.mrc_mig_symbols.specs.Expressions.{Partial, Unfinished, nothing_read, operand_step, step}
use Rattle.mrc_mig_symbols.specs.Expressions.{ends, whole_value, value_before, value_from}
use Rattle.mrc_mig_symbols.specs.Expressions.{expression_at}
use Rattle.mrc_mig_symbols.specs.ExpressionGrammar.{goes_on}
use Rattle.mrc_mig_symbols.proofs.ExpressionLaw.{read_is_spelled, spelled_is_read}
use Rattle.mrc_mig_parse.specs.declared.types.Around.{Around}
use Rattle.mrc_mig_parse.specs.Types.{dimension_at, bound_by, variable_dimension_at}
use Rattle.mrc_mig_parse.specs.Grammar.{IsExpression, IsCount, count, inside, IsDimension, fixed}
use Rattle.mrc_mig_parse.specs.Grammar.{IsVariableDimension, not_variable, at_most}
use Rattle.mrc_mig_parse.proofs.ManyPhrases.{Leads}
use Rattle.mrc_mig_parse.proofs.PhraseLemmas.{in_two, goes_to, guarded_not, guarded, front}
use Rattle.mrc_mig_parse.proofs.PhraseLemmas.{first_is, sign_is, sign_read}

pub expression_is : (tokens : List Lexeme) (n : ℕ) (rest : List Lexeme)
    → expression_at tokens ≡ Some (n, rest) → Leads (λ w. IsExpression w n) tokens rest
expression_is tokens n rest e = let b = read_is_spelled tokens n rest e in
    (b.written, b.splits, record { spelled = b.spells })

pub expression_read : (written : List Lexeme) (n : ℕ) (rest : List Lexeme) → IsExpression written n
    → goes_on (first_of rest) ≡ false → expression_at (written ++ rest) ≡ Some (n, rest)
expression_read written n rest is stops = spelled_is_read (written ++ rest) n rest (record {
  written = written;
  splits = refl;
  spells = is.spelled;
  stops = stops;
})

-- an expression begins with a number or a parenthesis
abbrev pub begins_operand : Symbol → Bool
begins_operand (Number n) = true
begins_operand (Sign OpenParenthesis) = true
begins_operand _ = false

operand_first : {A : Type 0} (symbol : Symbol) (outer : List Partial) (sum : Partial)
    (f : Unfinished → Option A) (a : A) → (operand_step symbol outer sum >>= f) ≡ Some a
    → begins_operand symbol ≡ true
operand_first (Number n) outer sum f a e = refl
operand_first (Sign OpenParenthesis) outer sum f a e = refl
operand_first _ outer sum f a e = absurd cc

pub begins_expression : (tokens : List Lexeme) (read : ℕ × List Lexeme)
    → expression_at tokens ≡ Some read → begins_operand (first_of tokens) ≡ true
unfolding expression_at value_from value_before whole_value first_of ends step
begins_expression [] read e = absurd cc
begins_expression (token ∷ tokens) read e = operand_first (symbol_of token) [] nothing_read
    (λ u. value_from u tokens) read e

-- `n]` that is read stands there
count_is : (around : Around) (is_bound : Bool) (tokens : List Lexeme) (found : Around × List Lexeme)
    → dimension_at around is_bound tokens ≡ Some found
    → (number : ℕ) × (inside around number is_bound ≡ found.0)
    × Leads (λ w. IsCount around w number) tokens found.1
unfolding dimension_at
count_is around is_bound tokens found e =
    let (n, read, more) = in_two _ _ _ e in
    let (number, within, closing) = in_two _ _ _ more in
    let (behind, closed, last) = in_two _ _ _ closing in
    let x = expression_is tokens n.0 n.1 read in
    let c = sign_is CloseBracket n.1 behind closed in
    let (same, end) = some_pair_parts (inside around number is_bound) found.0 behind found.1
    last in
    let splits = x.1 ∙ ap (λ t. x.0 ++ t) (c.1 ∙ ap (λ t. c.0 ∷ t) end)
    ∙ sym (append_assoc x.0 (c.0 ∷ []) found.1) in
    (number, same, (x.0 ++ c.0 ∷ [], splits, count x.2 within c.2))

-- `[n]` that is read stands there
pub dimension_is : (around : Around) (tokens behind : List Lexeme) (inner : Around)
    (rest : List Lexeme) → after_sign OpenBracket tokens ≡ Some behind
    → dimension_at around false behind ≡ Some (inner, rest)
    → Leads (λ w. IsDimension around w inner) tokens rest
dimension_is around tokens behind inner rest opened e =
    let o = sign_is OpenBracket tokens behind opened in
    let (number, same, is) = count_is around false behind (inner, rest) e in (
      o.0 ∷ is.0,
      o.1 ∙ ap (λ t. o.0 ∷ t) is.1,
      subst (λ i. IsDimension around (o.0 ∷ is.0) i) same (fixed o.2 is.2),
    )

variable_is_by : (symbol : Symbol) (around : Around) (tokens behind : List Lexeme) (inner : Around)
    (rest : List Lexeme) → first_of behind ≡ symbol → after_sign OpenBracket tokens ≡ Some behind
    → bound_by symbol around behind ≡ Some (inner, rest)
    → Leads (λ w. IsVariableDimension around w inner) tokens rest
variable_is_by (Sign Star) around tokens behind inner rest first opened e =
    let (outside, more) = guarded_not around.is_inside _ _ e in
    let (before, coloned, last) = in_two _ _ _ more in
    let o = sign_is OpenBracket tokens behind opened in
    let star = front (Sign Star) behind refl first in
    let colon = sign_is Colon (tail_of behind) before coloned in
    let (number, same, is) = count_is around true before (inner, rest) last in
    let written : List Lexeme = o.0 ∷ star.token ∷ colon.0 ∷ is.0 in (
      written,
      cc (o.1, star.splits, colon.1, is.1),
      subst (λ i. IsVariableDimension around written i) same
          (at_most outside o.2 star.is colon.2 is.2),
    )
variable_is_by _ around tokens behind inner rest first opened e =
    let d = dimension_is around tokens behind inner rest opened e in
    (d.0, d.1, not_variable d.2)

-- `[n]` or `[*:n]` that is read stands there
pub variable_dimension_is : (around : Around) (tokens : List Lexeme) (inner : Around)
    (rest : List Lexeme) → variable_dimension_at around tokens ≡ Some (inner, rest)
    → Leads (λ w. IsVariableDimension around w inner) tokens rest
unfolding variable_dimension_at
variable_dimension_is around tokens inner rest e =
    let (behind, opened, last) = in_two _ _ _ e in
    variable_is_by (first_of behind) around tokens behind inner rest refl opened last

-- `n]` is read
count_read : (around : Around) (is_bound : Bool) (written : List Lexeme) (number : ℕ)
    (rest : List Lexeme) → IsCount around written number
    → dimension_at around is_bound (written ++ rest) ≡ Some (inside around number is_bound, rest)
unfolding dimension_at
count_read around is_bound _ number rest
    (count {expression = expression} {closes} {n} is within closing) =
    let stops : goes_on (first_of (closes ∷ rest)) ≡ false =
    ap (λ s. goes_on s) (first_is rest closing) in
    rw (
      append_assoc expression (closes ∷ []) rest,
      expression_read expression n (closes ∷ rest) is stops,
      within,
      sign_read rest closing,
    ) refl

-- `[n]` is read: the bracket, and then what stands behind it
pub dimension_read : (around : Around) (written : List Lexeme) (inner : Around) (rest : List Lexeme)
    → IsDimension around written inner
    → (behind : List Lexeme) × (after_sign OpenBracket (written ++ rest) ≡ Some behind)
    × (dimension_at around false behind ≡ Some (inner, rest))
dimension_read around _ _ rest (fixed {counting = counting} {number} opening is) = (
  counting ++ rest,
  sign_read (counting ++ rest) opening,
  count_read around false counting number rest is,
)

-- what begins with an operand is no `*:n`
no_star : (symbol : Symbol) (around : Around) (tokens : List Lexeme) → begins_operand symbol ≡ true
    → bound_by symbol around tokens ≡ dimension_at around false tokens
no_star (Sign Star) around tokens e = absurd cc
no_star _ around tokens e = refl

begins_dimension : (around : Around) (tokens : List Lexeme) (read : Around × List Lexeme)
    → dimension_at around false tokens ≡ Some read → begins_operand (first_of tokens) ≡ true
unfolding dimension_at
begins_dimension around tokens read e = let (n, first, more) = in_two _ _ _ e in
    begins_expression tokens n first

pub variable_dimension_read : (around : Around) (written : List Lexeme) (inner : Around)
    (rest : List Lexeme) → IsVariableDimension around written inner
    → variable_dimension_at around (written ++ rest) ≡ Some (inner, rest)
unfolding variable_dimension_at first_of tail_of
variable_dimension_read around _ _ rest (not_variable {inner = inner} {dimension = dimension} is) =
    let (behind, opened, read) = dimension_read around dimension inner rest is in
    rw opened (no_star (first_of behind) around behind
    (begins_dimension around behind (inner, rest) read) ∙ read)
variable_dimension_read around _ _ rest
    (at_most {star = star} {colon} {counting} {number} outside opening starring coloning is) =
    rw (sign_read (star ∷ colon ∷ (counting ++ rest)) opening, starring.seen)
    (guarded (after_sign Colon (colon ∷ (counting ++ rest))
    >>= λ t. dimension_at around true t) (ap (λ b. not b) outside)
    ∙ goes_to (λ t. dimension_at around true t) (sign_read (counting ++ rest) coloning)
    ∙ count_read around true counting number rest is)
