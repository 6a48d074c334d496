-- Reading an expression's symbols one after the other, without what follows them.
use Rattle.std.proofs.Common.{◌≡◌, ℕ, Bool, true, false, List, [], ◌∷◌, ◌++◌, map, Option, Some}
use Rattle.std.proofs.Common.{refl, sym, ap, ◌∙◌, if◌then◌else◌}
use Rattle.std.proofs.lemmas.Option.{same_Some, some_pair_parts, option_and_then_some}
use Rattle.mrc_mig_lex.specs.Tokens.{Lexeme}
use Rattle.mrc_mig_lex.specs.declared.token.Sign.TheVariants.{CloseParenthesis, Star, Plus, Minus}
use Rattle.mrc_mig_lex.specs.declared.token.Sign.TheVariants.{Slash}
use Rattle.mrc_mig_symbols.specs.declared.symbol.Symbol.{Symbol}
use Rattle.mrc_mig_symbols.specs.declared.symbol.Symbol.TheVariants.{Sign}
use Rattle.mrc_mig_symbols.specs.Symbols.{◌>>=◌, symbol_of, first_of}
use Rattle.mrc_mig_symbols.specs.Expressions.{Partial, Unfinished, value_of, step, step_by, ends}
use Rattle.mrc_mig_symbols.specs.Expressions.{ends_by, value_by, whole_value, value_before}
use Rattle.mrc_mig_symbols.specs.Expressions.{value_from}
use Rattle.mrc_mig_symbols.specs.ExpressionGrammar.{goes_on}

-- from this state over these symbols
abbrev pub run : Unfinished → List Symbol → Option Unfinished
run u [] = Some u
run u (s ∷ symbols) = step s u >>= λ v. run v symbols

-- a state that wants an operand
abbrev pub wanting : List Partial → Partial → Unfinished
wanting outer sum = record { outer = outer; sum = sum; wants_operand = true }

-- a state behind an operand
abbrev pub behind : List Partial → Partial → Unfinished
behind outer sum = record { outer = outer; sum = sum; wants_operand = false }

pub run_then : (a b : List Symbol) (u v w : Unfinished) → run u a ≡ Some v → run v b ≡ Some w
    → run u (a ++ b) ≡ Some w
run_then [] b u v w e f = ap (λ x. run x b) (same_Some u v e) ∙ f
run_then (s ∷ a) b u v w e f =
    option_and_then_some (λ x. run x a) (step s u) v e
    (λ x stepped ran. ap (λ o. o >>= λ y. run y (a ++ b)) stepped ∙ run_then a b x v w ran f)

-- where a step is made the expression does not end
step_goes : (wants : Bool) (outer : List Partial) (sum : Partial) (s : Symbol) (v : Unfinished)
    → step_by wants s outer sum ≡ Some v → ends_by wants outer s ≡ false
step_goes true outer sum s v e = refl
step_goes false outer sum (Sign Star) v e = refl
step_goes false outer sum (Sign Slash) v e = refl
step_goes false outer sum (Sign Plus) v e = refl
step_goes false outer sum (Sign Minus) v e = refl
step_goes false [] sum (Sign CloseParenthesis) v e = absurd cc
step_goes false (around ∷ outer) sum (Sign CloseParenthesis) v e = refl
step_goes false outer sum _ v e = absurd cc

step_ends_not : (s : Symbol) (u v : Unfinished) → step s u ≡ Some v → ends u s ≡ false
unfolding step ends
step_ends_not s u v e = step_goes u.wants_operand u.outer u.sum s v e

value_after : (token : Lexeme) (tokens : List Lexeme) (u v : Unfinished)
    → step (symbol_of token) u ≡ Some v → value_from u (token ∷ tokens) ≡ value_from v tokens
unfolding value_from
value_after token tokens u v e =
    ap (λ b. if b then value_before (token ∷ tokens) u
    else (step (symbol_of token) u >>= λ next. value_from next tokens))
    (step_ends_not (symbol_of token) u v e)
    ∙ ap (λ o. o >>= λ next. value_from next tokens) e

-- behind tokens over which a run leads it is read on from where the run leads
pub value_after_run : (written rest : List Lexeme) (u v : Unfinished)
    → run u (map symbol_of written) ≡ Some v → value_from u (written ++ rest) ≡ value_from v rest
value_after_run [] rest u v e = ap (λ x. value_from x rest) (same_Some u v e)
value_after_run (token ∷ written) rest u v e =
    option_and_then_some (λ x. run x (map symbol_of written)) (step (symbol_of token) u) v e
    (λ x stepped ran. value_after token (written ++ rest) u x stepped
    ∙ value_after_run written rest x v ran)

-- a state that has a value is behind an operand, in no parenthesis
pub value_parts : (wants : Bool) (outer : List Partial) (sum : Partial) (n : ℕ)
    → value_by wants outer sum ≡ Some n → (wants ≡ false) × (outer ≡ []) × (value_of sum ≡ Some n)
value_parts true outer sum n e = absurd cc
value_parts false [] sum n e = (refl, refl, e)
value_parts false (around ∷ outer) sum n e = absurd cc

-- there an expression ends exactly before what it does not by on with
ends_outside : (s : Symbol) → goes_on s ≡ false → ends_by false [] s ≡ true
ends_outside (Sign Star) e = absurd cc
ends_outside (Sign Slash) e = absurd cc
ends_outside (Sign Plus) e = absurd cc
ends_outside (Sign Minus) e = absurd cc
ends_outside (Sign CloseParenthesis) e = refl
ends_outside _ e = refl

stops_outside : (wants : Bool) (outer : List Partial) (s : Symbol) → ends_by wants outer s ≡ true
    → goes_on s ≡ false
stops_outside true outer s e = absurd cc
stops_outside false outer (Sign Star) e = absurd cc
stops_outside false outer (Sign Slash) e = absurd cc
stops_outside false outer (Sign Plus) e = absurd cc
stops_outside false outer (Sign Minus) e = absurd cc
stops_outside false outer (Sign CloseParenthesis) e = refl
stops_outside false outer _ e = refl

value_ends : (u : Unfinished) (n : ℕ) (s : Symbol) → whole_value u ≡ Some n → goes_on s ≡ false
    → ends u s ≡ true
unfolding whole_value ends
value_ends u n s e stops =
    let parts = value_parts u.wants_operand u.outer u.sum n e in
    ap (λ b. ends_by b u.outer s) parts.0 ∙ ap (λ o. ends_by false o s) parts.1
    ∙ ends_outside s stops

pub value_at_stop : (u : Unfinished) (n : ℕ) (rest : List Lexeme) → whole_value u ≡ Some n
    → goes_on (first_of rest) ≡ false → value_from u rest ≡ Some (n, rest)
unfolding value_from value_before first_of
value_at_stop u n [] e stops = ap (λ o. o >>= λ m. Some (m, [])) e
value_at_stop u n (token ∷ tokens) e stops =
    ap (λ b. if b then value_before (token ∷ tokens) u
    else (step (symbol_of token) u >>= λ next. value_from next tokens))
    (value_ends u n (symbol_of token) e stops)
    ∙ ap (λ o. o >>= λ m. Some (m, token ∷ tokens)) e

-- the tokens are those of a run to the expression's end, and the rest
pub record Parted (u : Unfinished) (tokens : List Lexeme) (n : ℕ) (rest : List Lexeme) : Type 0
  where
    pub written : List Lexeme
    pub last : Unfinished
    pub splits : tokens ≡ written ++ rest
    pub ran : run u (map symbol_of written) ≡ Some last
    pub whole : whole_value last ≡ Some n
    pub stops : goes_on (first_of rest) ≡ false

parted_here : (u : Unfinished) (tokens : List Lexeme) (n : ℕ) (rest : List Lexeme)
    → goes_on (first_of tokens) ≡ false → value_before tokens u ≡ Some (n, rest)
    → Parted u tokens n rest
unfolding value_before
parted_here u tokens n rest stops e =
    option_and_then_some (λ m. Some (m, tokens)) (whole_value u) (n, rest) e (λ m whole same.
    let parts = some_pair_parts m n tokens rest same in
    record {
      written = [];
      last = u;
      splits = parts.1;
      ran = refl;
      whole = whole ∙ ap (λ k. Some k) parts.0;
      stops = ap (λ t. goes_on (first_of t)) (sym parts.1) ∙ stops;
    })

pub parted : (tokens : List Lexeme) (u : Unfinished) (n : ℕ) (rest : List Lexeme)
    → value_from u tokens ≡ Some (n, rest) → Parted u tokens n rest
unfolding value_from first_of ends
parted [] u n rest e = parted_here u [] n rest refl e
parted (token ∷ tokens) u n rest e = by (λ v read. parted tokens v n rest read)
    (ends u (symbol_of token)) refl e
  where
    further : (v : Unfinished) → step (symbol_of token) u ≡ Some v → Parted v tokens n rest
        → Parted u (token ∷ tokens) n rest
    further v stepped p = record {
      written = token ∷ p.written;
      last = p.last;
      splits = ap (λ t. token ∷ t) p.splits;
      ran = ap (λ o. o >>= λ x. run x (map symbol_of p.written)) stepped ∙ p.ran;
      whole = p.whole;
      stops = p.stops;
    }

    by : ((v : Unfinished) → value_from v tokens ≡ Some (n, rest) → Parted v tokens n rest)
        → (b : Bool) → ends u (symbol_of token) ≡ b
        → (if b then value_before (token ∷ tokens) u
        else (step (symbol_of token) u >>= λ next. value_from next tokens)) ≡ Some (n, rest)
        → Parted u (token ∷ tokens) n rest
    by more true is f = parted_here u (token ∷ tokens) n rest
        (stops_outside u.wants_operand u.outer (symbol_of token) is) f
    by more false is f = option_and_then_some (λ x. value_from x tokens) (step (symbol_of token) u)
        (n, rest) f (λ v stepped read. further v stepped (more v read))
