-- Reading an expression's symbols one after the other, without what follows them.
use Rattle.std.proofs.Common.{◌≡◌, ℕ, Bool, true, false, List, [], ◌∷◌, ◌++◌, map, Option, Some}
use Rattle.std.proofs.Common.{None, Result, Ok, Err, refl, sym, ap, ◌∙◌, ◌||◌, not}
use Rattle.std.proofs.Common.{if◌then◌else◌}
use Rattle.std.specs.Prelude.{option_and_then}
use Rattle.std.specs.Option.{ok_or}
use Rattle.std.proofs.lemmas.Option.{same_Some, option_and_then_some}
use Rattle.mrc_base.specs.Reading.{◌>>=◌}
use Rattle.mrc_base.proofs.Steps.{ok_is}
use Rattle.mrc_mig_lex.specs.declared.token.Sign.TheVariants.{CloseParenthesis, Star, Plus, Minus}
use Rattle.mrc_mig_lex.specs.declared.token.Sign.TheVariants.{Slash}
use Rattle.mrc_mig_symbols.specs.declared.fault.Stop.{Stop}
use Rattle.mrc_mig_tokens.specs.declared.symbol.Symbol.{Symbol}
use Rattle.mrc_mig_tokens.specs.declared.symbol.Symbol.TheVariants.{Sign}
use Rattle.mrc_mig_tokens.specs.Tokens.{Token}
use Rattle.mrc_mig_tokens.specs.Reading.{first_of, unexpected}
use Rattle.mrc_mig_tokens.specs.Sums.{Partial, Reading, value_of, operand_step, closed_by}
use Rattle.mrc_mig_tokens.specs.Sums.{operator_step, step, is_empty, ends_by, ends, value_before}
use Rattle.mrc_mig_tokens.specs.Sums.{value_from}
use Rattle.mrc_mig_tokens.specs.SumGrammar.{goes_on, symbol_of}

-- from this state over these symbols
abbrev pub run : Reading → List Symbol → Option Reading
run r [] = Some r
run r (s ∷ symbols) = option_and_then (λ v. run v symbols) (step s r)

-- a state that wants an operand
abbrev pub wanting : List Partial → Partial → Reading
wanting outer sum = record { outer = outer; sum = sum; wants_operand = true }

-- a state behind an operand
abbrev pub behind : List Partial → Partial → Reading
behind outer sum = record { outer = outer; sum = sum; wants_operand = false }

pub run_then : (a b : List Symbol) (u v w : Reading) → run u a ≡ Some v → run v b ≡ Some w
    → run u (a ++ b) ≡ Some w
run_then [] b u v w e f = ap (λ x. run x b) (same_Some u v e) ∙ f
run_then (s ∷ a) b u v w e f =
    option_and_then_some (λ x. run x a) (step s u) v e
    (λ x stepped ran. ap (λ o. option_and_then (λ y. run y (a ++ b)) o) stepped
    ∙ run_then a b x v w ran f)

-- where a step is made the expression does not end
close_goes : (outer : List Partial) (sum : Partial) (v : Reading) → closed_by outer sum ≡ Some v
    → ends_by false outer (Sign CloseParenthesis) ≡ false
close_goes [] sum v e = absurd cc
close_goes (around ∷ outer) sum v e = refl

step_goes : (s : Symbol) (r v : Reading) → operator_step s r ≡ Some v
    → ends_by false r.outer s ≡ false
step_goes (Sign Star) r v e = refl
step_goes (Sign Slash) r v e = refl
step_goes (Sign Plus) r v e = refl
step_goes (Sign Minus) r v e = refl
step_goes (Sign CloseParenthesis) r v e = close_goes r.outer r.sum v e
step_goes _ r v e = absurd cc

step_ends_not : (s : Symbol) (r v : Reading) → step s r ≡ Some v → ends r s ≡ false
unfolding step ends
step_ends_not s r v e = by r.wants_operand e
  where
    by : (b : Bool) → (if b then operand_step s r else operator_step s r) ≡ Some v
        → ends_by b r.outer s ≡ false
    by true e = refl
    by false e = step_goes s r v e

value_after : (token : Token) (tokens : List Token) (r v : Reading)
    → step token.symbol r ≡ Some v → value_from r (token ∷ tokens) ≡ value_from v tokens
unfolding value_from
value_after token tokens r v e = rw (step_ends_not token.symbol r v e, e) refl

-- behind tokens over which a run leads it is read on from where the run leads
pub value_after_run : (written rest : List Token) (u v : Reading)
    → run u (map symbol_of written) ≡ Some v → value_from u (written ++ rest) ≡ value_from v rest
value_after_run [] rest u v e = ap (λ x. value_from x rest) (same_Some u v e)
value_after_run (token ∷ written) rest u v e =
    option_and_then_some (λ x. run x (map symbol_of written)) (step token.symbol u) v e
    (λ x stepped ran. value_after token (written ++ rest) u x stepped
    ∙ value_after_run written rest x v ran)

-- a state that has a value is behind an operand, in no parenthesis
pub record Whole (r : Reading) (n : Option ℕ) : Type 0 where
  pub wants : r.wants_operand ≡ false
  pub alone : r.outer ≡ []
  pub value : value_of r.sum ≡ n

-- there an expression ends if and only if what comes next does not go on with it
ends_outside : (s : Symbol) → goes_on s ≡ false → ends_by false [] s ≡ true
ends_outside (Sign Star) e = absurd cc
ends_outside (Sign Slash) e = absurd cc
ends_outside (Sign Plus) e = absurd cc
ends_outside (Sign Minus) e = absurd cc
ends_outside (Sign CloseParenthesis) e = refl
ends_outside _ e = refl

stops_outside : (wants : Bool) (outer : List Partial) (s : Symbol) → ends_by wants outer s ≡ true
    → goes_on s ≡ false
stops_outside true outer s e = absurd cc
stops_outside false outer (Sign Star) e = absurd cc
stops_outside false outer (Sign Slash) e = absurd cc
stops_outside false outer (Sign Plus) e = absurd cc
stops_outside false outer (Sign Minus) e = absurd cc
stops_outside false outer (Sign CloseParenthesis) e = refl
stops_outside false outer _ e = refl

whole_ends : (r : Reading) (n : Option ℕ) (s : Symbol) → Whole r n → goes_on s ≡ false
    → ends r s ≡ true
unfolding ends
whole_ends r n s w stops =
    ap (λ b. ends_by b r.outer s) w.wants ∙ ap (λ o. ends_by false o s) w.alone
    ∙ ends_outside s stops

whole_before : (r : Reading) (n : Option ℕ) (tokens : List Token) → Whole r n
    → value_before tokens r ≡ Ok (n, tokens)
unfolding value_before
whole_before r n tokens w = rw (w.wants, w.alone, w.value) refl

pub value_at_stop : (r : Reading) (n : Option ℕ) (rest : List Token) → Whole r n
    → goes_on (first_of rest) ≡ false → value_from r rest ≡ Ok (n, rest)
unfolding value_from first_of
value_at_stop r n [] w stops = whole_before r n [] w
value_at_stop r n (token ∷ tokens) w stops =
    rw (whole_ends r n token.symbol w stops) (whole_before r n (token ∷ tokens) w)

-- the tokens are those of a run to the expression's end, and the rest
pub record Parted (r : Reading) (tokens : List Token) (n : Option ℕ) (rest : List Token) : Type 0
  where
    pub written : List Token
    pub last : Reading
    pub splits : tokens ≡ written ++ rest
    pub ran : run r (map symbol_of written) ≡ Some last
    pub whole : Whole last n
    pub stops : goes_on (first_of rest) ≡ false

-- a value and what follows it
abbrev Read : Type 0
Read = Option ℕ × List Token

abbrev read_by : Bool → Partial → List Token → Result Read Stop
read_by stops sum tokens = if stops then Err (unexpected tokens) else Ok (value_of sum, tokens)

value_parts : (wants : Bool) (outer : List Partial) (sum : Partial) (tokens : List Token)
    (n : Option ℕ) (rest : List Token)
    → read_by (wants || not (is_empty outer)) sum tokens ≡ Ok (n, rest)
    → (wants ≡ false) × (outer ≡ []) × (value_of sum ≡ n) × (tokens ≡ rest)
value_parts true outer sum tokens n rest e = absurd cc
value_parts false (around ∷ outer) sum tokens n rest e = absurd cc
value_parts false [] sum tokens n rest e =
    let same = ok_is {F = Stop} (value_of sum, tokens) (n, rest) e in
    (refl, refl, ap (λ (x : Read). x.0) same, ap (λ (x : Read). x.1) same)

parted_here : (r : Reading) (tokens : List Token) (n : Option ℕ) (rest : List Token)
    → goes_on (first_of tokens) ≡ false → value_before tokens r ≡ Ok (n, rest)
    → Parted r tokens n rest
unfolding value_before
parted_here r tokens n rest stops e =
    let p = value_parts r.wants_operand r.outer r.sum tokens n rest e in
    record {
      written = [];
      last = r;
      splits = p.3;
      ran = refl;
      whole = record { wants = p.0; alone = p.1; value = p.2 };
      stops = ap (λ t. goes_on (first_of t)) (sym p.3) ∙ stops;
    }

pub parted : (tokens : List Token) (r : Reading) (n : Option ℕ) (rest : List Token)
    → value_from r tokens ≡ Ok (n, rest) → Parted r tokens n rest
unfolding value_from first_of ends
parted [] r n rest e = parted_here r [] n rest refl e
parted (token ∷ tokens) r n rest e = by (λ v read. parted tokens v n rest read)
    (ends r token.symbol) refl e
  where
    further : (v : Reading) → step token.symbol r ≡ Some v → Parted v tokens n rest
        → Parted r (token ∷ tokens) n rest
    further v stepped p = record {
      written = token ∷ p.written;
      last = p.last;
      splits = ap (λ t. token ∷ t) p.splits;
      ran = ap (λ o. option_and_then (λ x. run x (map symbol_of p.written)) o) stepped ∙ p.ran;
      whole = p.whole;
      stops = p.stops;
    }

    on : ((v : Reading) → value_from v tokens ≡ Ok (n, rest) → Parted v tokens n rest)
        → (o : Option Reading) → step token.symbol r ≡ o
        → (ok_or o (unexpected (token ∷ tokens)) >>= λ next. value_from next tokens)
        ≡ Ok (n, rest) → Parted r (token ∷ tokens) n rest
    on more None stepped f = absurd cc
    on more (Some v) stepped f = further v stepped (more v f)

    by : ((v : Reading) → value_from v tokens ≡ Ok (n, rest) → Parted v tokens n rest)
        → (b : Bool) → ends r token.symbol ≡ b
        → (if b then value_before (token ∷ tokens) r
        else (ok_or (step token.symbol r) (unexpected (token ∷ tokens))
        >>= λ next. value_from next tokens)) ≡ Ok (n, rest)
        → Parted r (token ∷ tokens) n rest
    by more true is f = parted_here r (token ∷ tokens) n rest
        (stops_outside r.wants_operand r.outer token.symbol is) f
    by more false is f = on more (step token.symbol r) refl f
