-- Reading an expression one symbol after the other.
use Rattle.std.proofs.Common.{◌≡◌, true, false, List, [], ◌∷◌, refl, length}
use Rattle.std.proofs.Common.{◌<◌, arith}
use Rattle.mrc_base.specs.Reading.{◌>>=◌}
use Rattle.mrc_mig_lex.specs.Tokens.{Lexeme}
use Rattle.mrc_mig_symbols.specs.Symbols.{no_tokens, first_of, tail_of}
use Rattle.mrc_mig_symbols.specs.Expressions.{ends}
use Rattle.mrc_mig_symbols.specs.ExpressionStops.{Reading, unplaced, placed_step, placed_before}
use Rattle.mrc_mig_symbols.specs.ExpressionStops.{placed_from}

-- the expression has ended here
pub value_at_end : (r : Reading) (tokens : List Lexeme)
    → ends (unplaced r) (first_of tokens) ≡ true
    → placed_from r tokens ≡ placed_before tokens r
unfolding placed_from first_of
value_at_end r [] e = refl
value_at_end r (token ∷ tokens) e = rw e refl

-- no token is left
pub value_at_last : (r : Reading) (tokens : List Lexeme) → no_tokens tokens ≡ true
    → placed_from r tokens ≡ placed_before tokens r
unfolding placed_from
value_at_last r [] e = refl
value_at_last r (token ∷ tokens) e = absurd cc

-- the expression goes on
pub value_goes_on : (r : Reading) (tokens : List Lexeme) → no_tokens tokens ≡ false
    → ends (unplaced r) (first_of tokens) ≡ false
    → placed_from r tokens
    ≡ (placed_step (first_of tokens) (length tokens) (length (tail_of tokens)) r
    >>= λ next. placed_from next (tail_of tokens))
unfolding placed_from first_of tail_of
value_goes_on r [] some e = absurd cc
value_goes_on r (token ∷ tokens) some e = rw e refl

-- fewer tokens are left behind one
pub tail_is_shorter : (tokens : List Lexeme) → no_tokens tokens ≡ false
    → length (tail_of tokens) < length tokens
unfolding tail_of
tail_is_shorter [] some = absurd cc
tail_is_shorter (token ∷ tokens) some = omega arith
