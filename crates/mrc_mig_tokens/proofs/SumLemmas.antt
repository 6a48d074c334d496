-- Reading an expression one symbol after the other.
use Rattle.std.proofs.Common.{◌≡◌, true, false, List, [], ◌∷◌, refl, length, ◌<◌, arith}
use Rattle.std.specs.Option.{ok_or}
use Rattle.mrc_base.specs.Reading.{◌>>=◌}
use Rattle.mrc_mig_tokens.specs.Tokens.{Token}
use Rattle.mrc_mig_tokens.specs.Reading.{no_tokens, first_of, tail_of, unexpected}
use Rattle.mrc_mig_tokens.specs.Sums.{Reading, ends, step, value_before, value_from}

-- the expression has ended here
pub value_at_end : (r : Reading) (tokens : List Token) → ends r (first_of tokens) ≡ true
    → value_from r tokens ≡ value_before tokens r
unfolding value_from first_of
value_at_end r [] e = refl
value_at_end r (token ∷ tokens) e = rw e refl

-- no token is left
pub value_at_last : (r : Reading) (tokens : List Token) → no_tokens tokens ≡ true
    → value_from r tokens ≡ value_before tokens r
unfolding value_from
value_at_last r [] e = refl
value_at_last r (token ∷ tokens) e = absurd cc

-- the expression goes on
pub value_goes_on : (r : Reading) (tokens : List Token) → no_tokens tokens ≡ false
    → ends r (first_of tokens) ≡ false
    → value_from r tokens ≡ (ok_or (step (first_of tokens) r) (unexpected tokens)
    >>= λ next. value_from next (tail_of tokens))
unfolding value_from first_of tail_of
value_goes_on r [] some e = absurd cc
value_goes_on r (token ∷ tokens) some e = rw e refl

-- fewer tokens are left behind one
pub tail_is_shorter : (tokens : List Token) → no_tokens tokens ≡ false
    → length (tail_of tokens) < length tokens
unfolding tail_of
tail_is_shorter [] some = absurd cc
tail_is_shorter (token ∷ tokens) some = omega arith
