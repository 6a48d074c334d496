-- The words in front of a subsystem's name, one after the other.
use Rattle.std.proofs.Common.{◌≡◌, ◌<◌, ◌||◌, Bool, true, false, List, [], ◌∷◌, length, refl, arith}
use Rattle.mrc_mig_tokens.specs.Reading.{first_of, text_of, tail_of}
use Rattle.mrc_mig_tokens.specs.Tokens.{Token}
use Rattle.mrc_mig_rows.specs.Headings.{is_side, is_server, sides_from}

-- one is passed
pub side_passed : (has_server : Bool) (tokens : List Token) → is_side (first_of tokens) ≡ true
    → sides_from has_server tokens
    ≡ sides_from (has_server || is_server (text_of tokens)) (tail_of tokens)
unfolding sides_from first_of text_of tail_of
side_passed has_server [] e = absurd cc
side_passed has_server (token ∷ tokens) e = rw e refl

-- none comes next
pub no_side : (has_server : Bool) (tokens : List Token) → is_side (first_of tokens) ≡ false
    → sides_from has_server tokens ≡ (has_server, tokens)
unfolding sides_from first_of
no_side has_server [] e = refl
no_side has_server (token ∷ tokens) e = rw e refl

-- fewer tokens are left behind one
pub side_is_shorter : (tokens : List Token) → is_side (first_of tokens) ≡ true
    → length (tail_of tokens) < length tokens
unfolding first_of tail_of
side_is_shorter [] e = absurd cc
side_is_shorter (token ∷ tokens) e = omega arith
