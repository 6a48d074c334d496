-- Whether the flag `countinout` is among so many tokens, from the front.
use Rattle.std.proofs.Common.{◌≡◌, ℕ, zero, suc, ◌+◌, ◌-◌, ◌<◌, ◌≤◌, true, false, List, [], ◌∷◌}
use Rattle.std.proofs.Common.{take, refl, arith}
use Rattle.mrc_mig_tokens.specs.Tokens.{Token}
use Rattle.mrc_mig_tokens.specs.Reading.{first_of, text_of, tail_of}
use Rattle.mrc_mig_arguments.specs.Words.{counts_by, asks_count}

-- the flag comes first
is_first : (n : ℕ) (tokens : List Token) → counts_by (first_of tokens) (text_of tokens) ≡ true
    → asks_count (take (suc n) tokens) ≡ true
unfolding first_of text_of
is_first n [] e = absurd cc
is_first n (token ∷ tokens) e = rw e refl

-- it does not
is_later : (n : ℕ) (tokens : List Token) → counts_by (first_of tokens) (text_of tokens) ≡ false
    → asks_count (take (suc n) tokens) ≡ asks_count (take n (tail_of tokens))
unfolding first_of text_of tail_of
is_later zero [] e = refl
is_later (suc n) [] e = refl
is_later n (token ∷ tokens) e = rw e refl

pub count_found : (count i : ℕ) (tokens : List Token) → i < count
    → counts_by (first_of tokens) (text_of tokens) ≡ true
    → asks_count (take (count - i) tokens) ≡ true
count_found count i tokens lt e = let k : count - i ≡ suc (count - (i + 1)) = omega arith in
    rw k (is_first (count - (i + 1)) tokens e)

pub count_passed : (count i : ℕ) (tokens : List Token) → i < count
    → counts_by (first_of tokens) (text_of tokens) ≡ false
    → asks_count (take (count - i) tokens) ≡ asks_count (take (count - (i + 1)) (tail_of tokens))
count_passed count i tokens lt e = let k : count - i ≡ suc (count - (i + 1)) = omega arith in
    rw k (is_later (count - (i + 1)) tokens e)

pub count_done : (count i : ℕ) (tokens : List Token) → count ≤ i
    → asks_count (take (count - i) tokens) ≡ false
count_done count i tokens le = let k : count - i ≡ 0 = omega arith in rw k refl
