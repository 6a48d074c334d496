-- What is left to read of tokens, by the number of the first.
use Rattle.std.proofs.Common.{◌≡◌, ℕ, zero, suc, ◌+◌, ◌≤◌, List, [], ◌∷◌, length, drop, refl, sym}
use Rattle.std.proofs.Common.{ap}
use Rattle.std.proofs.Common.{◌∙◌}
use Rattle.std.specs.Prelude.{slice_get}
use Rattle.std.specs.Option.{option_map_or}
use Rattle.std.proofs.Math.ListN.{drop_of_length-le}
use Rattle.std.proofs.lemmas.List.{drop-drop}
use Rattle.mrc_mig_tokens.specs.declared.symbol.Symbol.TheVariants.{End}
use Rattle.mrc_mig_tokens.specs.Tokens.{Token}
use Rattle.mrc_mig_tokens.specs.Reading.{first_of, text_of, tail_of}

-- what the first token that is left is
pub first_left : (tokens : List Token) (at : ℕ)
    → first_of (drop at tokens) ≡ option_map_or (λ (t : Token). t.symbol) (slice_get tokens at) End
unfolding first_of
first_left [] zero = refl
first_left [] (suc at) = refl
first_left (token ∷ tokens) zero = refl
first_left (token ∷ tokens) (suc at) = first_left tokens at

pub text_left : (tokens : List Token) (at : ℕ)
    → text_of (drop at tokens) ≡ option_map_or (λ (t : Token). t.bytes) (slice_get tokens at) []
unfolding text_of
text_left [] zero = refl
text_left [] (suc at) = refl
text_left (token ∷ tokens) zero = refl
text_left (token ∷ tokens) (suc at) = text_left tokens at

tail_is : (tokens : List Token) → tail_of tokens ≡ drop 1 tokens
unfolding tail_of
tail_is [] = refl
tail_is (token ∷ tokens) = refl

pub next_left : (tokens : List Token) (at : ℕ) → drop (at + 1) tokens ≡ tail_of (drop at tokens)
next_left tokens at = sym (tail_is (drop at tokens) ∙ drop-drop 1 at tokens)

-- none is left, and none behind it
pub end_left : (tokens : List Token) (at : ℕ) → length tokens ≤ at
    → drop at tokens ≡ tail_of (drop at tokens)
unfolding tail_of
end_left tokens at le =
    let none = drop_of_length-le tokens le in none ∙ ap (λ t. tail_of t) (sym none)
