-- What is left to read of tokens, by the number of the first.
use Rattle.std.proofs.Common.{◌≡◌, ℕ, zero, suc, ◌+◌, ◌≤◌, List, [], ◌∷◌, length, drop, Option}
use Rattle.std.proofs.Common.{option_map, refl, sym, ap, ◌∙◌}
use Rattle.std.specs.Prelude.{slice_get}
use Rattle.std.specs.Option.{option_map_or}
use Rattle.std.proofs.Math.ListN.{drop_of_length-le}
use Rattle.std.proofs.lemmas.List.{drop-drop}
use Rattle.mrc_mig_lex.specs.Tokens.{Lexeme}
use Rattle.mrc_mig_symbols.specs.declared.symbol.Symbol.TheVariants as symbols
use Rattle.mrc_mig_symbols.specs.declared.tokens.Mark.{Mark}
use Rattle.mrc_mig_symbols.specs.Symbols.{first_of, text_of, tail_of}
use Rattle.mrc_mig_symbols.specs.Marks.{mark_of}

-- what the first token that is left is, by what is kept of it
pub first_left : (tokens : List Lexeme) (at : ℕ) (kept : Option Mark)
    → kept ≡ option_map mark_of (slice_get tokens at)
    → option_map_or (λ mark. mark.symbol) kept symbols.End ≡ first_of (drop at tokens)
unfolding first_of
first_left [] zero kept e = ap (λ o. option_map_or (λ mark. mark.symbol) o symbols.End) e
first_left [] (suc at) kept e = ap (λ o. option_map_or (λ mark. mark.symbol) o symbols.End) e
first_left (token ∷ tokens) zero kept e =
    ap (λ o. option_map_or (λ mark. mark.symbol) o symbols.End) e
first_left (token ∷ tokens) (suc at) kept e = first_left tokens at kept e

pub text_left : (tokens : List Lexeme) (at : ℕ)
    → text_of (drop at tokens) ≡ option_map_or (λ token. token.bytes) (slice_get tokens at) []
unfolding text_of
text_left [] zero = refl
text_left [] (suc at) = refl
text_left (token ∷ tokens) zero = refl
text_left (token ∷ tokens) (suc at) = text_left tokens at

tail_is : (tokens : List Lexeme) → tail_of tokens ≡ drop 1 tokens
unfolding tail_of
tail_is [] = refl
tail_is (token ∷ tokens) = refl

pub next_left : (tokens : List Lexeme) (at : ℕ) → drop (at + 1) tokens ≡ tail_of (drop at tokens)
next_left tokens at = sym (tail_is (drop at tokens) ∙ drop-drop 1 at tokens)

-- none is left, and none behind it
pub end_left : (tokens : List Lexeme) (at : ℕ) → length tokens ≤ at
    → drop at tokens ≡ tail_of (drop at tokens)
unfolding tail_of
end_left tokens at le =
    let none = drop_of_length-le tokens le in none ∙ ap (λ t. tail_of t) (sym none)
