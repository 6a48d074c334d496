-- Where a part ends, one token after the other.
use Rattle.std.proofs.Common.{◌≡◌, ℕ, ◌+◌, ◌<◌, ◌≤◌, true, false, List, [], ◌∷◌, length}
use Rattle.std.proofs.Common.{refl, arith}
use Rattle.mrc_mig_lex.specs.declared.token.Sign.{Sign}
use Rattle.mrc_mig_lex.specs.declared.token.Sign.TheVariants as signs
use Rattle.mrc_mig_tokens.specs.declared.symbol.Symbol.{Symbol}
use Rattle.mrc_mig_tokens.specs.declared.symbol.Symbol.TheVariants as symbols
use Rattle.mrc_mig_tokens.specs.Reading.{first_of, tail_of}
use Rattle.mrc_mig_tokens.specs.Tokens.{Token}
use Rattle.mrc_mig_rows.specs.Ends.{ends, opened, end_from}

-- it ends here
pub end_here : (depth : ℕ) (tokens : List Token) → ends depth (first_of tokens) ≡ true
    → end_from depth tokens ≡ tokens
unfolding end_from first_of
end_here depth [] e = refl
end_here depth (token ∷ tokens) e = rw e refl

-- it ends later
pub end_later : (depth : ℕ) (tokens : List Token) → ends depth (first_of tokens) ≡ false
    → end_from depth tokens ≡ end_from (opened depth (first_of tokens)) (tail_of tokens)
unfolding end_from first_of tail_of
end_later depth [] e = absurd cc
end_later depth (token ∷ tokens) e = rw e refl

-- a token is left then
pub one_is_less : (depth : ℕ) (tokens : List Token) → ends depth (first_of tokens) ≡ false
    → length (tail_of tokens) < length tokens
unfolding first_of tail_of
one_is_less depth [] e = absurd cc
one_is_less depth (token ∷ tokens) e = omega arith

sign_opens : (depth : ℕ) (sign : Sign) → opened depth (symbols.Sign sign) ≤ depth + 1
sign_opens depth signs.OpenParenthesis = omega arith
sign_opens depth signs.CloseParenthesis = omega arith
sign_opens depth _ = omega arith

-- one more is open at most
pub opens_one : (depth : ℕ) (symbol : Symbol) → opened depth symbol ≤ depth + 1
opens_one depth (symbols.Sign sign) = sign_opens depth sign
opens_one depth symbols.OpenBrace = omega arith
opens_one depth symbols.CloseBrace = omega arith
opens_one depth _ = omega arith

-- no token is left
pub none_left : (depth : ℕ) (tokens : List Token) → length tokens ≡ 0 → end_from depth tokens ≡ tokens
unfolding end_from
none_left depth [] e = refl
none_left depth (token ∷ tokens) e = absurd (omega arith)
