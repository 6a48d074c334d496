-- Step. Tokens as they are read from the front. What a reader of tokens of the second edition sees
-- of those that are left, and the steps that all readers share.
use Rattle.std.specs.Prelude.{ℕ, zero, suc, List, [], ◌∷◌, length, drop, Bool, true, false}
use Rattle.std.specs.Prelude.{◌==◌, Result, Ok, Err, if◌then◌else◌}
use Rattle.mrc_base.specs.Reading.{◌>>=◌}
use Rattle.mrc_mig_lex.specs.declared.token.Sign.{Sign}
use Rattle.mrc_mig_symbols.specs.declared.fault.Stop.{Stop}
use Rattle.mrc_mig_symbols.specs.Symbols.{sign_number, unexpected_at}
use Rattle.mrc_mig_tokens.specs.declared.rest.Rest.{Rest}
use Rattle.mrc_mig_tokens.specs.declared.symbol.Symbol.{Symbol}
use Rattle.mrc_mig_tokens.specs.declared.symbol.Symbol.TheVariants as symbols
use Rattle.mrc_mig_tokens.specs.Tokens.{Token}

-- what is left to read
unfoldable pub left : Rest → List Token
left rest = drop rest.at rest.tokens.now.tokens

-- no token is left
abbrev pub no_tokens : List Token → Bool
no_tokens [] = true
no_tokens (token ∷ tokens) = false

-- what the first token is
unfoldable pub first_of : List Token → Symbol
first_of [] = symbols.End
first_of (token ∷ tokens) = token.symbol

-- the bytes of the first token
unfoldable pub text_of : List Token → List ℕ
text_of [] = []
text_of (token ∷ tokens) = token.bytes

-- what follows the first token
unfoldable pub tail_of : List Token → List Token
tail_of [] = []
tail_of (token ∷ tokens) = tokens

-- reading stops at a first token that cannot stand there, or at a missing one
abbrev pub unexpected : List Token → Stop
unexpected tokens = unexpected_at (length tokens)

-- this sign
abbrev pub is_sign : Sign → Symbol → Bool
is_sign wanted (symbols.Sign found) = sign_number found == sign_number wanted
is_sign wanted _ = false

-- after this sign
unfoldable pub after_sign : Sign → List Token → Result (List Token) Stop
after_sign wanted tokens =
    if is_sign wanted (first_of tokens) then Ok (tail_of tokens) else Err (unexpected tokens)

-- a name of any length, by the first symbol
abbrev pub any_name_by : Symbol → List Token → Result (List ℕ × List Token) Stop
any_name_by symbols.Name tokens = Ok (text_of tokens, tail_of tokens)
any_name_by _ tokens = Err (unexpected tokens)

-- a name of any length, and what follows it
unfoldable pub any_name_at : List Token → Result (List ℕ × List Token) Stop
any_name_at tokens = any_name_by (first_of tokens) tokens

-- one step after the other, as long as the test holds, and at most so many
unfoldable pub many : {A : Type 0} → (A → Bool) → (A → Result A Stop) → ℕ → A → Result A Stop
many goes step zero a = Ok a
many goes step (suc n) a = if goes a then (step a >>= λ b. many goes step n b) else Ok a
