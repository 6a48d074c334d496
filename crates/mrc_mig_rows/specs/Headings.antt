-- Step. The statements `subsystem` and `skip`, as they are read from behind their words.
use Rattle.std.specs.Prelude.{ℕ, List, [], ◌∷◌, ◌||◌, length, Bool, true, false, codes}
use Rattle.std.specs.Prelude.{Result, Ok, Err, nat_lt, if◌then◌else◌}
use Rattle.std.specs.Str.{bytes_eq, str_to_ascii_lowercase}
use Rattle.mrc_base.specs.Limits.{limit_of_name}
use Rattle.mrc_base.specs.Reading.{◌>>=◌}
use Rattle.mrc_mig_lex.specs.declared.token.Sign.TheVariants as signs
use Rattle.mrc_mig_symbols.specs.declared.fault.Stop.{Stop}
use Rattle.mrc_mig_symbols.specs.declared.fault.StopReason.TheVariants as why
use Rattle.mrc_mig_symbols.specs.declared.word.Word.TheVariants as words
use Rattle.mrc_mig_symbols.specs.Symbols.{stop_at}
use Rattle.mrc_mig_tokens.specs.declared.symbol.Symbol.{Symbol}
use Rattle.mrc_mig_tokens.specs.declared.symbol.Symbol.TheVariants as symbols
use Rattle.mrc_mig_tokens.specs.Reading.{first_of, tail_of, unexpected}
use Rattle.mrc_mig_tokens.specs.Reading.{after_sign, any_name_at}
use Rattle.mrc_mig_tokens.specs.Tokens.{Token}
use Rattle.mrc_mig_rows.specs.declared.headings.Heading.{Heading}

-- what a `subsystem` statement says: the name, the first id, and whether it is a kernel's server
pub record Subsystem : Type 0 where
  pub name : List ℕ
  pub base : ℕ
  pub is_kernel_server : Bool

-- what code keeps of it
abbrev pub subsystem_of : Heading → Subsystem
subsystem_of heading = record {
  name = heading.name.now;
  base = heading.base;
  is_kernel_server = heading.is_kernel_server;
}

-- `kernelserver` or `kerneluser`
abbrev pub is_side : Symbol → Bool
is_side (symbols.Word words.Side) = true
is_side _ = false

-- `kernelserver`, of these two
abbrev pub is_server : List ℕ → Bool
is_server bytes = bytes_eq (str_to_ascii_lowercase bytes) (codes "kernelserver")

-- What follows those at the front, and whether `kernelserver` is among them or was before.
unfoldable pub sides_from : Bool → List Token → Bool × List Token
sides_from has_server [] = (has_server, [])
sides_from has_server (token ∷ tokens) =
    if is_side token.symbol then sides_from (has_server || is_server token.bytes) tokens
    else (has_server, token ∷ tokens)

-- a number, by the first symbol
abbrev pub number_by : Symbol → List Token → Result (ℕ × List Token) Stop
number_by (symbols.Number n) tokens = Ok (n, tail_of tokens)
number_by _ tokens = Err (unexpected tokens)

-- a number
unfoldable pub number_at : List Token → Result (ℕ × List Token) Stop
number_at tokens = number_by (first_of tokens) tokens

-- a name, where it is not too long
abbrev pub short_by : Bool → List ℕ × List Token → List Token
    → Result (List ℕ × List Token) Stop
short_by true name tokens = Err (stop_at why.TooMany (length tokens))
short_by false name tokens = Ok name

-- a name that is not too long
unfoldable pub short_name_at : List Token → Result (List ℕ × List Token) Stop
short_name_at tokens = do
  name ← any_name_at tokens
  short_by (nat_lt limit_of_name (length name.0)) name tokens

-- what a `subsystem` statement says
unfoldable pub heading_at : List Token → Result Subsystem Stop
heading_at tokens = do
  name ← short_name_at (sides_from false tokens).1
  base ← number_at name.1
  behind ← after_sign signs.Semicolon base.1
  Ok (record {
    name = name.0;
    base = base.0;
    is_kernel_server = (sides_from false tokens).0;
  })

-- how many ids a `skip` takes, and what follows the number, by the first symbol
abbrev pub skipped_by : Symbol → List Token → ℕ × List Token
skipped_by (symbols.Number n) tokens = (n, tail_of tokens)
skipped_by _ tokens = (1, tokens)

-- how many ids a `skip` takes
unfoldable pub skip_at : List Token → Result ℕ Stop
skip_at tokens = do
  behind ← after_sign signs.Semicolon (skipped_by (first_of tokens) tokens).1
  Ok (skipped_by (first_of tokens) tokens).0
