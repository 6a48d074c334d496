-- Step. Arguments as they are read from the front. The arguments of routines of the second edition,
-- and the options behind types, read from left to right with one token of lookahead; where none is
-- read, the first token with which none goes on.
use Rattle.std.specs.Prelude.{ℕ, List, take, length, Bool, true, false, ◌-◌, Option, Some, None}
use Rattle.std.specs.Prelude.{Result, Ok, Err, if◌then◌else◌}
use Rattle.mrc_base.specs.Reading.{◌>>=◌}
use Rattle.mrc_mig_lex.specs.declared.token.Sign.TheVariants as signs
use Rattle.mrc_mig_symbols.specs.declared.fault.Stop.{Stop}
use Rattle.mrc_mig_symbols.specs.declared.word.Word.TheVariants as words
use Rattle.mrc_mig_tokens.specs.declared.symbol.Symbol.{Symbol}
use Rattle.mrc_mig_tokens.specs.declared.symbol.Symbol.TheVariants as symbols
use Rattle.mrc_mig_tokens.specs.Tokens.{Token}
use Rattle.mrc_mig_tokens.specs.Reading.{first_of, text_of, tail_of, unexpected, is_sign}
use Rattle.mrc_mig_tokens.specs.Reading.{after_sign, any_name_at, many}
use Rattle.mrc_mig_types.specs.declared.meaning.Meaning.{Meaning}
use Rattle.mrc_mig_types.specs.Reading.{spec_at, flags_at}
use Rattle.mrc_mig_types.specs.Table.{Known, type_of}
use Rattle.mrc_mig_arguments.specs.declared.argument.Role.{Role}
use Rattle.mrc_mig_arguments.specs.declared.argument.Role.TheVariants as marks
use Rattle.mrc_mig_arguments.specs.Words.{role_of_word, is_payload, asks_count, Written}

-- `: name`
unfoldable pub name_behind : List Token → Result (List Token) Stop
name_behind tokens = do
  behind ← after_sign signs.Colon tokens
  name ← any_name_at behind
  Ok name.1

-- `name ( name )`
unfoldable pub call_at : List Token → Result (List Token) Stop
call_at tokens = do
  function ← any_name_at tokens
  inside ← after_sign signs.OpenParenthesis function.1
  value ← any_name_at inside
  after_sign signs.CloseParenthesis value.1

-- `: name name ( name )`, behind `intran` and `outtran`
unfoldable pub translation_at : List Token → Result (List Token) Stop
translation_at tokens = name_behind tokens >>= λ behind. call_at behind

-- `: name name`, behind `intranpayload`
unfoldable pub payload_at : List Token → Result (List Token) Stop
payload_at tokens = do
  behind ← name_behind tokens
  name ← any_name_at behind
  Ok name.1

-- `: name ( name )`, behind `destructor`
unfoldable pub destructor_at : List Token → Result (List Token) Stop
destructor_at tokens = after_sign signs.Colon tokens >>= λ behind. call_at behind

-- the word of an option
abbrev pub is_option : Symbol → List ℕ → Bool
is_option (symbols.Word words.CType) bytes = true
is_option (symbols.Word words.Translation) bytes = true
is_option (symbols.Word words.Destructor) bytes = true
is_option symbols.Name bytes = is_payload bytes
is_option _ bytes = false

-- an option comes next
unfoldable pub begins_option : List Token → Bool
begins_option tokens = is_option (first_of tokens) (text_of tokens)

-- one option, by the first symbol
abbrev pub option_by : Symbol → List ℕ → List Token → Result (List Token) Stop
option_by (symbols.Word words.CType) bytes tokens = name_behind (tail_of tokens)
option_by (symbols.Word words.Translation) bytes tokens = translation_at (tail_of tokens)
option_by (symbols.Word words.Destructor) bytes tokens = destructor_at (tail_of tokens)
option_by symbols.Name bytes tokens =
    if is_payload bytes then payload_at (tail_of tokens) else Err (unexpected tokens)
option_by _ bytes tokens = Err (unexpected tokens)

-- one option
unfoldable pub option_at : List Token → Result (List Token) Stop
option_at tokens = option_by (first_of tokens) (text_of tokens) tokens

-- the options behind a type
unfoldable pub options_at : List Token → Result (List Token) Stop
options_at tokens = many begins_option option_at (length tokens) tokens

-- what the first token is in front of an argument, by its symbol: it has to be a reserved word
abbrev pub role_by : Symbol → List ℕ → Option Role
role_by (symbols.Word word) bytes = role_of_word bytes
role_by _ bytes = None

-- the same
abbrev pub role_of : List Token → Option Role
role_of tokens = role_by (first_of tokens) (text_of tokens)

-- behind the word in front of an argument, where there is one
abbrev pub marked_by : Option Role → List Token → Role × List Token
marked_by (Some found) tokens = (found, tail_of tokens)
marked_by None tokens = (marks.Unmarked, tokens)

-- the word in front of an argument
unfoldable pub role_at : List Token → Role × List Token
role_at tokens = marked_by (role_of tokens) tokens

-- what an argument's type means, by whether an equals sign follows its name: the type behind that,
-- before options, or what is declared under its name
abbrev pub meaning_by : Bool → Known → List ℕ → List Token
    → Result (Option Meaning × List Token) Stop
meaning_by true types name tokens = do
  found ← spec_at types (tail_of tokens)
  behind ← options_at found.1
  Ok (found.0, behind)
meaning_by false types name tokens = Ok (type_of types name, tokens)

-- what an argument's type of this name means
unfoldable pub meaning_at : Known → List ℕ → List Token
    → Result (Option Meaning × List Token) Stop
meaning_at types name tokens =
    meaning_by (is_sign signs.Equals (first_of tokens)) types name tokens

-- flags, and whether `countinout` is among them
unfoldable pub flagged_at : List Token → Result (Bool × List Token) Stop
flagged_at tokens = do
  behind ← flags_at tokens
  Ok (asks_count (take (length tokens - length behind) tokens), behind)

-- an argument, and what follows it
unfoldable pub argument_at : Known → List Token → Result (Written × List Token) Stop
argument_at types tokens = do
  name ← any_name_at (role_at tokens).1
  type ← after_sign signs.Colon name.1
  type_name ← any_name_at type
  found ← meaning_at types type_name.0 type_name.1
  flagged ← flagged_at found.1
  Ok (
    record {
      role = (role_at tokens).0;
      name = name.0;
      type_name = type_name.0;
      meaning = found.0;
      counts = flagged.0;
      at = length tokens;
      name_at = length (role_at tokens).1;
      type_at = length type;
    },
    flagged.1,
  )
