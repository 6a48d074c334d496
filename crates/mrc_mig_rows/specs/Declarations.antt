-- Step. The statement `type`, as it is read from its word on. A type that cannot be read is unknown
-- from there on.
use Rattle.std.specs.Prelude.{ℕ, ◌+◌, min, List, length, Bool, true, false, is_some, Option, Some, None}
use Rattle.std.specs.Prelude.{option_map, Result, Ok, Err}
use Rattle.mrc_base.specs.Reading.{◌>>=◌}
use Rattle.mrc_mig_arguments.specs.Reading.{options_at}
use Rattle.mrc_mig_lex.specs.declared.token.Sign.TheVariants as signs
use Rattle.mrc_mig_symbols.specs.declared.fault.Stop.{Stop}
use Rattle.mrc_mig_symbols.specs.declared.fault.StopReason.TheVariants as why
use Rattle.mrc_mig_symbols.specs.Symbols.{stop_at}
use Rattle.mrc_mig_tokens.specs.declared.symbol.Symbol.{Symbol}
use Rattle.mrc_mig_tokens.specs.declared.symbol.Symbol.TheVariants as symbols
use Rattle.mrc_mig_tokens.specs.Reading.{first_of, text_of, tail_of, unexpected, after_sign}
use Rattle.mrc_mig_tokens.specs.Tokens.{Token}
use Rattle.mrc_mig_types.specs.declared.meaning.Meaning.{Meaning}
use Rattle.mrc_mig_types.specs.Reading.{spec_at}
use Rattle.mrc_mig_types.specs.Table.{Known, declared}
use Rattle.mrc_mig_rows.specs.declared.declarations.UnreadType.{UnreadType}

-- a `type` statement that is not read: its name if it has one, its place, and why and where
pub record Unread : Type 0 where
  pub name : Option (List ℕ)
  pub at : ℕ
  pub stop : Stop

-- what code keeps of it
abbrev pub unread_of : UnreadType → Unread
unread_of unread = record {
  name = option_map (λ name. name.now) unread.name;
  at = unread.at;
  stop = unread.stop;
}

-- the place one token before these; it stays at the largest number, which no text reaches
abbrev pub place_before : List Token → ℕ
place_before tokens = min (length tokens + 1) 18446744073709551615

-- a type that is known before these tokens, or the name of an unknown one, which is its last token
abbrev pub known_before : Option Meaning → List Token → Result Meaning Stop
known_before (Some found) tokens = Ok found
known_before None tokens = Err (stop_at why.UnknownType (place_before tokens))

-- `= spec {option};`: what it means
unfoldable pub meaning_at : Known → List Token → Result Meaning Stop
meaning_at types tokens = do
  begin ← after_sign signs.Equals tokens
  found ← spec_at types begin
  meaning ← known_before found.0 found.1
  behind ← options_at found.1
  end ← after_sign signs.Semicolon behind
  Ok meaning

-- the types behind a statement under this name, and why its type is unknown
abbrev pub declare_by : Known → List ℕ → Result Meaning Stop → Known × Option Stop
declare_by types name (Ok found) = (declared types name (Some found), None)
declare_by types name (Err stop) = (declared types name None, Some stop)

-- a statement of this name at a place that is not read, where it stops
abbrev pub unread_at : List ℕ → ℕ → Option Stop → Option Unread
unread_at name place None = None
unread_at name place (Some stop) = Some (record { name = Some name; at = place; stop = stop })

-- a statement with this name before these tokens, by whether one has it already
abbrev pub named_by : Bool → Known → ℕ → List Token → Result (Known × Option Unread) Stop
named_by true types place tokens = Err (stop_at why.TwiceNamed (length tokens))
named_by false types place tokens =
    let found = declare_by types (text_of tokens) (meaning_at types (tail_of tokens)) in
    Ok (found.0, unread_at (text_of tokens) place found.1)

-- a statement, by the symbol behind its word
abbrev pub declaration_by : Symbol → Known → ℕ → List Token → Result (Known × Option Unread) Stop
declaration_by symbols.Name types place tokens =
    named_by (is_some (types.declared (text_of tokens))) types place tokens
declaration_by _ types place tokens =
    Ok (types, Some (record { name = None; at = place; stop = unexpected tokens }))

-- the types behind a `type` statement, and why it is not read
unfoldable pub declaration_at : Known → List Token → Result (Known × Option Unread) Stop
declaration_at types tokens =
    declaration_by (first_of (tail_of tokens)) types (length tokens) (tail_of tokens)
