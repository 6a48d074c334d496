-- Believe. Where in the text a fault is. Where in the text a fault is: each place is this profile's
-- own choice.
use Rattle.std.specs.Prelude.{ℕ, ◌-◌, List, length, slice_get}
use Rattle.std.specs.Option.{option_map_or}
use Rattle.mrc_mig_lex.specs.Tokens.{Lexeme, end_of}
use Rattle.mrc_mig_symbols.specs.declared.fault.ParseFault.{ParseFault}
use Rattle.mrc_mig_symbols.specs.declared.fault.ParseFault.TheVariants as faults
use Rattle.mrc_mig_symbols.specs.declared.fault.StopReason.{StopReason}
use Rattle.mrc_mig_symbols.specs.declared.fault.StopReason.TheVariants as why
use Rattle.mrc_mig_symbols.specs.declared.fault.Stop.{Stop}

-- where the last token ends
abbrev pub last_end : List Lexeme → ℕ
last_end tokens = option_map_or end_of (slice_get tokens (length tokens - 1)) 0

-- where the first of so many tokens that are left begins, or the end of the last one where none is
-- left
abbrev pub place_of : List Lexeme → ℕ → ℕ
place_of tokens count =
    option_map_or (λ token. token.at) (slice_get tokens (length tokens - count)) (last_end tokens)

-- the fault of this kind at this place
abbrev pub fault_at : StopReason → ℕ → ParseFault
fault_at why.Unexpected at = faults.Unexpected at
fault_at (why.LeftOut feature) at = faults.LeftOut at feature
fault_at why.UnknownType at = faults.UnknownType at
fault_at why.TwiceNamed at = faults.TwiceNamed at
fault_at why.NoRequestPort at = faults.NoRequestPort at
fault_at why.TooMany at = faults.TooMany at

-- the fault of these tokens for which reading stops
abbrev pub fault_of : List Lexeme → Stop → ParseFault
fault_of tokens stop = fault_at stop.why (place_of tokens stop.left)
