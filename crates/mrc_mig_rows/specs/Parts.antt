-- Step. The parts of a row's parenthesis, cut at each `;` that stands in no other parentheses and
-- braces. Each is read by itself.
use Rattle.std.specs.Prelude.{◌≡◌, ℕ, List, [], ◌∷◌, ◌==◌, length, map, codes, Bool, true, false}
use Rattle.std.specs.Prelude.{Option, Some, None, Result, Ok, Err, if◌then◌else◌}
use Rattle.mrc_mig_arguments.specs.declared.argument.Role.TheVariants as roles
use Rattle.mrc_mig_arguments.specs.Reading.{argument_at}
use Rattle.mrc_mig_arguments.specs.Words.{Written}
use Rattle.mrc_mig_bodies.specs.Parameters.{Parameter, parameter_of}
use Rattle.mrc_mig_lex.specs.declared.token.Sign.TheVariants as signs
use Rattle.mrc_mig_symbols.specs.declared.fault.Stop.{Stop}
use Rattle.mrc_mig_tokens.specs.declared.rest.Rest.{Rest}
use Rattle.mrc_mig_tokens.specs.declared.symbol.Symbol.{Symbol}
use Rattle.mrc_mig_tokens.specs.declared.symbol.Symbol.TheVariants as symbols
use Rattle.mrc_mig_tokens.specs.Reading.{first_of, tail_of, is_sign, left}
use Rattle.mrc_mig_tokens.specs.Tokens.{Token}
use Rattle.mrc_mig_types.specs.Table.{Known}
use Rattle.mrc_mig_rows.specs.declared.parts.Part.{Part}
use Rattle.mrc_mig_rows.specs.declared.parts.Part.TheVariants as parts
use Rattle.mrc_mig_rows.specs.declared.parts.Seen.{Seen}
use Rattle.mrc_mig_rows.specs.Ends.{ends, opened}

-- a part: an argument, or the place of the first token with which none goes on
pub data Piece : Type 0 where
  Read : Parameter → Piece
  Unread : ℕ → Piece

-- what code keeps of it
abbrev pub piece_of : Part → Piece
piece_of (parts.Read argument) = Read (parameter_of argument)
piece_of (parts.Unread place) = Unread place

-- an argument as it is written, without where it lies in memory
abbrev pub parameter_by : Written → Parameter
parameter_by a = record {
  role = a.role;
  name = a.name;
  type_name = a.type_name;
  meaning = a.meaning;
  counts = a.counts;
  at = a.at;
  name_at = a.name_at;
  type_at = a.type_at;
}

-- a part by what is read at its front: an argument has to end where the part does
abbrev pub piece_by : Result (Written × List Token) Stop → List Token → Piece
piece_by (Ok found) end =
    if length found.1 == length end then Read (parameter_by found.0) else Unread (length found.1)
piece_by (Err stop) end = Unread stop.left

-- the part that begins at the one and ends at the other tokens
unfoldable pub piece_at : Known → List Token → List Token → Piece
piece_at types begin end = piece_by (argument_at types begin) end

-- the parts from one on that began here, in which so many parentheses and braces are open
unfoldable pub pieces_from : Known → ℕ → List Token → List Token → List Piece
pieces_from types depth begin [] = piece_at types begin [] ∷ []
pieces_from types depth begin (token ∷ tokens) =
    if ends depth token.symbol
    then (piece_at types begin (token ∷ tokens)
    ∷ (if is_sign signs.Semicolon token.symbol then pieces_from types 0 tokens tokens else []))
    else pieces_from types (opened depth token.symbol) begin tokens

-- what is left from the sign on that closes the parenthesis
unfoldable pub closing_from : ℕ → List Token → List Token
closing_from depth [] = []
closing_from depth (token ∷ tokens) =
    if ends depth token.symbol
    then (if is_sign signs.Semicolon token.symbol then closing_from 0 tokens else token ∷ tokens)
    else closing_from (opened depth token.symbol) tokens

-- the parts from behind the opening sign, of which there are none in an empty parenthesis, and what
-- is left from the closing sign on
unfoldable pub pieces_at : Known → List Token → List Piece × List Token
pieces_at types tokens =
    if is_sign signs.CloseParenthesis (first_of tokens) then ([], tokens)
    else (pieces_from types 0 tokens tokens, closing_from 0 tokens)

-- what follows `name (`, or what is left where that does not stand, by the first symbol
abbrev pub opening_by : Symbol → List Token → Result (List Token) (List Token)
opening_by symbols.Name tokens =
    if is_sign signs.OpenParenthesis (first_of (tail_of tokens)) then Ok (tail_of (tail_of tokens))
    else Err (tail_of tokens)
opening_by _ tokens = Err tokens

-- the same
unfoldable pub opening_at : List Token → Result (List Token) (List Token)
opening_at tokens = opening_by (first_of tokens) tokens

-- what code keeps of that
abbrev pub IsOpening : Result Rest Rest → Result (List Token) (List Token) → Type 0
IsOpening (Ok rest) given = given ≡ Ok (left rest)
IsOpening (Err rest) given = given ≡ Err (left rest)

-- what is seen of a row's arguments: the parts, what is left from the closing sign on, and whether
-- a parenthesis is opened
pub record View : Type 0 where
  pub pieces : List Piece
  pub end : List Token
  pub is_opened : Bool

-- what code keeps of it
abbrev pub view_of : Seen → View
view_of seen = record {
  pieces = map piece_of seen.parts.items;
  end = left seen.end;
  is_opened = seen.is_opened;
}

-- what is seen where no parenthesis is opened: one part that cannot be read
abbrev pub unopened : List Token → View
unopened end = record { pieces = Unread (length end) ∷ []; end = end; is_opened = false }

-- what is seen behind an opening sign, or where none is
abbrev pub view_by : Known → Result (List Token) (List Token) → View
view_by types (Ok inside) = record {
  pieces = (pieces_at types inside).0;
  end = (pieces_at types inside).1;
  is_opened = true;
}
view_by types (Err end) = unopened end

-- what is seen of a row's arguments, from behind its word
unfoldable pub view_at : Known → List Token → View
view_at types tokens = view_by types (opening_at tokens)

-- the arguments before the first part that cannot be read
abbrev pub read_before : List Piece → List Parameter
read_before [] = []
read_before (Read a ∷ others) = a ∷ read_before others
read_before (Unread place ∷ others) = []

-- where the first part that cannot be read stops
abbrev pub unread_at : List Piece → Option ℕ
unread_at [] = None
unread_at (Read a ∷ others) = unread_at others
unread_at (Unread place ∷ others) = Some place

-- where what follows the arguments is not `) ;`
abbrev pub tail_stop : List Token → Option ℕ
tail_stop end =
    if is_sign signs.CloseParenthesis (first_of end)
    then (if is_sign signs.Semicolon (first_of (tail_of end)) then None
    else Some (length (tail_of end)))
    else Some (length end)

-- the first of two places, where there is one
abbrev pub or_else : Option ℕ → Option ℕ → Option ℕ
or_else (Some place) other = Some place
or_else None other = other

-- the place of the first token with which no routine goes on
abbrev pub stop_of : View → Option ℕ
stop_of view = or_else (unread_at view.pieces) (tail_stop view.end)

-- an argument that stands for what cannot be read: it is in the request, and of an unknown type
abbrev pub unknown : ℕ → Parameter
unknown place = record {
  role = roles.In;
  name = codes "?";
  type_name = codes "?";
  meaning = None;
  counts = false;
  at = place;
  name_at = place;
  type_at = place;
}

-- the argument of a part, or one that stands for it
abbrev pub parameter_in : Piece → Parameter
parameter_in (Read a) = a
parameter_in (Unread place) = unknown place
