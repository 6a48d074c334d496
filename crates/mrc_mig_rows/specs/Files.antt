-- Step. The statements of a file, one after the other, and the first fault of a file.
use Rattle.std.specs.Prelude.{ℕ, ◌+◌, ◌++◌, List, [], ◌∷◌, length, min, Bool, true}
use Rattle.std.specs.Prelude.{false, not, Option, Some, None, Result, Ok, Err}
use Rattle.mrc_base.specs.Limits.{limit_of_ids}
use Rattle.mrc_base.specs.Reading.{◌>>=◌}
use Rattle.mrc_mig_symbols.specs.declared.fault.Stop.{Stop}
use Rattle.mrc_mig_symbols.specs.Symbols.{unexpected_at}
use Rattle.mrc_mig_tokens.specs.declared.symbol.Symbol.{Symbol}
use Rattle.mrc_mig_tokens.specs.declared.symbol.Symbol.TheVariants as symbols
use Rattle.mrc_mig_tokens.specs.Reading.{first_of, tail_of, unexpected, no_tokens, many}
use Rattle.mrc_mig_tokens.specs.Tokens.{Token}
use Rattle.mrc_mig_types.specs.declared.shapes.By.TheVariants as judged
use Rattle.mrc_mig_types.specs.Table.{Known, nothing_known, included}
use Rattle.mrc_mig_rows.specs.declared.carried.Judges.{Judges}
use Rattle.mrc_mig_rows.specs.declared.kinds.RowKind.{RowKind}
use Rattle.mrc_mig_rows.specs.declared.kinds.StatementKind.{StatementKind}
use Rattle.mrc_mig_rows.specs.declared.kinds.StatementKind.TheVariants as kinds
use Rattle.mrc_mig_rows.specs.Declarations.{Unread, declaration_at}
use Rattle.mrc_mig_rows.specs.Ends.{statement_end}
use Rattle.mrc_mig_rows.specs.Headings.{Subsystem, heading_at, skip_at}
use Rattle.mrc_mig_rows.specs.Kinds.{statement_kind}
use Rattle.mrc_mig_rows.specs.Names.{Names, none_taken, with_name}
use Rattle.mrc_mig_rows.specs.Rows.{RowSays, Where, row_at, name_at}

-- what statements say: the types, the subsystem, how many ids are taken, the names of the rows, the
-- rows, and the types that are not read
pub record State : Type 0 where
  pub types : Known
  pub heading : Option Subsystem
  pub taken : ℕ
  pub names : Names
  pub rows : List RowSays
  pub unread : List Unread

-- nothing is said
abbrev pub nothing_said : State
nothing_said = record {
  types = nothing_known;
  heading = None;
  taken = 0;
  names = none_taken;
  rows = [];
  unread = [];
}

-- a sum of ids, which above 2 ^ 64 - 1 stays there: no text is so long
abbrev pub sum_of_ids : ℕ → ℕ → ℕ
sum_of_ids a b = min (a + b) 18446744073709551615

-- by which type numbers the messages of a subsystem are judged: the rights of a text as received by
-- all that give the right, the replies of a kernel's server by what is received
abbrev pub judges : Bool → Bool → Judges
judges true true = record { request = judged.Picked; reply = judged.PickedReceived }
judges true false = record { request = judged.Picked; reply = judged.Picked }
judges false true = record { request = judged.Sent; reply = judged.Received }
judges false false = record { request = judged.Sent; reply = judged.Sent }

-- behind a `subsystem` statement, of which there is one
abbrev pub with_heading : Option Subsystem → State → List Token → Result State Stop
with_heading (Some found) state tokens = Err (unexpected tokens)
with_heading None state tokens = do
  heading ← heading_at (tail_of tokens)
  Ok (record state { heading = Some heading })

-- behind a `skip`, which does not stand before the subsystem
abbrev pub with_skip : Option Subsystem → State → List Token → Result State Stop
with_skip None state tokens = Err (unexpected tokens)
with_skip (Some heading) state tokens = do
  count ← skip_at (tail_of tokens)
  Ok (record state { taken = sum_of_ids state.taken count })

-- with types, and one that is not read, where there is one
abbrev pub with_unread : State → Known → Option Unread → State
with_unread state types None = record state { types = types }
with_unread state types (Some unread) =
    record state { types = types; unread = state.unread ++ unread ∷ [] }

-- behind a `type` statement
abbrev pub with_type : State → List Token → Result State Stop
with_type state tokens =
    declaration_at state.types tokens >>= λ found. Ok (with_unread state found.0 found.1)

-- the names, with a row's
abbrev pub names_with : Names → Option (List ℕ) → Names
names_with names None = names
names_with names (Some name) = with_name names name

-- what is known where a row stands
abbrev pub known_there : Subsystem → Bool → State → Where
known_there heading received state = record {
  types = state.types;
  names = state.names;
  by = judges received heading.is_kernel_server;
  taken = state.taken;
  id = sum_of_ids heading.base state.taken;
}

-- behind a row
abbrev pub behind_row : Subsystem → Bool → State → RowKind → List Token → State
behind_row heading received state kind tokens = record state {
  rows = state.rows ++ row_at (known_there heading received state) kind tokens ∷ [];
  taken = sum_of_ids state.taken 1;
  names = names_with state.names (name_at (tail_of tokens));
}

-- the same: a row does not stand before the subsystem
abbrev pub with_row : Option Subsystem → Bool → State → RowKind → List Token → Result State Stop
with_row None received state kind tokens = Err (unexpected tokens)
with_row (Some heading) received state kind tokens =
    Ok (behind_row heading received state kind tokens)

-- behind a statement of this kind, if its first token begins one
abbrev pub statement_by : Option StatementKind → Bool → State → List Token → Result State Stop
statement_by None received state tokens = Err (unexpected tokens)
statement_by (Some kinds.Subsystem) received state tokens =
    with_heading state.heading state tokens
statement_by (Some kinds.Type) received state tokens = with_type state tokens
statement_by (Some (kinds.Row kind)) received state tokens =
    with_row state.heading received state kind tokens
statement_by (Some kinds.Skip) received state tokens = with_skip state.heading state tokens
statement_by (Some kinds.Passed) received state tokens = Ok state

-- behind the include line or the statement at the front, by the first symbol: of a statement its
-- end is sought first
abbrev pub one_by : Symbol → Bool → State → List Token → Result (State × List Token) Stop
one_by symbols.Include received state tokens =
    Ok (record state { types = included state.types }, tail_of tokens)
one_by _ received state tokens = do
  behind ← statement_end tokens
  next ← statement_by (statement_kind tokens) received state tokens
  Ok (next, behind)

-- one statement more
unfoldable pub one_at : Bool → State × List Token → Result (State × List Token) Stop
one_at received at = one_by (first_of at.1) received at.0 at.1

-- tokens are left
unfoldable pub goes_on : State × List Token → Bool
goes_on at = not (no_tokens at.1)

-- what all statements say
unfoldable pub statements_at : Bool → List Token → Result (State × List Token) Stop
statements_at received tokens =
    many goes_on (one_at received) (length tokens) (nothing_said, tokens)

-- what a file says: the subsystem, how many ids it takes, its rows, and the types that are not read
pub record FileSays : Type 0 where
  pub heading : Subsystem
  pub ids : ℕ
  pub rows : List RowSays
  pub unread : List Unread

-- a file has a subsystem
abbrev pub file_by : Option Subsystem → State → Result FileSays Stop
file_by None state = Err (unexpected_at 0)
file_by (Some heading) state = Ok (record {
  heading = heading;
  ids = min state.taken limit_of_ids;
  rows = state.rows;
  unread = state.unread;
})

-- what the tokens of a file say
unfoldable pub file_at : Bool → List Token → Result FileSays Stop
file_at received tokens = do
  end ← statements_at received tokens
  file_by end.0.heading end.0
