-- Believe. When a row is read, and what it is then. A row that is no such routine is left out. The
-- limits, and what objects to a routine, are this profile's own choice.
use Rattle.std.specs.Prelude.{◌≡◌, ◌<◌, ◌≤◌, ◌+◌, ℕ, List, length, false, Some}
use Rattle.mrc_base.specs.Limits.{limit_of_ids, limit_of_name, limit_of_number}
use Rattle.mrc_mig_bodies.specs.Bodies.{request_body, reply_body}
use Rattle.mrc_mig_bodies.specs.Laws.{NothingObjects}
use Rattle.mrc_mig_bodies.specs.Parameters.{Parameter}
use Rattle.mrc_mig_bodies.specs.Roles.{request_of}
use Rattle.mrc_mig_tokens.specs.Tokens.{Token}
use Rattle.mrc_mig_rows.specs.declared.kinds.RowKind.{RowKind}
use Rattle.mrc_mig_rows.specs.declared.words.Told.{Told}
use Rattle.mrc_mig_rows.specs.Carried.{Carrier}
use Rattle.mrc_mig_rows.specs.Kinds.{is_old, routine_kind}
use Rattle.mrc_mig_rows.specs.Rows.{IsRead, IsLeftOut, RowSays, Where}
use Rattle.mrc_mig_rows.specs.Words.{last_id}
use Rattle.mrc_mig_laws.specs.Routines.{IsRoutine}

-- A routine of a form that is not old. An id is left for it, and its last one fits. No earlier row
-- has its name, which is not too long. Nothing objects to its arguments; two tokens stand between
-- them and what follows the routine.
pub record IsReadRoutine (known : Where) (kind : RowKind) (tokens : List Token) (name : List ℕ)
    (arguments : List Parameter) : Type 0 where
  pub behind : List Token
  pub stands : IsRoutine known.types tokens name arguments behind
  pub form : is_old kind ≡ false
  pub room : known.taken < limit_of_ids
  pub fits : last_id kind known.id ≤ limit_of_number
  pub is_free : known.names name ≡ false
  pub is_short : length name ≤ limit_of_name
  pub sound : NothingObjects (routine_kind kind) known.by.request (length behind + 2) arguments

-- what such a row says: its name, its id, its place, the kind of its request and the two bodies
abbrev pub read_row : Where → RowKind → List Token → List ℕ → List Parameter → RowSays
read_row known kind tokens name arguments = record {
  name = Some name;
  id = known.id;
  at = length tokens;
  outcome = IsRead (request_of (routine_kind kind) arguments)
      (request_body (routine_kind kind) known.by.request arguments)
      (reply_body (routine_kind kind) known.by.reply arguments);
}

-- the row at the front is such a routine, and says this
pub record IsReadRow (known : Where) (kind : RowKind) (tokens : List Token) (row : RowSays)
    : Type 0 where
  pub name : List ℕ
  pub arguments : List Parameter
  pub is : IsReadRoutine known kind tokens name arguments
  pub says : row ≡ read_row known kind tokens name arguments

-- the row at the front is no such routine
abbrev pub IsNoReadRow : Where → RowKind → List Token → Type 0
IsNoReadRow known kind tokens = (row : RowSays) → IsReadRow known kind tokens row → ⊥

-- a row says that it is left out, for some word and with what it may carry
abbrev pub IsLeftOutRow : RowSays → Type 0
IsLeftOutRow row = (told : Told) × (carried : List Carrier) × (row.outcome ≡ IsLeftOut told carried)
