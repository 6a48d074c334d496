-- Step. What becomes of a row, from its word on: it is read, or left out for a word.
use Rattle.std.specs.Prelude.{ℕ, List, length, map, Option, Some, None, option_map}
use Rattle.mrc_mig_bodies.specs.declared.kinds.Request.{Request}
use Rattle.mrc_mig_bodies.specs.declared.objections.Objection.{Objection}
use Rattle.mrc_mig_bodies.specs.Bodies.{Item, item_of, request_body, reply_body}
use Rattle.mrc_mig_bodies.specs.Listed as listed
use Rattle.mrc_mig_bodies.specs.Roles.{request_of}
use Rattle.mrc_mig_tokens.specs.declared.symbol.Symbol.{Symbol}
use Rattle.mrc_mig_tokens.specs.declared.symbol.Symbol.TheVariants as symbols
use Rattle.mrc_mig_tokens.specs.Reading.{first_of, text_of, tail_of}
use Rattle.mrc_mig_tokens.specs.Tokens.{Token}
use Rattle.mrc_mig_types.specs.Table.{Known}
use Rattle.mrc_mig_rows.specs.declared.carried.Judges.{Judges}
use Rattle.mrc_mig_rows.specs.declared.kinds.RowKind.{RowKind}
use Rattle.mrc_mig_rows.specs.declared.rows.Content.{Content}
use Rattle.mrc_mig_rows.specs.declared.rows.Content.TheVariants as contents
use Rattle.mrc_mig_rows.specs.declared.rows.Row.{Row}
use Rattle.mrc_mig_rows.specs.declared.words.RowWord.{RowWord}
use Rattle.mrc_mig_rows.specs.declared.words.Told.{Told}
use Rattle.mrc_mig_rows.specs.Carried.{Carrier, carrier_of, carried_of}
use Rattle.mrc_mig_rows.specs.Kinds.{routine_kind}
use Rattle.mrc_mig_rows.specs.Names.{Names}
use Rattle.mrc_mig_rows.specs.Parts.{View, view_at, read_before, stop_of}
use Rattle.mrc_mig_rows.specs.Words.{early_word, name_word, told, first_told}

-- what becomes of a row: the kind of its request and the items of its messages, or the word for
-- which it is left out and what it may carry
pub data Outcome : Type 0 where
  IsRead : Request → List Item → List Item → Outcome
  IsLeftOut : Told → List Carrier → Outcome

-- a row: its name if it has one, its id, its place, and what becomes of it
pub record RowSays : Type 0 where
  pub name : Option (List ℕ)
  pub id : ℕ
  pub at : ℕ
  pub outcome : Outcome

-- what code keeps of them
abbrev pub outcome_of : Content → Outcome
outcome_of (contents.Read request messages) =
    IsRead request (map item_of messages.request.items) (map item_of messages.reply.items)
outcome_of (contents.LeftOut told carried) = IsLeftOut told (map carrier_of carried.items)

abbrev pub row_of : Row → RowSays
row_of row = record {
  name = option_map (λ name. name.now) row.name;
  id = row.id;
  at = row.at;
  outcome = outcome_of row.content;
}

-- what a file knows where a row stands: the types, the names of earlier rows, how messages are
-- judged, how many ids are taken, and the next id
pub record Where : Type 0 where
  pub types : Known
  pub names : Names
  pub by : Judges
  pub taken : ℕ
  pub id : ℕ

-- the name at the front, by the first symbol
abbrev pub name_by : Symbol → List ℕ → Option (List ℕ)
name_by symbols.Name bytes = Some bytes
name_by _ bytes = None

-- the name at the front, where one stands there
unfoldable pub name_at : List Token → Option (List ℕ)
name_at tokens = name_by (first_of tokens) (text_of tokens)

-- a word that is told at a place, where there is one
abbrev pub told_at : Option RowWord → ℕ → Option Told
told_at word place = option_map (λ word. told word place) word

-- the word for which a row is left out by its name
abbrev pub name_told_by : Names → Option (List ℕ) → ℕ → Option Told
name_told_by names None place = None
name_told_by names (Some name) place = told_at (name_word (names name) name) place

-- the first of two words, where there is one
abbrev pub or_told : Option Told → Option Told → Option Told
or_told (Some found) other = Some found
or_told None other = other

-- what objects to the arguments that can be read, first
unfoldable pub objection_of : RowKind → Judges → View → Option Objection
objection_of kind by view =
    listed.first_of (listed.objections (routine_kind kind) by.request (length view.end)
    (read_before view.pieces))

-- the word for which a row is left out by what stands behind its word
unfoldable pub judged_at : Where → RowKind → List Token → View → Option Told
judged_at known kind tokens view =
    or_told (name_told_by known.names (name_at tokens) (length tokens))
    (first_told (stop_of view) (objection_of kind known.by view))

-- the word for which a row is left out
unfoldable pub told_of : Where → RowKind → List Token → View → Option Told
told_of known kind tokens view =
    or_told (told_at (early_word kind known.taken known.id) (length tokens))
    (judged_at known kind (tail_of tokens) view)

-- what is read of a row to which nothing objects
unfoldable pub read_of : Judges → RowKind → View → Outcome
read_of by kind view =
    IsRead (request_of (routine_kind kind) (read_before view.pieces))
    (request_body (routine_kind kind) by.request (read_before view.pieces))
    (reply_body (routine_kind kind) by.reply (read_before view.pieces))

-- what becomes of a row, by the word for which it is left out
abbrev pub outcome_by : Option Told → Where → RowKind → List Token → View → Outcome
outcome_by None known kind tokens view = read_of known.by kind view
outcome_by (Some found) known kind tokens view =
    IsLeftOut found (carried_of known.types kind known.by (text_of (tail_of tokens)) view)

unfoldable pub outcome_at : Where → RowKind → List Token → View → Outcome
outcome_at known kind tokens view =
    outcome_by (told_of known kind tokens view) known kind tokens view

-- the row at the front
unfoldable pub row_at : Where → RowKind → List Token → RowSays
row_at known kind tokens = record {
  name = name_at (tail_of tokens);
  id = known.id;
  at = length tokens;
  outcome = outcome_at known kind tokens (view_at known.types (tail_of tokens));
}
