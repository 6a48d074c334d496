-- Believe. Which routines that are left out of a MIG file may carry rights, and which files an older
-- `mig` has cut. This profile's own choice.
use Rattle.std.specs.Prelude.{ℕ, List, [], ◌∷◌, Bool, true, false, ◌&&◌, ◌||◌, Option, Some, None}
use Rattle.std.specs.Prelude.{◌==◌, Result, Ok, Err, codes, if◌then◌else◌}
use Rattle.std.specs.List.{filter_map, starts_with}
use Rattle.std.specs.Str.{is_utf8}
use Rattle.mrc_mig_lex.specs.Characters.{quote}
use Rattle.mrc_mig_lex.specs.Tokens.{Lexeme}
use Rattle.mrc_mig_lex.specs.Lexing.{tokens_of}
use Rattle.mrc_mig_lex.specs.declared.fault.LexFault.{LexFault}
use Rattle.mrc_mig_symbols.specs.declared.symbol.Symbol.{Symbol}
use Rattle.mrc_mig_symbols.specs.declared.symbol.Symbol.TheVariants as symbols
use Rattle.mrc_mig_symbols.specs.Symbols.{first_of, text_of}
use Rattle.mrc_mig_tokens.specs.Editions.{edition_of}
use Rattle.mrc_mig_tokens.specs.declared.edition.Edition.{Edition}
use Rattle.mrc_mig_tokens.specs.declared.edition.Edition.TheVariants.{First, Second, Received}
use Rattle.mrc_mig_rows.specs.Carried.{Carrier}
use Rattle.mrc_mig_forms.specs.Files.{FormsSay, LeftOut}
use Rattle.mrc_interface.specs.Reading.{Reason, defs_of}

-- Rows that may carry rights.

-- there is one at least
abbrev pub are_some : List Carrier → Bool
are_some [] = false
are_some (carrier ∷ carriers) = true

-- a row that is left out may carry rights
abbrev pub carries : LeftOut → Bool
carries left = are_some left.carried

-- a name, or `?` where there is none
abbrev pub name_or : Option (List ℕ) → List ℕ
name_or None = codes "?"
name_or (Some name) = name

-- the name of a row
abbrev pub name_of : LeftOut → List ℕ
name_of left = name_or left.routine

-- the same, if the row may carry rights
abbrev pub name_if : LeftOut → Option (List ℕ)
name_if left = if carries left then Some (name_of left) else None

-- the names of those of these rows that may carry rights
abbrev pub carrying : List LeftOut → List (List ℕ)
carrying left_out = filter_map name_if left_out

-- the same of what a file says; of what is none there are none
abbrev pub carriers_by : Result FormsSay Reason → List (List ℕ)
carriers_by (Ok said) = carrying said.left_out
carriers_by (Err reason) = []

-- the routines that may carry rights and are left out of a MIG file
abbrev pub carriers : List ℕ → List (List ℕ)
carriers bytes = carriers_by (defs_of bytes)

-- Files that an older `mig` has cut.

-- bytes that are a text
abbrev pub text_if : List ℕ → Option (List ℕ)
text_if bytes = if is_utf8 bytes then Some bytes else None

-- the edition is the first
abbrev pub is_first_edition : Edition → Bool
is_first_edition First = true
is_first_edition Second = false
is_first_edition Received = false

-- there is a text, and it is of edition 1
abbrev pub is_first : Option (List ℕ) → Bool
is_first None = false
is_first (Some text) = is_first_edition (edition_of text)

-- a string that begins with the words by which an older `mig` told what it left out
abbrev pub is_note_of : Symbol → List ℕ → Bool
is_note_of symbols.Text bytes = starts_with (λ a b. a == b) bytes (quote ∷ codes "left out: ")
is_note_of _ bytes = false

-- the first token is such a string
abbrev pub is_note : List Lexeme → Bool
is_note tokens = is_note_of (first_of tokens) (text_of tokens)

-- one of the tokens is
abbrev pub has_note : List Lexeme → Bool
has_note [] = false
has_note (token ∷ tokens) = is_note (token ∷ tokens) || has_note tokens

-- the same of a text with these tokens; one with a fault has none
abbrev pub notes_of : Result (List Lexeme) LexFault → Bool
notes_of (Ok tokens) = has_note tokens
notes_of (Err fault) = false

-- the same of what may be a text, if it is of edition 1
abbrev pub is_cut_if : Option (List ℕ) → Bool
is_cut_if None = false
is_cut_if (Some text) = is_first_edition (edition_of text) && notes_of (tokens_of text)

-- an older `mig` has cut the file: a string of a text of edition 1 says so
abbrev pub is_old_cut : List ℕ → Bool
is_old_cut bytes = is_cut_if (text_if bytes)
