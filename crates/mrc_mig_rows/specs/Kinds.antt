-- Believe. The kinds of statements, by their first tokens. The words are those of GNU MIG, in any
-- case; what is left out, and what means nothing, is this profile's own choice.
use Rattle.std.specs.Prelude.{ℕ, List, [], ◌∷◌, Bool, true, false, Option, Some, None, codes}
use Rattle.std.specs.Str.{str_to_ascii_lowercase}
use Rattle.mrc_mig_bodies.specs.declared.kinds.RoutineKind.{RoutineKind}
use Rattle.mrc_mig_bodies.specs.declared.kinds.RoutineKind.TheVariants as routines
use Rattle.mrc_mig_lex.specs.declared.token.Sign.TheVariants as signs
use Rattle.mrc_mig_symbols.specs.declared.word.Word.{Word}
use Rattle.mrc_mig_symbols.specs.declared.word.Word.TheVariants as words
use Rattle.mrc_mig_symbols.specs.Tables.{entry_of}
use Rattle.mrc_mig_tokens.specs.declared.symbol.Symbol.{Symbol}
use Rattle.mrc_mig_tokens.specs.declared.symbol.Symbol.TheVariants as symbols
use Rattle.mrc_mig_tokens.specs.Reading.{first_of, text_of}
use Rattle.mrc_mig_tokens.specs.Tokens.{Token}
use Rattle.mrc_mig_rows.specs.declared.kinds.RowKind.{RowKind}
use Rattle.mrc_mig_rows.specs.declared.kinds.RowKind.TheVariants as rows
use Rattle.mrc_mig_rows.specs.declared.kinds.StatementKind.{StatementKind}
use Rattle.mrc_mig_rows.specs.declared.kinds.StatementKind.TheVariants as kinds

-- an old form, which is always left out
abbrev pub is_old : RowKind → Bool
is_old rows.Routine = false
is_old rows.SimpleRoutine = false
is_old _ = true

-- which bodies a row has
abbrev pub routine_kind : RowKind → RoutineKind
routine_kind rows.Routine = routines.Routine
routine_kind rows.Procedure = routines.Routine
routine_kind rows.Function = routines.Routine
routine_kind rows.SimpleRoutine = routines.Simple
routine_kind rows.SimpleProcedure = routines.Simple

-- the words that are not reserved
abbrev pub names : List (List ℕ × StatementKind)
names =
    (codes "procedure", kinds.Row rows.Procedure) ∷
    (codes "operation", kinds.Row rows.Procedure) ∷
    (codes "function", kinds.Row rows.Function) ∷
    (codes "simpleprocedure", kinds.Row rows.SimpleProcedure) ∷
    (codes "serverdemux", kinds.Passed) ∷
    (codes "nowaittime", kinds.Passed) ∷
    (codes "error", kinds.Passed) ∷ []

-- what a statement is that begins with such a word
unfoldable pub kind_of_name : List ℕ → Option StatementKind
kind_of_name bytes = entry_of names (str_to_ascii_lowercase bytes)

-- what a statement is that begins with a reserved word
abbrev pub kind_of_word : Word → Option StatementKind
kind_of_word words.Subsystem = Some kinds.Subsystem
kind_of_word words.Type = Some kinds.Type
kind_of_word words.Routine = Some (kinds.Row rows.Routine)
kind_of_word words.SimpleRoutine = Some (kinds.Row rows.SimpleRoutine)
kind_of_word words.Skip = Some kinds.Skip
kind_of_word words.Import = Some kinds.Passed
kind_of_word words.Prefix = Some kinds.Passed
kind_of_word words.Rcsid = Some kinds.Passed
kind_of_word words.Wait = Some kinds.Passed
kind_of_word _ = None

-- what a statement is, by its first token: a lone `;` is an empty one
abbrev pub kind_by : Symbol → List ℕ → Option StatementKind
kind_by (symbols.Word word) bytes = kind_of_word word
kind_by symbols.Name bytes = kind_of_name bytes
kind_by (symbols.Sign signs.Semicolon) bytes = Some kinds.Passed
kind_by _ bytes = None

-- what the statement at the front is
unfoldable pub statement_kind : List Token → Option StatementKind
statement_kind tokens = kind_by (first_of tokens) (text_of tokens)
