-- Believe. Only what `Grammar` cites: whole files. A whole MIG file and what it means, after the
-- Server Writer's Guide for MIG. The types that the include line declares are this profile's own
-- choice.
use Rattle.std.specs.Prelude.{ℕ, List, [], ◌∷◌, ◌++◌, length, codes, Bool, true, false, not, Option}
use Rattle.std.specs.Prelude.{Some, None, is_some, nat_lt, if◌then◌else◌}
use Rattle.std.specs.List.{list_any}
use Rattle.std.specs.Str.{bytes_eq}
use Rattle.mrc_base.specs.Limits.{limit_of_first_edition_ids}
use Rattle.mrc_mig_lex.specs.Tokens.{Lexeme}
use Rattle.mrc_mig_lex.specs.declared.token.Sign.TheVariants as signs
use Rattle.mrc_mig_symbols.specs.declared.directive.Directive.{Directive}
use Rattle.mrc_mig_symbols.specs.declared.directive.Directive.TheVariants as directives
use Rattle.mrc_forms.specs.declared.shape.Shape.{Shape}
use Rattle.mrc_mig_symbols.specs.declared.symbol.Symbol.{Symbol}
use Rattle.mrc_mig_symbols.specs.declared.symbol.Symbol.TheVariants as symbols
use Rattle.mrc_mig_parse.specs.declared.types.Use.TheVariants as uses
use Rattle.mrc_mig_symbols.specs.declared.word.Word.{Word}
use Rattle.mrc_mig_symbols.specs.declared.word.Word.TheVariants as words
use Rattle.mrc_mig_symbols.specs.Tables.{entry_of}
use Rattle.mrc_mig_symbols.specs.Symbols.{◌>>=◌, guard, many, no_tokens, symbol_of, first_of}
use Rattle.mrc_mig_symbols.specs.Symbols.{tail_of, after_sign, name_at}
use Rattle.mrc_mig_parse.specs.Types.{shape_at}
use Rattle.mrc_mig_parse.specs.Arguments.{Item, options_at, arguments_at, items_of}

-- what stands at an id: a routine or a simpleroutine, its name and its arguments, or a skip
pub data Row : Type 0 where
  Routine : List ℕ → List Item → Row
  SimpleRoutine : List ℕ → List Item → Row
  Skip : Row

-- what a file means: the subsystem's name, the id of its first row, and its rows
pub record Meaning : Type 0 where
  pub name : List ℕ
  pub base : ℕ
  pub rows : List Row

-- what the statements so far have declared
pub record State : Type 0 where
  pub types : List (List ℕ × Shape)
  pub has_table : Bool
  pub rows : List Row

-- one item of this type number and size
abbrev pub one : ℕ → ℕ → Shape
one name size = record { name = name; size = size; number = 1; is_bound = false }

-- the types that the include line declares
abbrev pub table : List (List ℕ × Shape)
table =
    (codes "char", one 8 8) ∷
    (codes "short", one 1 16) ∷
    (codes "int", one 2 32) ∷
    (codes "unsigned", one 2 32) ∷
    (codes "integer_t", one 2 32) ∷
    (codes "natural_t", one 2 32) ∷
    (codes "kern_return_t", one 2 32) ∷
    (codes "boolean_t", one 0 32) ∷
    (codes "mach_port_name_t", one 15 32) ∷
    (codes "mach_port_t", one 19 32) ∷
    (codes "mach_port_copy_send_t", one 19 32) ∷
    (codes "mach_port_move_receive_t", one 16 32) ∷
    (codes "mach_port_move_send_t", one 17 32) ∷
    (codes "mach_port_move_send_once_t", one 18 32) ∷
    (codes "mach_port_make_send_t", one 20 32) ∷
    (codes "mach_port_make_send_once_t", one 21 32) ∷ []

-- a type with this name is declared
abbrev pub is_declared : List ℕ → List (List ℕ × Shape) → Bool
is_declared name types = is_some (entry_of types name)

-- with one more type, whose name no type has
abbrev pub declared_with : List (List ℕ × Shape) → List ℕ → Shape → Option (List (List ℕ × Shape))
declared_with types name shape =
    if is_declared name types then None else Some (types ++ (name, shape) ∷ [])

-- with each of these types in turn
unfoldable pub declared_with_all : List (List ℕ × Shape) → List (List ℕ × Shape)
    → Option (List (List ℕ × Shape))
declared_with_all types [] = Some types
declared_with_all types (entry ∷ others) =
    declared_with types entry.0 entry.1 >>= λ more. declared_with_all more others

-- the include line, which declares the table once
abbrev pub include_by : Bool → State → Option State
include_by true s = Some s
include_by false s =
    declared_with_all s.types table >>= λ types. Some (record s { types = types; has_table = true })

-- a line of the preprocessor: a marker, or the include line
abbrev pub directive_by : Directive → State → Option State
directive_by directives.Marker s = Some s
directive_by directives.Include s = include_by s.has_table s
directive_by directives.Other s = None

-- a line of the preprocessor
abbrev pub line_by : Symbol → State → List Lexeme → Option (State × List Lexeme)
line_by (symbols.Directive line) s tokens =
    directive_by line s >>= λ next. Some (next, tail_of tokens)
line_by _ s tokens = None

-- a line of the preprocessor
abbrev pub is_line : Symbol → Bool
is_line (symbols.Directive line) = true
is_line _ = false

-- a line of the preprocessor comes next
unfoldable pub begins_line : State × List Lexeme → Bool
begins_line read = is_line (first_of read.1)

-- one line of the preprocessor
unfoldable pub line_at : State × List Lexeme → Option (State × List Lexeme)
line_at read = line_by (first_of read.1) read.0 read.1

-- the words `kernelserver` and `kerneluser`
abbrev pub is_side : Symbol → Bool
is_side (symbols.Word words.Side) = true
is_side _ = false

-- what follows them
unfoldable pub after_sides : List Lexeme → List Lexeme
after_sides [] = []
after_sides (token ∷ tokens) =
    if is_side (symbol_of token) then after_sides tokens else token ∷ tokens

-- the subsystem's number
abbrev pub number_by : Symbol → List Lexeme → Option (ℕ × List Lexeme)
number_by (symbols.Number n) tokens = Some (n, tail_of tokens)
number_by _ tokens = None

-- the number that comes next, and what follows it
unfoldable pub number_at : List Lexeme → Option (ℕ × List Lexeme)
number_at tokens = number_by (first_of tokens) tokens

-- `name number;`
unfoldable pub named_number_at : List Lexeme → Option ((List ℕ × ℕ) × List Lexeme)
named_number_at tokens = do
  name ← name_at tokens
  base ← number_at name.1
  rest ← after_sign signs.Semicolon base.1
  Some ((name.0, base.0), rest)

-- what begins a subsystem, by the first symbol
abbrev pub heading_by : Symbol → List Lexeme → Option ((List ℕ × ℕ) × List Lexeme)
heading_by (symbols.Word words.Subsystem) tokens = named_number_at (after_sides (tail_of tokens))
heading_by _ tokens = None

-- `subsystem` {`kernelserver` or `kerneluser`} `name number;`
unfoldable pub heading_at : List Lexeme → Option ((List ℕ × ℕ) × List Lexeme)
heading_at tokens = heading_by (first_of tokens) tokens

-- `name = type {option};`, behind `type`. The name is known after it
unfoldable pub declaration_at : State → List Lexeme → Option (State × List Lexeme)
declaration_at s tokens = do
  name ← name_at tokens
  _ ← guard (not (is_declared name.0 s.types))
  before ← after_sign signs.Equals name.1
  shape ← shape_at s.types uses.Any before
  after ← options_at shape.1
  rest ← after_sign signs.Semicolon after
  Some (record s { types = s.types ++ (name.0, shape.0) ∷ [] }, rest)

-- the row is that of a routine of this name
abbrev pub is_named : List ℕ → Row → Bool
is_named name (Routine other items) = bytes_eq other name
is_named name (SimpleRoutine other items) = bytes_eq other name
is_named name Skip = false

-- a routine has this name
abbrev pub is_routine : List ℕ → List Row → Bool
is_routine name rows = list_any (is_named name) rows

-- `name (arguments);`, behind `routine` or `simpleroutine`
unfoldable pub routine_at : Bool → State → List Lexeme → Option ((List ℕ × List Item) × List Lexeme)
routine_at is_simple s tokens = do
  name ← name_at tokens
  _ ← guard (not (is_routine name.0 s.rows))
  inside ← after_sign signs.OpenParenthesis name.1
  arguments ← arguments_at s.types is_simple inside
  closed ← after_sign signs.CloseParenthesis arguments.1
  items ← items_of arguments.0
  rest ← after_sign signs.Semicolon closed
  Some ((name.0, items), rest)

-- with one more row
abbrev pub with_row : State → Row → State
with_row s row = record s { rows = s.rows ++ row ∷ [] }

-- a statement that takes an id
abbrev pub row_by : Word → State → List Lexeme → Option (State × List Lexeme)
row_by words.Routine s tokens =
    routine_at false s tokens >>= λ r. Some (with_row s (Routine r.0.0 r.0.1), r.1)
row_by words.SimpleRoutine s tokens =
    routine_at true s tokens >>= λ r. Some (with_row s (SimpleRoutine r.0.0 r.0.1), r.1)
row_by words.Skip s tokens =
    after_sign signs.Semicolon tokens >>= λ rest. Some (with_row s Skip, rest)
row_by _ s tokens = None

-- the same, where there may be one id more
unfoldable pub row_at : Word → State → List Lexeme → Option (State × List Lexeme)
row_at word s tokens =
    guard (nat_lt (length s.rows) limit_of_first_edition_ids)
    >>= λ _. row_by word s (tail_of tokens)

-- a string or a header
abbrev pub is_imported : Symbol → Bool
is_imported symbols.Text = true
is_imported symbols.Header = true
is_imported _ = false

-- a string
abbrev pub is_text : Symbol → Bool
is_text symbols.Text = true
is_text _ = false

-- behind `import`, `uimport` and `simport`
unfoldable pub import_at : List Lexeme → Option (List Lexeme)
import_at tokens =
    guard (is_imported (first_of tokens)) >>= λ _. after_sign signs.Semicolon (tail_of tokens)

-- behind `rcsid`
unfoldable pub rcsid_at : List Lexeme → Option (List Lexeme)
rcsid_at tokens =
    guard (is_text (first_of tokens)) >>= λ _. after_sign signs.Semicolon (tail_of tokens)

-- behind `serverprefix` and `userprefix`
unfoldable pub prefix_at : List Lexeme → Option (List Lexeme)
prefix_at tokens = name_at tokens >>= λ name. after_sign signs.Semicolon name.1

-- a statement that declares nothing
abbrev pub unchanged : State → Option (List Lexeme) → Option (State × List Lexeme)
unchanged s read = read >>= λ rest. Some (s, rest)

-- a statement that begins with this word
abbrev pub worded_by : Word → State → List Lexeme → Option (State × List Lexeme)
worded_by words.Type s tokens = declaration_at s (tail_of tokens)
worded_by words.Routine s tokens = row_at words.Routine s tokens
worded_by words.SimpleRoutine s tokens = row_at words.SimpleRoutine s tokens
worded_by words.Skip s tokens = row_at words.Skip s tokens
worded_by words.Import s tokens = unchanged s (import_at (tail_of tokens))
worded_by words.Prefix s tokens = unchanged s (prefix_at (tail_of tokens))
worded_by words.Rcsid s tokens = unchanged s (rcsid_at (tail_of tokens))
worded_by _ s tokens = None

-- one statement, by its first symbol
abbrev pub statement_by : Symbol → State → List Lexeme → Option (State × List Lexeme)
statement_by (symbols.Directive line) s tokens =
    directive_by line s >>= λ next. Some (next, tail_of tokens)
statement_by (symbols.Word word) s tokens = worded_by word s tokens
statement_by _ s tokens = None

-- one statement
unfoldable pub statement_at : State × List Lexeme → Option (State × List Lexeme)
statement_at read = statement_by (first_of read.1) read.0 read.1

-- another statement follows
unfoldable pub has_more : State × List Lexeme → Bool
has_more read = not (no_tokens read.1)

-- the statements, up to the end
unfoldable pub statements_at : State → List Lexeme → Option State
statements_at s tokens = do
  read ← many has_more statement_at (length tokens) (s, tokens)
  _ ← guard (no_tokens read.1)
  Some read.0

-- the lines in front of the subsystem
unfoldable pub lines_at : State → List Lexeme → Option (State × List Lexeme)
lines_at s tokens = many begins_line line_at (length tokens) (s, tokens)

-- nothing is declared
abbrev pub nothing_declared : State
nothing_declared = record { types = []; has_table = false; rows = [] }

-- what the tokens of a file mean, where they mean anything
unfoldable pub meaning_of : List Lexeme → Option Meaning
meaning_of tokens = do
  lines ← lines_at nothing_declared tokens
  heading ← heading_at lines.1
  s ← statements_at lines.0 heading.1
  Some (record { name = heading.0.0; base = heading.0.1; rows = s.rows })
