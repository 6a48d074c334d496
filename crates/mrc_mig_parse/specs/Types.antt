-- Believe. Only what `Grammar` cites: types. The types of a MIG file, as the Server Writer's Guide
-- for MIG has them. Which of them are read, and the bounds of counts and sizes, are this profile's
-- own choice.
use Rattle.std.specs.Prelude.{ℕ, ◌*◌, List, length, Bool, true, false, not, ◌&&◌, ◌||◌, Option}
use Rattle.std.specs.Prelude.{Some, None, nat_le, ◌==◌, if◌then◌else◌}
use Rattle.mrc_base.specs.declared.Disp.TheVariants.{MoveSendOnce, MakeSendOnce}
use Rattle.mrc_base.specs.Disposition.{disp_number}
use Rattle.mrc_base.specs.Limits.{limit_of_items}
use Rattle.mrc_mig_lex.specs.Tokens.{Lexeme}
use Rattle.mrc_mig_lex.specs.declared.token.Sign.TheVariants as signs
use Rattle.mrc_forms.specs.Shapes.{size_fits}
use Rattle.mrc_forms.specs.declared.shape.Shape.{Shape}
use Rattle.mrc_mig_symbols.specs.declared.symbol.Symbol.{Symbol}
use Rattle.mrc_mig_symbols.specs.declared.symbol.Symbol.TheVariants as symbols
use Rattle.mrc_mig_parse.specs.declared.types.Around.{Around}
use Rattle.mrc_mig_parse.specs.declared.types.Use.{Use}
use Rattle.mrc_mig_parse.specs.declared.types.Use.TheVariants as uses
use Rattle.mrc_mig_symbols.specs.declared.word.Basic.{Basic}
use Rattle.mrc_mig_symbols.specs.declared.word.Basic.TheVariants as basic
use Rattle.mrc_mig_symbols.specs.declared.word.Word.TheVariants as words
use Rattle.mrc_mig_symbols.specs.Tables.{entry_of}
use Rattle.mrc_mig_symbols.specs.Words.{basic_of}
use Rattle.mrc_mig_symbols.specs.Symbols.{◌>>=◌, guard, many, first_of, text_of, tail_of}
use Rattle.mrc_mig_symbols.specs.Symbols.{after_sign}
use Rattle.mrc_mig_symbols.specs.Expressions.{expression_at}

-- a reply port is a send-once right that is moved or made
abbrev pub fits_use : Use → ℕ → Bool
fits_use uses.Any name = true
fits_use uses.ReplyPort name = name == disp_number MoveSendOnce || name == disp_number MakeSendOnce

-- what is around a type at first
abbrev pub nothing_around : Around
nothing_around = record { is_inside = false; number = 1; is_bound = false }

-- that many items of each one around, if there is one at least and they are no more than may be
unfoldable pub times : Around → ℕ → Option ℕ
times around n =
    if around.number * n == 0 then None
    else if nat_le (around.number * n) limit_of_items then Some (around.number * n)
    else None

-- `n]`
unfoldable pub dimension_at : Around → Bool → List Lexeme → Option (Around × List Lexeme)
dimension_at around is_bound tokens = do
  n ← expression_at tokens
  number ← times around n.0
  rest ← after_sign signs.CloseBracket n.1
  Some (record { is_inside = true; number = number; is_bound = around.is_bound || is_bound }, rest)

-- `*:n]`, which stands inside nothing else, or `n]`
abbrev pub bound_by : Symbol → Around → List Lexeme → Option (Around × List Lexeme)
bound_by (symbols.Sign signs.Star) around tokens =
    guard (not around.is_inside) >>= λ _. after_sign signs.Colon (tail_of tokens)
    >>= λ rest. dimension_at around true rest
bound_by _ around tokens = dimension_at around false tokens

-- `[*:n]` or `[n]`
unfoldable pub variable_dimension_at : Around → List Lexeme → Option (Around × List Lexeme)
variable_dimension_at around tokens = do
  rest ← after_sign signs.OpenBracket tokens
  bound_by (first_of rest) around rest

-- `of`
abbrev pub of_by : Symbol → List Lexeme → Option (List Lexeme)
of_by (symbols.Word words.Of) tokens = Some (tail_of tokens)
of_by _ tokens = None

-- `of`, and what follows it
unfoldable pub after_of : List Lexeme → Option (List Lexeme)
after_of tokens = of_by (first_of tokens) tokens

-- `[]`, which is left out
abbrev pub is_empty_brackets : Symbol → Symbol → Bool
is_empty_brackets (symbols.Sign signs.OpenBracket) (symbols.Sign signs.CloseBracket) = true
is_empty_brackets _ _ = false

-- `[*:n] of` or `[n] of`, behind `array`
unfoldable pub array_at : Around → List Lexeme → Option (Around × List Lexeme)
array_at around tokens = do
  dimension ← variable_dimension_at around tokens
  rest ← after_of dimension.1
  Some (dimension.0, rest)

-- `[n] of`, behind `struct`
unfoldable pub structure_at : Around → List Lexeme → Option (Around × List Lexeme)
structure_at around tokens = do
  inner ← after_sign signs.OpenBracket tokens
  dimension ← dimension_at around false inner
  rest ← after_of dimension.1
  Some (dimension.0, rest)

-- the words that stand before `of`
abbrev pub is_layer : Symbol → Bool
is_layer (symbols.Word words.Array) = true
is_layer (symbols.Word words.Struct) = true
is_layer _ = false

-- an array or a struct, whose word is this symbol
abbrev pub layer_by : Symbol → Around → List Lexeme → Option (Around × List Lexeme)
layer_by (symbols.Word words.Array) around tokens = array_at around (tail_of tokens)
layer_by (symbols.Word words.Struct) around tokens = structure_at around (tail_of tokens)
layer_by _ around tokens = None

-- one array or struct around the type that follows
unfoldable pub layer_at : Around × List Lexeme → Option (Around × List Lexeme)
layer_at read = layer_by (first_of read.1) read.0 read.1

-- an array or a struct comes next
unfoldable pub begins_layer : Around × List Lexeme → Bool
begins_layer read = is_layer (first_of read.1)

-- the arrays and structs around a type
unfoldable pub layers_at : List Lexeme → Option (Around × List Lexeme)
layers_at tokens = many begins_layer layer_at (length tokens) (nothing_around, tokens)

-- one item of this type number and size for each one around
abbrev pub items : Around → ℕ → ℕ → Shape
items around name size =
    record { name = name; size = size; number = around.number; is_bound = around.is_bound }

-- a flag of an argument
abbrev pub is_flag : Symbol → Bool
is_flag (symbols.Word words.Flag) = true
is_flag (symbols.Word words.Dealloc) = true
is_flag _ = false

-- a flag comes next, behind this symbol where it is a comma
abbrev pub flag_by : Symbol → List Lexeme → Bool
flag_by (symbols.Sign signs.Comma) tokens = is_flag (first_of (tail_of tokens))
flag_by symbol tokens = is_flag symbol

-- a flag comes next, with a comma before it or none
unfoldable pub flag_follows : List Lexeme → Bool
flag_follows tokens = flag_by (first_of tokens) tokens

-- `|`, which makes a pair
abbrev pub is_bar : Symbol → Bool
is_bar (symbols.Sign signs.Bar) = true
is_bar _ = false

-- the type number of a basic type that fits the use, and the bits of its items, or 0 where it has
-- no size
abbrev pub basic_item : Basic → Use → Option (ℕ × ℕ)
basic_item (basic.Plain name size) wanted = guard (fits_use wanted name) >>= λ _. Some (name, size)
basic_item (basic.Unsized name) wanted = guard (fits_use wanted name) >>= λ _. Some (name, 0)
basic_item basic.Polymorphic wanted = None
basic_item basic.Real wanted = None

-- the bits of an item of a type of this number
unfoldable pub size_at : ℕ → List Lexeme → Option (ℕ × List Lexeme)
size_at name tokens = do
  size ← expression_at tokens
  if size_fits name size.0 then Some size else None

-- a name of a basic type
abbrev pub basic_by : Symbol → List Lexeme → Option Basic
basic_by symbols.Name tokens = basic_of (text_of tokens)
basic_by _ tokens = None

-- the basic type that the first token names
unfoldable pub basic_at : List Lexeme → Option Basic
basic_at tokens = basic_by (first_of tokens) tokens

-- `name, size)`
unfoldable pub sized_at : Use → List Lexeme → Option ((ℕ × ℕ) × List Lexeme)
sized_at wanted tokens = do
  type ← basic_at tokens
  item ← basic_item type wanted
  _ ← guard (not (is_bar (first_of (tail_of tokens))))
  before ← after_sign signs.Comma (tail_of tokens)
  size ← size_at item.0 before
  _ ← guard (not (flag_follows size.1))
  rest ← after_sign signs.CloseParenthesis size.1
  Some ((item.0, size.0), rest)

-- a basic type by its name alone: one that has a size, and no pair
abbrev pub plain_by : Basic → Around → Use → List Lexeme → Option (Shape × List Lexeme)
plain_by (basic.Plain name size) around wanted tokens =
    guard (fits_use wanted name) >>= λ _.
    guard (not (is_bar (first_of (tail_of tokens)))) >>= λ _.
    Some (items around name size, tail_of tokens)
plain_by _ around wanted tokens = None

-- a type that was found among the declared ones, if it fits the use
abbrev pub declared_by : Option Shape → Use → List Lexeme → Option (Shape × List Lexeme)
declared_by None wanted tokens = None
declared_by (Some shape) wanted tokens =
    guard (fits_use wanted shape.name) >>= λ _. Some (shape, tail_of tokens)

-- the name of a declared type
unfoldable pub declared_at : List (List ℕ × Shape) → Use → List Lexeme
    → Option (Shape × List Lexeme)
declared_at types wanted tokens = declared_by (entry_of types (text_of tokens)) wanted tokens

-- a declared type with what is around it: one of variable length stands inside nothing
unfoldable pub nested : Around → Shape → Option Shape
nested around shape = do
  _ ← guard (not (around.is_inside && shape.is_bound))
  number ← times around shape.number
  Some (record shape { number = number; is_bound = around.is_bound || shape.is_bound })

-- a name in the place of a type, which is the name of this basic type or of a declared one
abbrev pub named_by : Option Basic → List (List ℕ × Shape) → Around → Use → List Lexeme
    → Option (Shape × List Lexeme)
named_by (Some name) types around wanted tokens = plain_by name around wanted tokens
named_by None types around wanted tokens =
    declared_at types wanted tokens >>= λ found. nested around found.0
    >>= λ shape. Some (shape, found.1)

-- a name in the place of a type
unfoldable pub named_at : List (List ℕ × Shape) → Around → Use → List Lexeme
    → Option (Shape × List Lexeme)
named_at types around wanted tokens =
    named_by (basic_of (text_of tokens)) types around wanted tokens

-- a string, behind `c_string`
unfoldable pub string_at : Around → Use → List Lexeme → Option (Shape × List Lexeme)
string_at around wanted tokens = do
  _ ← guard (fits_use wanted 12)
  dimension ← variable_dimension_at around tokens
  Some (items dimension.0 12 8, dimension.1)

-- what stands inside arrays and structs, by the first symbol
abbrev pub shape_by : Symbol → List (List ℕ × Shape) → Around → Use → List Lexeme
    → Option (Shape × List Lexeme)
shape_by symbols.Name types around wanted tokens = named_at types around wanted tokens
shape_by (symbols.Word words.CString) types around wanted tokens =
    string_at around wanted (tail_of tokens)
shape_by (symbols.Sign signs.OpenParenthesis) types around wanted tokens =
    sized_at wanted (tail_of tokens) >>= λ sized. Some (items around sized.0.0 sized.0.1, sized.1)
shape_by _ types around wanted tokens = None

-- a type, with the arrays and structs around it
unfoldable pub shape_at : List (List ℕ × Shape) → Use → List Lexeme → Option (Shape × List Lexeme)
shape_at types wanted tokens = do
  around ← layers_at tokens
  shape_by (first_of around.1) types around.0 wanted around.1
