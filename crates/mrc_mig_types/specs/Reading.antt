-- Step. Types as they are read from the front. The types of MIG files of the second edition (Server
-- Writer's Guide for MIG, and GNU MIG's own forms), read from left to right with one token of
-- lookahead; where none is read, the first token with which none goes on.
use Rattle.std.specs.Prelude.{ℕ, List, [], ◌∷◌, ◌++◌, length, Bool, true, false}
use Rattle.std.specs.Prelude.{not}
use Rattle.std.specs.Prelude.{Option, Some, None, option_map, is_some, Result, Ok, Err}
use Rattle.std.specs.Prelude.{if◌then◌else◌}
use Rattle.std.specs.Option.{ok_or}
use Rattle.mrc_base.specs.Reading.{◌>>=◌}
use Rattle.mrc_mig_lex.specs.declared.token.Sign.TheVariants as signs
use Rattle.mrc_mig_symbols.specs.declared.fault.Stop.{Stop}
use Rattle.mrc_mig_symbols.specs.declared.word.Word.TheVariants as words
use Rattle.mrc_mig_tokens.specs.declared.symbol.Symbol.{Symbol}
use Rattle.mrc_mig_tokens.specs.declared.symbol.Symbol.TheVariants as symbols
use Rattle.mrc_mig_tokens.specs.Tokens.{Token}
use Rattle.mrc_mig_tokens.specs.Reading.{first_of, text_of, tail_of, unexpected, is_sign}
use Rattle.mrc_mig_tokens.specs.Reading.{after_sign, any_name_at, many}
use Rattle.mrc_mig_tokens.specs.Sums.{sum_at}
use Rattle.mrc_mig_types.specs.declared.basics.Basic.{Basic}
use Rattle.mrc_mig_types.specs.declared.layers.Layer.{Layer}
use Rattle.mrc_mig_types.specs.declared.layers.Layer.TheVariants as layers
use Rattle.mrc_mig_types.specs.declared.meaning.Meaning.{Meaning}
use Rattle.mrc_mig_types.specs.Basics.{basic_of, polymorphic, numbered, pair_of, basic_item}
use Rattle.mrc_mig_types.specs.Basics.{given_size, is_flag_name}
use Rattle.mrc_mig_types.specs.Layout.{struct_of}
use Rattle.mrc_mig_types.specs.Meanings.{string, within}
use Rattle.mrc_mig_types.specs.Table.{Known, type_of}

-- what the first token names as a basic type: a name of one, the word `polymorphic`, or a number
abbrev pub basic_by : Symbol → List ℕ → Option Basic
basic_by (symbols.Word words.Polymorphic) bytes = Some polymorphic
basic_by (symbols.Number n) bytes = Some (numbered n)
basic_by symbols.Name bytes = basic_of bytes
basic_by _ bytes = None

-- the basic type that the first token names, where it does
unfoldable pub basic_at : List Token → Option Basic
basic_at tokens = basic_by (first_of tokens) (text_of tokens)

-- a second basic type behind a bar, where there is one
abbrev pub received_by : Bool → Basic → List Token → Result (Basic × List Token) Stop
received_by false sent tokens = Ok (sent, tokens)
received_by true sent tokens = do
  received ← ok_or (basic_at (tail_of tokens)) (unexpected (tail_of tokens))
  Ok (pair_of sent received, tail_of (tail_of tokens))

-- what follows a basic type
unfoldable pub received_at : Basic → List Token → Result (Basic × List Token) Stop
received_at sent tokens = received_by (is_sign signs.Bar (first_of tokens)) sent tokens

-- a basic type, or two with a bar between them
unfoldable pub pair_at : List Token → Result (Basic × List Token) Stop
pair_at tokens = do
  sent ← ok_or (basic_at tokens) (unexpected tokens)
  received_at sent (tail_of tokens)

-- a basic type with no size of its own
unfoldable pub plain_at : List Token → Result (Meaning × List Token) Stop
plain_at tokens = pair_at tokens >>= λ read. Ok (basic_item read.0, read.1)

-- a flag
abbrev pub flag_by : Symbol → List ℕ → Bool
flag_by (symbols.Word words.Flag) bytes = true
flag_by (symbols.Word words.Dealloc) bytes = true
flag_by symbols.Name bytes = is_flag_name bytes
flag_by _ bytes = false

-- a flag comes next
abbrev pub is_flag : List Token → Bool
is_flag tokens = flag_by (first_of tokens) (text_of tokens)

-- `[]`, where a bracket comes next
unfoldable pub brackets_at : List Token → Result (List Token) Stop
brackets_at tokens =
    if is_sign signs.OpenBracket (first_of tokens) then after_sign signs.CloseBracket
    (tail_of tokens)
    else Ok tokens

-- a comma and a flag, with brackets or without
unfoldable pub flag_at : List Token → Result (List Token) Stop
flag_at tokens = do
  flag ← after_sign signs.Comma tokens
  if is_flag flag then brackets_at (tail_of flag) else Err (unexpected flag)

-- a flag in the parentheses of a type, behind a comma
unfoldable pub begins_flag : List Token → Bool
begins_flag tokens = is_sign signs.Comma (first_of tokens)

-- flags, each behind a comma
unfoldable pub flags_at : List Token → Result (List Token) Stop
flags_at tokens = many begins_flag flag_at (length tokens) tokens

-- `basic, size flags)`
unfoldable pub sized_at : List Token → Result (Meaning × List Token) Stop
sized_at tokens = do
  basic ← pair_at tokens
  before ← after_sign signs.Comma basic.1
  size ← sum_at before
  behind ← flags_at size.1
  rest ← after_sign signs.CloseParenthesis behind
  Ok (given_size basic.0 size.0, rest)

-- `of`
abbrev pub of_by : Symbol → List Token → Result (List Token) Stop
of_by (symbols.Word words.Of) tokens = Ok (tail_of tokens)
of_by _ tokens = Err (unexpected tokens)

-- `of`, and what follows it
unfoldable pub after_of : List Token → Result (List Token) Stop
after_of tokens = of_by (first_of tokens) tokens

-- `n]`
unfoldable pub count_at : List Token → Result (Option ℕ × List Token) Stop
count_at tokens = do
  number ← sum_at tokens
  rest ← after_sign signs.CloseBracket number.1
  Ok (number.0, rest)

-- `]`, `*]`, `*:n]` or `n]`, by the first two symbols
abbrev pub dimension_by : Symbol → Symbol → List Token → Result (Layer × List Token) Stop
dimension_by (symbols.Sign signs.CloseBracket) _ tokens = Ok (layers.Open, tail_of tokens)
dimension_by (symbols.Sign signs.Star) (symbols.Sign signs.CloseBracket) tokens =
    Ok (layers.Open, tail_of (tail_of tokens))
dimension_by (symbols.Sign signs.Star) _ tokens =
    after_sign signs.Colon (tail_of tokens) >>= λ behind. count_at behind
    >>= λ number. Ok (layers.Bounded number.0, number.1)
dimension_by _ _ tokens = count_at tokens >>= λ number. Ok (layers.Array number.0, number.1)

-- the dimension of an array, from behind its bracket
unfoldable pub dimension_at : List Token → Result (Layer × List Token) Stop
dimension_at tokens = dimension_by (first_of tokens) (first_of (tail_of tokens)) tokens

-- `[..] of`, behind `array`
unfoldable pub array_at : List Token → Result (Layer × List Token) Stop
array_at tokens = do
  opened ← after_sign signs.OpenBracket tokens
  layer ← dimension_at opened
  rest ← after_of layer.1
  Ok (layer.0, rest)

-- `[n] of`, behind `struct`
unfoldable pub structure_at : List Token → Result (Layer × List Token) Stop
structure_at tokens = do
  opened ← after_sign signs.OpenBracket tokens
  number ← count_at opened
  rest ← after_of number.1
  Ok (layers.Array number.0, rest)

-- `^`, `array` or `struct[`, by the first two symbols
abbrev pub is_layer : Symbol → Symbol → Bool
is_layer (symbols.Sign signs.Caret) _ = true
is_layer (symbols.Word words.Array) _ = true
is_layer (symbols.Word words.Struct) (symbols.Sign signs.OpenBracket) = true
is_layer _ _ = false

-- an array, a struct or a pointer around a type comes next
abbrev pub begins_layer : List Token → Bool
begins_layer tokens = is_layer (first_of tokens) (first_of (tail_of tokens))

-- one of them, by the first symbol
abbrev pub layer_by : Symbol → List Token → Result (Layer × List Token) Stop
layer_by (symbols.Sign signs.Caret) tokens = Ok (layers.Pointer, tail_of tokens)
layer_by (symbols.Word words.Array) tokens = array_at (tail_of tokens)
layer_by (symbols.Word words.Struct) tokens = structure_at (tail_of tokens)
layer_by _ tokens = Err (unexpected tokens)

-- one of them
unfoldable pub layer_at : List Token → Result (Layer × List Token) Stop
layer_at tokens = layer_by (first_of tokens) tokens

-- those that were read go on with one more
abbrev pub goes_around : List Layer × List Token → Bool
goes_around read = begins_layer read.1

-- one more
abbrev pub around_at : List Layer × List Token → Result (List Layer × List Token) Stop
around_at read = layer_at read.1 >>= λ layer. Ok (read.0 ++ layer.0 ∷ [], layer.1)

-- all that stands around a type, the outermost first
unfoldable pub layers_at : List Token → Result (List Layer × List Token) Stop
layers_at tokens = many goes_around around_at (length tokens) ([], tokens)

-- `*:`, or nothing, by whether a star comes next
abbrev pub star_by : Bool → List Token → Result (Bool × List Token) Stop
star_by true tokens = after_sign signs.Colon (tail_of tokens) >>= λ rest. Ok (true, rest)
star_by false tokens = Ok (false, tokens)

-- `*:`, or nothing
unfoldable pub star_at : List Token → Result (Bool × List Token) Stop
star_at tokens = star_by (is_sign signs.Star (first_of tokens)) tokens

-- `[n]` or `[*:n]`, behind `c_string`
unfoldable pub string_at : List Token → Result (Meaning × List Token) Stop
string_at tokens = do
  opened ← after_sign signs.OpenBracket tokens
  bound ← star_at opened
  number ← count_at bound.1
  Ok (string number.0 bound.0, number.1)

-- `type name;`: the name of the type
unfoldable pub field_at : List Token → Result (List ℕ × List Token) Stop
field_at tokens = do
  type ← any_name_at tokens
  name ← any_name_at type.1
  rest ← after_sign signs.Semicolon name.1
  Ok (type.0, rest)

-- what is read of a struct: the types of its fields, and what is left
abbrev pub Read : Type 0
Read = List (Option Meaning) × List Token

-- a closing brace
abbrev pub is_close : Symbol → Bool
is_close symbols.CloseBrace = true
is_close _ = false

-- a struct goes on to its brace
unfoldable pub goes_on : Read → Bool
goes_on read = not (is_close (first_of read.1))

-- one more field
unfoldable pub more_at : Known → Read → Result Read Stop
more_at types read = do
  field ← field_at read.1
  Ok (read.0 ++ type_of types field.0 ∷ [], field.1)

-- fields, of which there is one at least
unfoldable pub each_field_at : Known → List Token → Result Read Stop
each_field_at types tokens = do
  first ← more_at types ([], tokens)
  many goes_on (more_at types) (length first.1) first

-- behind a brace that opens, and behind one that closes, by the first symbol
abbrev pub opened_by : Symbol → List Token → Result (List Token) Stop
opened_by symbols.OpenBrace tokens = Ok (tail_of tokens)
opened_by _ tokens = Err (unexpected tokens)

abbrev pub closed_by : Symbol → List Token → Result (List Token) Stop
closed_by symbols.CloseBrace tokens = Ok (tail_of tokens)
closed_by _ tokens = Err (unexpected tokens)

-- `{ fields }`, behind `struct`
unfoldable pub fields_at : Known → List Token → Result (Meaning × List Token) Stop
fields_at types tokens = do
  opened ← opened_by (first_of tokens) tokens
  read ← each_field_at types opened
  rest ← closed_by (first_of read.1) read.1
  Ok (struct_of read.0, rest)

-- a type that is known, and what follows it
abbrev pub some_read : Result (Meaning × List Token) Stop
    → Result (Option Meaning × List Token) Stop
some_read read = read >>= λ found. Ok (Some found.0, found.1)

-- a name in the place of a type: that of a basic type, or of one that the text may know
unfoldable pub named_at : Known → List Token → Result (Option Meaning × List Token) Stop
named_at types tokens =
    if is_some (basic_at tokens) then some_read (plain_at tokens)
    else Ok (type_of types (text_of tokens), tail_of tokens)

-- a type without what is around it, by the first symbol
abbrev pub item_by : Symbol → Known → List Token → Result (Option Meaning × List Token) Stop
item_by symbols.Name types tokens = named_at types tokens
item_by (symbols.Word words.Struct) types tokens = some_read (fields_at types (tail_of tokens))
item_by (symbols.Word words.CString) types tokens = some_read (string_at (tail_of tokens))
item_by (symbols.Sign signs.OpenParenthesis) types tokens = some_read (sized_at (tail_of tokens))
item_by _ types tokens = some_read (plain_at tokens)

-- a type without what is around it
unfoldable pub item_at : Known → List Token → Result (Option Meaning × List Token) Stop
item_at types tokens = item_by (first_of tokens) types tokens

-- a type: what it means, or nothing where it names one that is not known
unfoldable pub spec_at : Known → List Token → Result (Option Meaning × List Token) Stop
spec_at types tokens = do
  around ← layers_at tokens
  item ← item_at types around.1
  Ok (option_map (within around.0) item.0, item.1)
