-- Believe. Where each phrase stops that can't be read, and why. Where reading a MIG file stops that
-- is none, and why: at the first token that cannot go on a reading from left to right. Which fault
-- is told, and its place, are this profile's own choice. What a stop says of tokens that are read
-- means nothing.
use Rattle.std.specs.Prelude.{ℕ, List, [], length, Bool, true, false, not, ◌&&◌, ◌||◌, Option}
use Rattle.std.specs.Prelude.{Some, None, nat_lt, if◌then◌else◌, Result}
use Rattle.std.specs.Option.{ok_or}
use Rattle.mrc_base.specs.Limits.{limit_of_first_edition_ids}
use Rattle.mrc_mig_lex.specs.Tokens.{Lexeme}
use Rattle.mrc_mig_lex.specs.declared.token.Sign.TheVariants as signs
use Rattle.mrc_mig_symbols.specs.declared.directive.Directive.{Directive}
use Rattle.mrc_mig_symbols.specs.declared.directive.Directive.TheVariants as directives
use Rattle.mrc_mig_symbols.specs.declared.fault.Feature.TheVariants as features
use Rattle.mrc_mig_symbols.specs.declared.fault.ParseFault.{ParseFault}
use Rattle.mrc_mig_symbols.specs.declared.fault.Stop.{Stop}
use Rattle.mrc_mig_symbols.specs.declared.fault.StopReason.TheVariants as why
use Rattle.mrc_mig_symbols.specs.declared.symbol.Symbol.{Symbol}
use Rattle.mrc_mig_symbols.specs.declared.symbol.Symbol.TheVariants as symbols
use Rattle.mrc_mig_symbols.specs.declared.word.Basic.{Basic}
use Rattle.mrc_mig_symbols.specs.declared.word.Basic.TheVariants as basic
use Rattle.mrc_mig_symbols.specs.declared.word.Direction.{Direction}
use Rattle.mrc_mig_symbols.specs.declared.word.Word.{Word}
use Rattle.mrc_mig_symbols.specs.declared.word.Word.TheVariants as words
use Rattle.mrc_mig_symbols.specs.Tables.{entry_of}
use Rattle.mrc_mig_symbols.specs.Words.{basic_of}
use Rattle.mrc_mig_symbols.specs.Symbols.{stop_at, stop, unexpected, first_stop}
use Rattle.mrc_mig_symbols.specs.Symbols.{guard, many, many_stop, first_of, text_of, tail_of}
use Rattle.mrc_mig_symbols.specs.Symbols.{after_sign, name_at, name_stop}
use Rattle.mrc_mig_symbols.specs.Expressions.{expression_at}
use Rattle.mrc_mig_symbols.specs.ExpressionStops.{expression_stop}
use Rattle.mrc_mig_symbols.specs.Places.{fault_of}
use Rattle.mrc_forms.specs.declared.shape.Shape.{Shape}
use Rattle.mrc_mig_parse.specs.declared.types.Around.{Around}
use Rattle.mrc_mig_parse.specs.declared.types.Use.{Use}
use Rattle.mrc_mig_parse.specs.declared.types.Use.TheVariants as uses
use Rattle.mrc_mig_parse.specs.Types.{fits_use, nothing_around, times, dimension_at}
use Rattle.mrc_mig_parse.specs.Types.{variable_dimension_at, is_empty_brackets, begins_layer}
use Rattle.mrc_mig_parse.specs.Types.{layer_at, layers_at, flag_follows, is_bar, basic_item}
use Rattle.mrc_mig_parse.specs.Types.{size_at, declared_at, shape_at}
use Rattle.mrc_mig_parse.specs.Arguments.{begins_option, option_at, options_at, Parameter}
use Rattle.mrc_mig_parse.specs.Arguments.{is_reply_port, has_reply_port, has_name, direction_at}
use Rattle.mrc_mig_parse.specs.Arguments.{argument_name_at, use_of, argument_at, goes_on}
use Rattle.mrc_mig_parse.specs.Arguments.{next_argument, arguments_at, items_of}
use Rattle.mrc_mig_parse.specs.Files.{State, Meaning, is_declared, begins_line, line_at, lines_at}
use Rattle.mrc_mig_parse.specs.Files.{after_sides, number_at, heading_at, is_routine, is_imported}
use Rattle.mrc_mig_parse.specs.Files.{is_text, has_more, statement_at}
use Rattle.mrc_mig_parse.specs.Files.{nothing_declared, meaning_of}

-- more than there may be
abbrev pub too_many : ℕ → Stop
too_many at = stop_at why.TooMany at

-- a second one of its name
abbrev pub twice_named : ℕ → Stop
twice_named at = stop_at why.TwiceNamed at

-- `: name`
unfoldable pub c_type_stop : List Lexeme → Stop
c_type_stop tokens =
    first_stop (after_sign signs.Colon tokens) (unexpected tokens) (λ rest. name_stop rest)

-- `name ( name )`
unfoldable pub call_stop : List Lexeme → Stop
call_stop tokens =
    first_stop (name_at tokens) (name_stop tokens) (λ function.
    first_stop (after_sign signs.OpenParenthesis function.1) (unexpected function.1) (λ inside.
    first_stop (name_at inside) (name_stop inside) (λ argument. unexpected argument.1)))

-- `: name name ( name )`
unfoldable pub translation_stop : List Lexeme → Stop
translation_stop tokens =
    first_stop (after_sign signs.Colon tokens) (unexpected tokens) (λ rest.
    first_stop (name_at rest) (name_stop rest) (λ name. call_stop name.1))

-- `: name ( name )`
unfoldable pub destructor_stop : List Lexeme → Stop
destructor_stop tokens =
    first_stop (after_sign signs.Colon tokens) (unexpected tokens) (λ rest. call_stop rest)

-- an option that begins with this symbol
abbrev pub option_stop_by : Symbol → List Lexeme → Stop
option_stop_by (symbols.Word words.CType) tokens = c_type_stop (tail_of tokens)
option_stop_by (symbols.Word words.Translation) tokens = translation_stop (tail_of tokens)
option_stop_by (symbols.Word words.Destructor) tokens = destructor_stop (tail_of tokens)
option_stop_by _ tokens = unexpected tokens

-- one option
unfoldable pub option_stop : List Lexeme → Stop
option_stop tokens = option_stop_by (first_of tokens) tokens

-- a flag that is this symbol, at the first of these tokens
abbrev pub flag_at : Symbol → List Lexeme → Stop
flag_at (symbols.Word words.Flag) tokens = stop (why.LeftOut features.Option) tokens
flag_at (symbols.Word words.Dealloc) tokens = stop (why.LeftOut features.OutOfLine) tokens
flag_at _ tokens = unexpected tokens

-- a flag, behind this symbol where it is a comma
abbrev pub flag_stop_by : Symbol → List Lexeme → Stop
flag_stop_by (symbols.Sign signs.Comma) tokens =
    flag_at (first_of (tail_of tokens)) (tail_of tokens)
flag_stop_by symbol tokens = flag_at symbol tokens

-- a flag of an argument, which is left out: it stops at itself, and not at its comma
unfoldable pub flag_stop : List Lexeme → Stop
flag_stop tokens = flag_stop_by (first_of tokens) tokens

-- the options that come next
abbrev pub each_option_stop : List Lexeme → Stop
each_option_stop tokens = many_stop begins_option option_at option_stop (length tokens) tokens

-- the options behind a type, and no flag
unfoldable pub options_stop : List Lexeme → Stop
options_stop tokens =
    first_stop (many begins_option option_at (length tokens) tokens) (each_option_stop tokens)
    (λ rest. flag_stop rest)

-- a type number that no reply port can have
abbrev pub use_stop : ℕ → Stop
use_stop at = stop_at (why.LeftOut features.ReplyPort) at

-- `n]`, which stops at n where there are too many items
unfoldable pub dimension_stop : Around → List Lexeme → Stop
dimension_stop around tokens =
    first_stop (expression_at tokens) (expression_stop tokens) (λ n.
    first_stop (times around n.0) (stop why.TooMany tokens) (λ number. unexpected n.1))

-- `*:n]` or `n]`, of an array or a string whose word stands here
abbrev pub bound_stop_by : Symbol → Around → ℕ → List Lexeme → Stop
bound_stop_by (symbols.Sign signs.Star) around at tokens =
    first_stop (guard (not around.is_inside)) (stop_at (why.LeftOut features.Nested) at) (λ _.
    first_stop (after_sign signs.Colon (tail_of tokens)) (unexpected (tail_of tokens)) (λ rest.
    dimension_stop around rest))
bound_stop_by _ around at tokens = dimension_stop around tokens

-- `[*:n]` or `[n]`
unfoldable pub variable_dimension_stop : Around → ℕ → List Lexeme → Stop
variable_dimension_stop around at tokens =
    first_stop (after_sign signs.OpenBracket tokens) (unexpected tokens) (λ rest.
    bound_stop_by (first_of rest) around at rest)

-- `[*:n] of` or `[n] of`, behind `array`, which stands here; `[]` is left out
unfoldable pub array_stop : Around → ℕ → List Lexeme → Stop
array_stop around at tokens =
    if is_empty_brackets (first_of tokens) (first_of (tail_of tokens))
    then stop_at (why.LeftOut features.OutOfLine) at
    else first_stop (variable_dimension_at around tokens) (variable_dimension_stop around at tokens)
    (λ dimension. unexpected dimension.1)

-- `[n] of`, behind `struct`
unfoldable pub structure_stop : Around → List Lexeme → Stop
structure_stop around tokens =
    first_stop (after_sign signs.OpenBracket tokens) (unexpected tokens) (λ inner.
    first_stop (dimension_at around false inner) (dimension_stop around inner) (λ dimension.
    unexpected dimension.1))

-- an array or a struct, whose word is this symbol
abbrev pub layer_stop_by : Symbol → Around → List Lexeme → Stop
layer_stop_by (symbols.Word words.Array) around tokens =
    array_stop around (length tokens) (tail_of tokens)
layer_stop_by (symbols.Word words.Struct) around tokens = structure_stop around (tail_of tokens)
layer_stop_by _ around tokens = unexpected tokens

-- one array or struct around the type that follows
unfoldable pub layer_stop : Around × List Lexeme → Stop
layer_stop read = layer_stop_by (first_of read.1) read.0 read.1

-- the arrays and structs around a type
unfoldable pub layers_stop : List Lexeme → Stop
layers_stop tokens =
    many_stop begins_layer layer_at layer_stop (length tokens) (nothing_around, tokens)

-- a basic type that is left out, or does not fit the use
abbrev pub basic_item_stop : Basic → ℕ → Stop
basic_item_stop (basic.Plain name size) at = use_stop at
basic_item_stop (basic.Unsized name) at = use_stop at
basic_item_stop basic.Polymorphic at = stop_at (why.LeftOut features.Polymorphic) at
basic_item_stop basic.Real at = stop_at (why.LeftOut features.Real) at

-- an expression and its value, which stops at the expression where no type has that size
unfoldable pub size_stop : List Lexeme → Stop
size_stop tokens =
    first_stop (expression_at tokens) (expression_stop tokens) (λ size. unexpected tokens)

-- a basic type in parentheses, where the word for any type stands for one that is left out
abbrev pub sized_basic : Symbol → List Lexeme → Option Basic
sized_basic symbols.Name tokens = basic_of (text_of tokens)
sized_basic (symbols.Word words.Polymorphic) tokens = Some basic.Polymorphic
sized_basic _ tokens = None

-- `|`, which makes a pair
abbrev pub pair_stop : List Lexeme → Stop
pair_stop tokens = stop (why.LeftOut features.Pair) tokens

-- `, size)`, behind the name of a basic type of this number
unfoldable pub size_part_stop : ℕ → List Lexeme → Stop
size_part_stop number tokens =
    first_stop (after_sign signs.Comma tokens) (unexpected tokens) (λ before.
    first_stop (size_at number before) (size_stop before) (λ size.
    first_stop (guard (not (flag_follows size.1))) (flag_stop size.1) (λ _. unexpected size.1)))

-- `name, size)`
unfoldable pub sized_stop : Use → List Lexeme → Stop
sized_stop wanted tokens =
    first_stop (sized_basic (first_of tokens) tokens) (unexpected tokens) (λ type.
    first_stop (basic_item type wanted) (basic_item_stop type (length tokens)) (λ item.
    first_stop (guard (not (is_bar (first_of (tail_of tokens))))) (pair_stop (tail_of tokens))
    (λ _. size_part_stop item.0 (tail_of tokens))))

-- a basic type by its name alone
abbrev pub plain_stop : Basic → Use → List Lexeme → Stop
plain_stop (basic.Unsized name) wanted tokens = unexpected tokens
plain_stop (basic.Plain name size) wanted tokens =
    first_stop (guard (fits_use wanted name)) (use_stop (length tokens))
    (λ _. pair_stop (tail_of tokens))
plain_stop basic.Polymorphic wanted tokens = stop (why.LeftOut features.Polymorphic) tokens
plain_stop basic.Real wanted tokens = stop (why.LeftOut features.Real) tokens

-- the name of a declared type
unfoldable pub declared_stop : List (List ℕ × Shape) → List Lexeme → Stop
declared_stop types tokens =
    first_stop (entry_of types (text_of tokens)) (stop why.UnknownType tokens)
    (λ shape. use_stop (length tokens))

-- a declared type with what is around it
unfoldable pub nested_stop : Around → Shape → ℕ → Stop
nested_stop around shape at =
    if around.is_inside && shape.is_bound then stop_at (why.LeftOut features.Nested) at
    else stop_at why.TooMany at

-- a name in the place of a type, which is the name of this basic type or of a declared one
abbrev pub named_stop_by : Option Basic → List (List ℕ × Shape) → Around → Use → List Lexeme → Stop
named_stop_by (Some name) types around wanted tokens = plain_stop name wanted tokens
named_stop_by None types around wanted tokens =
    first_stop (declared_at types wanted tokens) (declared_stop types tokens)
    (λ found. nested_stop around found.0 (length tokens))

-- a name in the place of a type
unfoldable pub named_stop : List (List ℕ × Shape) → Around → Use → List Lexeme → Stop
named_stop types around wanted tokens =
    named_stop_by (basic_of (text_of tokens)) types around wanted tokens

-- a string, behind `c_string`, which stands here
unfoldable pub string_stop : Around → Use → ℕ → List Lexeme → Stop
string_stop around wanted at tokens =
    first_stop (guard (fits_use wanted 12)) (use_stop at)
    (λ _. variable_dimension_stop around at tokens)

-- what stands inside arrays and structs, by the first symbol
abbrev pub shape_stop_by : Symbol → List (List ℕ × Shape) → Around → Use → List Lexeme → Stop
shape_stop_by symbols.Name types around wanted tokens = named_stop types around wanted tokens
shape_stop_by (symbols.Word words.CString) types around wanted tokens =
    string_stop around wanted (length tokens) (tail_of tokens)
shape_stop_by (symbols.Sign signs.OpenParenthesis) types around wanted tokens =
    sized_stop wanted (tail_of tokens)
shape_stop_by (symbols.Word words.Polymorphic) types around wanted tokens =
    stop (why.LeftOut features.Polymorphic) tokens
shape_stop_by (symbols.Sign signs.Caret) types around wanted tokens =
    stop (why.LeftOut features.OutOfLine) tokens
shape_stop_by _ types around wanted tokens = unexpected tokens

-- a type, with the arrays and structs around it
unfoldable pub shape_stop : List (List ℕ × Shape) → Use → List Lexeme → Stop
shape_stop types wanted tokens =
    first_stop (layers_at tokens) (layers_stop tokens)
    (λ around. shape_stop_by (first_of around.1) types around.0 wanted around.1)

-- the word in front of an argument: a reply port where none may be, or one argument too many
abbrev pub direction_stop_by : Symbol → List Parameter → Bool → List Lexeme → Stop
direction_stop_by (symbols.Word (words.Direction direction)) seen is_simple tokens =
    if is_reply_port (Some direction) && (is_simple || has_reply_port seen)
    then stop (why.LeftOut features.ReplyPort) tokens
    else stop why.TooMany tokens
direction_stop_by _ seen is_simple tokens = unexpected tokens

unfoldable pub direction_stop : List Parameter → Bool → List Lexeme → Stop
direction_stop seen is_simple tokens = direction_stop_by (first_of tokens) seen is_simple tokens

-- the words of options of routines stand where an argument with no word in front may
abbrev pub is_routine_option : Option Direction → Symbol → Bool
is_routine_option None (symbols.Word words.Wait) = true
is_routine_option None (symbols.Word words.PortOption) = true
is_routine_option _ _ = false

-- an argument's name, behind this word: an argument has it, or there is one argument too many
unfoldable pub argument_name_stop : List Parameter → Option Direction → List Lexeme → Stop
argument_name_stop seen direction tokens =
    if is_routine_option direction (first_of tokens)
    then stop (why.LeftOut features.Option) tokens
    else first_stop (name_at tokens) (name_stop tokens) (λ name.
    if has_name name.0 seen then stop why.TwiceNamed tokens else stop why.TooMany tokens)

-- a declared type
unfoldable pub known_type_stop : List (List ℕ × Shape) → Use → List Lexeme → Stop
known_type_stop types wanted tokens =
    first_stop (declared_at types wanted tokens) (declared_stop types tokens)
    (λ found. flag_stop found.1)

-- a name, the sign behind it, the type that it is, and options
unfoldable pub own_type_stop : List (List ℕ × Shape) → Use → List Lexeme → Stop
own_type_stop types wanted tokens =
    first_stop (name_at tokens) (name_stop tokens) (λ name.
    first_stop (shape_at types wanted (tail_of name.1)) (shape_stop types wanted (tail_of name.1))
    (λ shape. options_stop shape.1))

-- an argument's type, by its first two symbols
abbrev pub type_stop_by : Symbol → Symbol → List (List ℕ × Shape) → Use → List Lexeme → Stop
type_stop_by symbols.Name (symbols.Sign signs.Equals) types wanted tokens =
    own_type_stop types wanted tokens
type_stop_by symbols.Name _ types wanted tokens = known_type_stop types wanted tokens
type_stop_by (symbols.Word words.Polymorphic) _ types wanted tokens =
    stop (why.LeftOut features.Polymorphic) tokens
type_stop_by _ _ types wanted tokens = unexpected tokens

unfoldable pub argument_type_stop : List (List ℕ × Shape) → Use → List Lexeme → Stop
argument_type_stop types wanted tokens =
    type_stop_by (first_of tokens) (first_of (tail_of tokens)) types wanted tokens

-- one argument, behind those that were seen
unfoldable pub argument_stop : List (List ℕ × Shape) → Bool → List Parameter → List Lexeme → Stop
argument_stop types is_simple seen tokens =
    first_stop (direction_at seen is_simple tokens) (direction_stop seen is_simple tokens)
    (λ direction.
    first_stop (argument_name_at seen direction.1)
    (argument_name_stop seen direction.0 direction.1) (λ name.
    first_stop (after_sign signs.Colon name.1) (unexpected name.1) (λ rest.
    argument_type_stop types (use_of direction.0) rest)))

-- `;` and an argument
unfoldable pub next_argument_stop : List (List ℕ × Shape) → Bool → List Parameter × List Lexeme
    → Stop
next_argument_stop types is_simple read = argument_stop types is_simple read.0 (tail_of read.1)

-- the arguments behind these
abbrev pub more_arguments_stop : List (List ℕ × Shape) → Bool → List Parameter → List Lexeme → Stop
more_arguments_stop types is_simple seen tokens =
    many_stop goes_on (next_argument types is_simple) (next_argument_stop types is_simple)
    (length tokens) (seen, tokens)

-- the first argument and those behind it
unfoldable pub arguments_stop : List (List ℕ × Shape) → Bool → List Lexeme → Stop
arguments_stop types is_simple tokens =
    first_stop (argument_at types is_simple [] tokens) (argument_stop types is_simple [] tokens)
    (λ first. more_arguments_stop types is_simple first.0 first.1)

-- a line of the preprocessor, which stands here: one that is left out, or the table of the include
-- line after types of its names
abbrev pub directive_stop : Directive → ℕ → Stop
directive_stop directives.Other at = stop_at (why.LeftOut features.Preprocessor) at
directive_stop _ at = stop_at why.TwiceNamed at

-- a line of the preprocessor
abbrev pub line_stop_by : Symbol → List Lexeme → Stop
line_stop_by (symbols.Directive line) tokens = directive_stop line (length tokens)
line_stop_by _ tokens = unexpected tokens

unfoldable pub line_stop : State × List Lexeme → Stop
line_stop read = line_stop_by (first_of read.1) read.1

-- the lines in front of the subsystem
unfoldable pub lines_stop : State → List Lexeme → Stop
lines_stop s tokens = many_stop begins_line line_at line_stop (length tokens) (s, tokens)

-- `name number;`
unfoldable pub named_number_stop : List Lexeme → Stop
named_number_stop tokens =
    first_stop (name_at tokens) (name_stop tokens) (λ name.
    first_stop (number_at name.1) (unexpected name.1) (λ base. unexpected base.1))

-- what begins a subsystem, by the first symbol
abbrev pub heading_stop_by : Symbol → List Lexeme → Stop
heading_stop_by (symbols.Word words.Subsystem) tokens =
    named_number_stop (after_sides (tail_of tokens))
heading_stop_by _ tokens = unexpected tokens

unfoldable pub heading_stop : List Lexeme → Stop
heading_stop tokens = heading_stop_by (first_of tokens) tokens

-- `name = type {option};`, behind `type`
unfoldable pub declaration_stop : State → List Lexeme → Stop
declaration_stop s tokens =
    first_stop (name_at tokens) (name_stop tokens) (λ name.
    first_stop (guard (not (is_declared name.0 s.types))) (stop why.TwiceNamed tokens) (λ _.
    first_stop (after_sign signs.Equals name.1) (unexpected name.1) (λ before.
    first_stop (shape_at s.types uses.Any before) (shape_stop s.types uses.Any before) (λ shape.
    first_stop (options_at shape.1) (options_stop shape.1) (λ after. unexpected after)))))

-- `);` behind arguments, which stops at the parenthesis where they have no request port
unfoldable pub closing_stop : List Parameter → List Lexeme → Stop
closing_stop seen tokens =
    first_stop (after_sign signs.CloseParenthesis tokens) (unexpected tokens) (λ closed.
    first_stop (items_of seen) (stop why.NoRequestPort tokens) (λ items. unexpected closed))

-- `name (arguments);`, behind `routine` or `simpleroutine`
unfoldable pub routine_stop : Bool → State → List Lexeme → Stop
routine_stop is_simple s tokens =
    first_stop (name_at tokens) (name_stop tokens) (λ name.
    first_stop (guard (not (is_routine name.0 s.rows))) (stop why.TwiceNamed tokens) (λ _.
    first_stop (after_sign signs.OpenParenthesis name.1) (unexpected name.1) (λ inside.
    first_stop (arguments_at s.types is_simple inside) (arguments_stop s.types is_simple inside)
    (λ arguments. closing_stop arguments.0 arguments.1))))

-- a statement that takes an id, behind its word
abbrev pub row_stop_by : Word → State → List Lexeme → Stop
row_stop_by words.Routine s tokens = routine_stop false s tokens
row_stop_by words.SimpleRoutine s tokens = routine_stop true s tokens
row_stop_by _ s tokens = unexpected tokens

-- the same, which stops at its word where there may be no id more
unfoldable pub row_stop : Word → State → List Lexeme → Stop
row_stop word s tokens =
    first_stop (guard (nat_lt (length s.rows) limit_of_first_edition_ids)) (stop why.TooMany tokens)
    (λ _. row_stop_by word s (tail_of tokens))

-- behind `import`, `uimport` and `simport`
unfoldable pub import_stop : List Lexeme → Stop
import_stop tokens =
    first_stop (guard (is_imported (first_of tokens))) (unexpected tokens)
    (λ _. unexpected (tail_of tokens))

-- behind `rcsid`
unfoldable pub rcsid_stop : List Lexeme → Stop
rcsid_stop tokens =
    first_stop (guard (is_text (first_of tokens))) (unexpected tokens)
    (λ _. unexpected (tail_of tokens))

-- behind `serverprefix` and `userprefix`
unfoldable pub prefix_stop : List Lexeme → Stop
prefix_stop tokens =
    first_stop (name_at tokens) (name_stop tokens) (λ name. unexpected name.1)

-- a statement that begins with this word
abbrev pub worded_stop : Word → State → List Lexeme → Stop
worded_stop words.Type s tokens = declaration_stop s (tail_of tokens)
worded_stop words.Routine s tokens = row_stop words.Routine s tokens
worded_stop words.SimpleRoutine s tokens = row_stop words.SimpleRoutine s tokens
worded_stop words.Skip s tokens = row_stop words.Skip s tokens
worded_stop words.Import s tokens = import_stop (tail_of tokens)
worded_stop words.Prefix s tokens = prefix_stop (tail_of tokens)
worded_stop words.Rcsid s tokens = rcsid_stop (tail_of tokens)
worded_stop words.OldForm s tokens = stop (why.LeftOut features.OldForm) tokens
worded_stop words.Wait s tokens = stop (why.LeftOut features.Option) tokens
worded_stop _ s tokens = unexpected tokens

-- one statement, by its first symbol
abbrev pub statement_stop_by : Symbol → State → List Lexeme → Stop
statement_stop_by (symbols.Directive line) s tokens = directive_stop line (length tokens)
statement_stop_by (symbols.Word word) s tokens = worded_stop word s tokens
statement_stop_by _ s tokens = unexpected tokens

unfoldable pub statement_stop : State × List Lexeme → Stop
statement_stop read = statement_stop_by (first_of read.1) read.0 read.1

-- the statements, as many as there are
abbrev pub each_statement_stop : State → List Lexeme → Stop
each_statement_stop s tokens =
    many_stop has_more statement_at statement_stop (length tokens) (s, tokens)

-- the statements, up to the end
unfoldable pub statements_stop : State → List Lexeme → Stop
statements_stop s tokens =
    first_stop (many has_more statement_at (length tokens) (s, tokens))
    (each_statement_stop s tokens) (λ read. unexpected read.1)

-- a whole file
unfoldable pub file_stop : List Lexeme → Stop
file_stop tokens =
    first_stop (lines_at nothing_declared tokens) (lines_stop nothing_declared tokens) (λ lines.
    first_stop (heading_at lines.1) (heading_stop lines.1) (λ heading.
    statements_stop lines.0 heading.1))

-- what the tokens of a file mean, or else the first fault
unfoldable pub meaning_or_fault : List Lexeme → Result Meaning ParseFault
meaning_or_fault tokens = ok_or (meaning_of tokens) (fault_of tokens (file_stop tokens))
