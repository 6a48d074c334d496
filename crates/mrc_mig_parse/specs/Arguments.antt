-- Believe. Only what `Grammar` cites: arguments. The options of types and the arguments of
-- routines, as the Server Writer's Guide for MIG has them. Which of them are read, and which
-- argument is the request port, are this profile's own choice.
use Rattle.std.specs.Prelude.{ℕ, List, [], ◌∷◌, ◌++◌, length, map, count_by, Bool, true, false, not}
use Rattle.std.specs.Prelude.{◌&&◌, ◌||◌, Option, Some, None, unwrap_or, nat_lt, ◌==◌}
use Rattle.std.specs.Prelude.{if◌then◌else◌}
use Rattle.std.specs.List.{list_any, list_all}
use Rattle.std.specs.Str.{bytes_eq}
use Rattle.mrc_base.specs.Disposition.{is_port_number}
use Rattle.mrc_base.specs.Limits.{limit_of_arguments}
use Rattle.mrc_mig_lex.specs.Tokens.{Lexeme}
use Rattle.mrc_mig_lex.specs.declared.token.Sign.TheVariants as signs
use Rattle.mrc_mig_symbols.specs.declared.word.Direction.{Direction}
use Rattle.mrc_mig_symbols.specs.declared.word.Direction.TheVariants as directions
use Rattle.mrc_forms.specs.declared.shape.Shape.{Shape}
use Rattle.mrc_mig_symbols.specs.declared.symbol.Symbol.{Symbol}
use Rattle.mrc_mig_symbols.specs.declared.symbol.Symbol.TheVariants as symbols
use Rattle.mrc_mig_parse.specs.declared.types.Use.{Use}
use Rattle.mrc_mig_parse.specs.declared.types.Use.TheVariants as uses
use Rattle.mrc_mig_symbols.specs.declared.word.Word.TheVariants as words
use Rattle.mrc_mig_symbols.specs.Symbols.{◌>>=◌, guard, many, first_of, text_of, tail_of}
use Rattle.mrc_mig_symbols.specs.Symbols.{after_sign, name_at}
use Rattle.mrc_mig_parse.specs.Types.{flag_follows, declared_at, shape_at}

-- `: name`, behind `ctype` and its kin
unfoldable pub c_type_at : List Lexeme → Option (List Lexeme)
c_type_at tokens = do
  rest ← after_sign signs.Colon tokens
  name ← name_at rest
  Some name.1

-- `name ( name )`
unfoldable pub call_at : List Lexeme → Option (List Lexeme)
call_at tokens = do
  function ← name_at tokens
  inside ← after_sign signs.OpenParenthesis function.1
  argument ← name_at inside
  after_sign signs.CloseParenthesis argument.1

-- `: name name ( name )`, behind `intran` and `outtran`
unfoldable pub translation_at : List Lexeme → Option (List Lexeme)
translation_at tokens = do
  rest ← after_sign signs.Colon tokens
  name ← name_at rest
  call_at name.1

-- `: name ( name )`, behind `destructor`
unfoldable pub destructor_at : List Lexeme → Option (List Lexeme)
destructor_at tokens = do
  rest ← after_sign signs.Colon tokens
  call_at rest

-- the words of options
abbrev pub is_option : Symbol → Bool
is_option (symbols.Word words.CType) = true
is_option (symbols.Word words.Translation) = true
is_option (symbols.Word words.Destructor) = true
is_option _ = false

-- an option that begins with this symbol
abbrev pub option_by : Symbol → List Lexeme → Option (List Lexeme)
option_by (symbols.Word words.CType) tokens = c_type_at (tail_of tokens)
option_by (symbols.Word words.Translation) tokens = translation_at (tail_of tokens)
option_by (symbols.Word words.Destructor) tokens = destructor_at (tail_of tokens)
option_by _ tokens = None

-- one option
unfoldable pub option_at : List Lexeme → Option (List Lexeme)
option_at tokens = option_by (first_of tokens) tokens

-- an option comes next
unfoldable pub begins_option : List Lexeme → Bool
begins_option tokens = is_option (first_of tokens)

-- the options behind a type, and no flag
unfoldable pub options_at : List Lexeme → Option (List Lexeme)
options_at tokens = do
  rest ← many begins_option option_at (length tokens) tokens
  _ ← guard (not (flag_follows rest))
  Some rest

-- an argument as it is written
pub record Parameter : Type 0 where
  pub name : List ℕ
  pub direction : Option Direction
  pub shape : Shape
  pub type_name : List ℕ

-- the word `replyport`
abbrev pub is_reply_port : Option Direction → Bool
is_reply_port (Some directions.ReplyPort) = true
is_reply_port _ = false

-- the word `requestport`
abbrev pub is_request_port : Option Direction → Bool
is_request_port (Some directions.RequestPort) = true
is_request_port _ = false

-- an argument is a reply port
abbrev pub has_reply_port : List Parameter → Bool
has_reply_port seen = list_any (λ p. is_reply_port p.direction) seen

-- an argument has this name
abbrev pub has_name : List ℕ → List Parameter → Bool
has_name name seen = list_any (λ p. bytes_eq p.name name) seen

-- the word in front of an argument, of which there are not too many: one reply port at most in a
-- routine, and none in a simpleroutine
abbrev pub direction_by : Symbol → List Parameter → Bool → List Lexeme
    → Option (Option Direction × List Lexeme)
direction_by (symbols.Word (words.Direction direction)) seen is_simple tokens =
    guard (not (is_reply_port (Some direction) && (is_simple || has_reply_port seen))) >>= λ _.
    guard (nat_lt (length seen) limit_of_arguments) >>= λ _. Some (Some direction, tail_of tokens)
direction_by _ seen is_simple tokens = Some (None, tokens)

-- the word in front of an argument, if there is one
unfoldable pub direction_at : List Parameter → Bool → List Lexeme
    → Option (Option Direction × List Lexeme)
direction_at seen is_simple tokens = direction_by (first_of tokens) seen is_simple tokens

-- an argument's name, which no argument before it has, where there may be one argument more
unfoldable pub argument_name_at : List Parameter → List Lexeme → Option (List ℕ × List Lexeme)
argument_name_at seen tokens = do
  name ← name_at tokens
  _ ← guard (not (has_name name.0 seen))
  _ ← guard (nat_lt (length seen) limit_of_arguments)
  Some name

-- a declared type
unfoldable pub known_type_at : List (List ℕ × Shape) → Use → List Lexeme
    → Option ((List ℕ × Shape) × List Lexeme)
known_type_at types wanted tokens = do
  found ← declared_at types wanted tokens
  _ ← guard (not (flag_follows found.1))
  Some ((text_of tokens, found.0), found.1)

-- a name, the sign behind it, the type that it is, and options
unfoldable pub own_type_at : List (List ℕ × Shape) → Use → List Lexeme
    → Option ((List ℕ × Shape) × List Lexeme)
own_type_at types wanted tokens = do
  name ← name_at tokens
  found ← shape_at types wanted (tail_of name.1)
  rest ← options_at found.1
  Some ((name.0, found.0), rest)

-- an argument's type, by the first two symbols
abbrev pub type_by : Symbol → Symbol → List (List ℕ × Shape) → Use → List Lexeme
    → Option ((List ℕ × Shape) × List Lexeme)
type_by symbols.Name (symbols.Sign signs.Equals) types wanted tokens =
    own_type_at types wanted tokens
type_by symbols.Name _ types wanted tokens = known_type_at types wanted tokens
type_by _ _ types wanted tokens = None

-- an argument's type, by its name
unfoldable pub argument_type_at : List (List ℕ × Shape) → Use → List Lexeme
    → Option ((List ℕ × Shape) × List Lexeme)
argument_type_at types wanted tokens =
    type_by (first_of tokens) (first_of (tail_of tokens)) types wanted tokens

-- what an argument's type is for
abbrev pub use_of : Option Direction → Use
use_of (Some directions.ReplyPort) = uses.ReplyPort
use_of _ = uses.Any

-- an argument, behind those that were read
unfoldable pub argument_at : List (List ℕ × Shape) → Bool → List Parameter → List Lexeme
    → Option (List Parameter × List Lexeme)
argument_at types is_simple seen tokens = do
  direction ← direction_at seen is_simple tokens
  name ← argument_name_at seen direction.1
  rest ← after_sign signs.Colon name.1
  found ← argument_type_at types (use_of direction.0) rest
  Some (
    seen ++ (record {
      name = name.0;
      direction = direction.0;
      shape = found.0.1;
      type_name = found.0.0;
    }) ∷ [],
    found.1,
  )

-- `;`, which stands between arguments
abbrev pub is_semicolon : Symbol → Bool
is_semicolon (symbols.Sign signs.Semicolon) = true
is_semicolon _ = false

-- `)`, which stands behind the last argument
abbrev pub is_closing : Symbol → Bool
is_closing (symbols.Sign signs.CloseParenthesis) = true
is_closing _ = false

-- another argument follows
unfoldable pub goes_on : List Parameter × List Lexeme → Bool
goes_on read = is_semicolon (first_of read.1)

-- `;` and an argument
unfoldable pub next_argument : List (List ℕ × Shape) → Bool → List Parameter × List Lexeme
    → Option (List Parameter × List Lexeme)
next_argument types is_simple read = argument_at types is_simple read.0 (tail_of read.1)

-- the first argument and those behind it
unfoldable pub some_arguments_at : List (List ℕ × Shape) → Bool → List Lexeme
    → Option (List Parameter × List Lexeme)
some_arguments_at types is_simple tokens = do
  first ← argument_at types is_simple [] tokens
  many goes_on (next_argument types is_simple) (length first.1) first

-- the arguments, up to the parenthesis that closes them
unfoldable pub arguments_at : List (List ℕ × Shape) → Bool → List Lexeme
    → Option (List Parameter × List Lexeme)
arguments_at types is_simple tokens =
    if is_closing (first_of tokens) then Some ([], tokens)
    else some_arguments_at types is_simple tokens

-- an argument as it is meant
pub record Item : Type 0 where
  pub name : List ℕ
  pub direction : Direction
  pub shape : Shape
  pub type_name : List ℕ

-- an argument with no word is `in`
abbrev pub as_written : Parameter → Item
as_written p = record {
  name = p.name;
  direction = unwrap_or p.direction directions.In;
  shape = p.shape;
  type_name = p.type_name;
}

-- the request port
abbrev pub as_request_port : Parameter → Item
as_request_port p = record {
  name = p.name;
  direction = directions.RequestPort;
  shape = p.shape;
  type_name = p.type_name;
}

-- an argument is marked as the request port
abbrev pub is_marked : Parameter → Bool
is_marked p = is_request_port p.direction

-- an argument has port rights
abbrev pub is_of_port_type : Parameter → Bool
is_of_port_type p = is_port_number p.shape.name

-- with no word in front, or `in`
abbrev pub is_in : Option Direction → Bool
is_in None = true
is_in (Some directions.In) = true
is_in _ = false

-- the arguments where none is marked: the first is the request port, if it can be
abbrev pub unmarked_items : List Parameter → Option (List Item)
unmarked_items [] = None
unmarked_items (p ∷ ps) =
    if is_in p.direction && is_of_port_type p then Some (as_request_port p ∷ map as_written ps)
    else None

-- the arguments, of which exactly one is the request port
unfoldable pub items_of : List Parameter → Option (List Item)
items_of ps =
    if count_by is_marked ps == 0
    then unmarked_items ps
    else if count_by is_marked ps == 1 && list_all (λ p. not (is_marked p) || is_of_port_type p) ps
    then Some (map as_written ps)
    else None
