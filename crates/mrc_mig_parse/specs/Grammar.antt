-- Believe. Which tokens are which phrase; with the law that reading agrees. After the Server
-- Writer's Guide for MIG. Which of its forms are read, and all limits, are this profile's own
-- choice.
use Rattle.std.specs.Prelude.{◌≡◌, ℕ, ◌<◌, ◌≤◌, List, [], ◌∷◌, ◌++◌, length, map, Bool, true, false}
use Rattle.std.specs.Prelude.{◌&&◌, ◌||◌, Option, Some, None}
use Rattle.mrc_base.specs.Limits.{limit_of_name, limit_of_arguments, limit_of_first_edition_ids}
use Rattle.mrc_mig_lex.specs.Tokens.{Lexeme}
use Rattle.mrc_mig_lex.specs.declared.token.Sign.TheVariants.{Semicolon, Colon, Comma, Equals}
use Rattle.mrc_mig_lex.specs.declared.token.Sign.TheVariants.{OpenParenthesis, CloseParenthesis}
use Rattle.mrc_mig_lex.specs.declared.token.Sign.TheVariants.{OpenBracket, CloseBracket, Star}
use Rattle.mrc_mig_symbols.specs.declared.directive.Directive.TheVariants.{Include, Marker}
use Rattle.mrc_mig_symbols.specs.declared.symbol.Symbol.{Symbol}
use Rattle.mrc_mig_symbols.specs.declared.symbol.Symbol.TheVariants.{Word, Name, Number, Text, Sign}
use Rattle.mrc_mig_symbols.specs.declared.symbol.Symbol.TheVariants.{Directive}
use Rattle.mrc_mig_symbols.specs.declared.word.Basic.{Basic}
use Rattle.mrc_mig_symbols.specs.declared.word.Basic.TheVariants.{Plain}
use Rattle.mrc_mig_symbols.specs.declared.word.Direction.{Direction as Way}
use Rattle.mrc_mig_symbols.specs.declared.word.Word.{Word as Reserved}
use Rattle.mrc_mig_symbols.specs.declared.word.Word.TheVariants as words
use Rattle.mrc_mig_symbols.specs.Tables.{entry_of}
use Rattle.mrc_mig_symbols.specs.Words.{basic_of}
use Rattle.mrc_mig_symbols.specs.Symbols.{symbol_of}
use Rattle.mrc_mig_symbols.specs.ExpressionGrammar.{Spells, Sum}
use Rattle.mrc_forms.specs.declared.shape.Shape.{Shape}
use Rattle.mrc_mig_parse.specs.declared.types.Around.{Around}
use Rattle.mrc_mig_parse.specs.declared.types.Use.{Use}
use Rattle.mrc_mig_parse.specs.declared.types.Use.TheVariants.{Any}
use Rattle.mrc_mig_parse.specs.Types.{fits_use, nothing_around, times, items, basic_item}
use Rattle.mrc_forms.specs.Shapes.{size_fits}
use Rattle.mrc_mig_parse.specs.Types.{nested}
use Rattle.mrc_mig_parse.specs.Arguments.{Parameter, is_reply_port, has_reply_port, has_name}
use Rattle.mrc_mig_parse.specs.Arguments.{use_of, Item, items_of}
use Rattle.mrc_mig_parse.specs.Files.{Routine, SimpleRoutine, Skip, Meaning, State, is_declared}
use Rattle.mrc_mig_parse.specs.Files.{include_by, is_routine, is_imported, with_row}
use Rattle.mrc_mig_parse.specs.Files.{nothing_declared, meaning_of}

-- the token is this word, sign, name or number
pub record Is (symbol : Symbol) (token : Lexeme) : Type 0 where
  pub seen : symbol_of token ≡ symbol

-- the token is a name of few enough bytes that is no reserved word
pub record IsName (token : Lexeme) : Type 0 where
  pub seen : symbol_of token ≡ Name
  pub few : length token.bytes ≤ limit_of_name

-- any number of phrases one behind the other, each with what is known before it and behind it
pub data AnyNumber {A : Type 0} (Phrase : A → List Lexeme → A → Type 0) : A → List Lexeme → A
    → Type 0 where
  none : {a : A} → AnyNumber Phrase a [] a
  more : {a b c : A} {phrase others : List Lexeme}
      → Phrase a phrase b
      → AnyNumber Phrase b others c
      → AnyNumber Phrase a (phrase ++ others) c

-- any number of phrases from which nothing is to be known
abbrev pub AnyOf : (List Lexeme → Type 0) → List Lexeme → Type 0
AnyOf Phrase tokens = AnyNumber {A = Unit {0}} (λ _ phrase _. Phrase phrase) tt tokens tt

-- `function ( argument )`
pub data IsCall : List Lexeme → Type 0 where
  call : {function opens argument closes : Lexeme}
      → IsName function
      → Is (Sign OpenParenthesis) opens
      → IsName argument
      → Is (Sign CloseParenthesis) closes
      → IsCall (function ∷ opens ∷ argument ∷ closes ∷ [])

-- an option of a type, which means nothing for messages
pub data IsOption : List Lexeme → Type 0 where
  -- `ctype : name`, and so `cusertype` and `cservertype`
  c_type : {word colon name : Lexeme}
      → Is (Word words.CType) word
      → Is (Sign Colon) colon
      → IsName name
      → IsOption (word ∷ colon ∷ name ∷ [])
  -- `intran : name function ( argument )`, and so `outtran`
  translation : {word colon name : Lexeme} {others : List Lexeme}
      → Is (Word words.Translation) word
      → Is (Sign Colon) colon
      → IsName name
      → IsCall others
      → IsOption (word ∷ colon ∷ name ∷ others)
  -- `destructor : function ( argument )`
  destructor : {word colon : Lexeme} {others : List Lexeme}
      → Is (Word words.Destructor) word
      → Is (Sign Colon) colon
      → IsCall others
      → IsOption (word ∷ colon ∷ others)

-- the tokens are a whole-number expression of this value
pub record IsExpression (tokens : List Lexeme) (n : ℕ) : Type 0 where
  pub spelled : Spells Sum (map symbol_of tokens) n

-- `n]`: with that many of each item around there are so many items
pub data IsCount (around : Around) : List Lexeme → ℕ → Type 0 where
  count : {expression : List Lexeme} {closes : Lexeme} {n number : ℕ}
      → IsExpression expression n
      → times around n ≡ Some number
      → Is (Sign CloseBracket) closes
      → IsCount around (expression ++ closes ∷ []) number

-- inside so many items; the number is the most that there may be where one around is so
abbrev pub inside : Around → ℕ → Bool → Around
inside around number is_bound =
    record { is_inside = true; number = number; is_bound = around.is_bound || is_bound }

-- `[n]`
pub data IsDimension : Around → List Lexeme → Around → Type 0 where
  fixed : {around : Around} {opens : Lexeme} {counting : List Lexeme} {number : ℕ}
      → Is (Sign OpenBracket) opens
      → IsCount around counting number
      → IsDimension around (opens ∷ counting) (inside around number false)

-- `[n]` or `[*:n]`
pub data IsVariableDimension : Around → List Lexeme → Around → Type 0 where
  not_variable : {around inner : Around} {dimension : List Lexeme}
      → IsDimension around dimension inner
      → IsVariableDimension around dimension inner
  -- `[*:n]` stands inside nothing else
  at_most : {around : Around} {opens star colon : Lexeme} {counting : List Lexeme} {number : ℕ}
      → around.is_inside ≡ false
      → Is (Sign OpenBracket) opens
      → Is (Sign Star) star
      → Is (Sign Colon) colon
      → IsCount around counting number
      → IsVariableDimension around (opens ∷ star ∷ colon ∷ counting) (inside around number true)

-- an array or a struct around a type
pub data IsLayer : Around → List Lexeme → Around → Type 0 where
  -- `array[n] of` or `array[*:n] of`
  array : {around inner : Around} {word of : Lexeme} {dimension : List Lexeme}
      → Is (Word words.Array) word
      → IsVariableDimension around dimension inner
      → Is (Word words.Of) of
      → IsLayer around (word ∷ (dimension ++ of ∷ [])) inner
  -- `struct[n] of`
  struct : {around inner : Around} {word of : Lexeme} {dimension : List Lexeme}
      → Is (Word words.Struct) word
      → IsDimension around dimension inner
      → Is (Word words.Of) of
      → IsLayer around (word ∷ (dimension ++ of ∷ [])) inner

-- what stands inside them: a type for this use, where these types are declared
pub data IsInnerType (types : List (List ℕ × Shape)) (wanted : Use) (around : Around) : List Lexeme
    → Shape → Type 0 where
  -- the name of a basic type that has a size
  basic : {word : Lexeme} {name size : ℕ}
      → Is Name word
      → basic_of word.bytes ≡ Some (Plain name size)
      → fits_use wanted name ≡ true
      → IsInnerType types wanted around (word ∷ []) (items around name size)
  -- `( name , size )`: a basic type with a size of its own
  sized : {opens word comma closes : Lexeme} {expression : List Lexeme} {type : Basic}
      {name usual size : ℕ}
      → Is (Sign OpenParenthesis) opens
      → Is Name word
      → basic_of word.bytes ≡ Some type
      → basic_item type wanted ≡ Some (name, usual)
      → Is (Sign Comma) comma
      → IsExpression expression size
      → size_fits name size ≡ true
      → Is (Sign CloseParenthesis) closes
      → IsInnerType types wanted around (opens ∷ word ∷ comma ∷ (expression ++ closes ∷ []))
      (items around name size)
  -- `c_string[n]` or `c_string[*:n]`: characters of 8 bits
  string : {word : Lexeme} {dimension : List Lexeme} {inner : Around}
      → Is (Word words.CString) word
      → fits_use wanted 12 ≡ true
      → IsVariableDimension around dimension inner
      → IsInnerType types wanted around (word ∷ dimension) (items inner 12 8)
  -- a declared type; one of variable length stands inside nothing
  declared : {name : Lexeme} {shape whole : Shape}
      → Is Name name
      → basic_of name.bytes ≡ None
      → entry_of types name.bytes ≡ Some shape
      → fits_use wanted shape.name ≡ true
      → nested around shape ≡ Some whole
      → IsInnerType types wanted around (name ∷ []) whole

-- a type, with arrays and structs around it from the outside in
pub data IsType (types : List (List ℕ × Shape)) (wanted : Use) : List Lexeme → Shape → Type 0 where
  type : {layers inner : List Lexeme} {around : Around} {shape : Shape}
      → AnyNumber IsLayer nothing_around layers around
      → IsInnerType types wanted around inner shape
      → IsType types wanted (layers ++ inner) shape

-- the word in front of an argument, if there is one. A routine has one reply port at most, a
-- simpleroutine none
pub data IsDirection (is_simple : Bool) (seen : List Parameter) : List Lexeme → Option Way
    → Type 0 where
  unmarked : IsDirection is_simple seen [] None
  marked : {word : Lexeme} {way : Way}
      → Is (Word (words.Direction way)) word
      → (is_reply_port (Some way) && (is_simple || has_reply_port seen)) ≡ false
      → IsDirection is_simple seen (word ∷ []) (Some way)

-- the type of an argument, with its name
pub data IsArgumentType (types : List (List ℕ × Shape)) (wanted : Use) : List Lexeme → List ℕ
    → Shape → Type 0 where
  -- a declared type
  known : {name : Lexeme} {shape : Shape}
      → Is Name name
      → entry_of types name.bytes ≡ Some shape
      → fits_use wanted shape.name ≡ true
      → IsArgumentType types wanted (name ∷ []) name.bytes shape
  -- `name = type {option}`, which is the argument's own
  own : {name equals : Lexeme} {type options : List Lexeme} {shape : Shape}
      → IsName name
      → Is (Sign Equals) equals
      → IsType types wanted type shape
      → AnyOf IsOption options
      → IsArgumentType types wanted (name ∷ equals ∷ (type ++ options)) name.bytes shape

-- `[direction] name : type`, behind the arguments that were seen, of which none has its name and
-- there may be one more
pub data IsArgument (types : List (List ℕ × Shape)) (is_simple : Bool) : List Parameter
    → List Lexeme → List Parameter → Type 0 where
  argument : {seen : List Parameter} {direction type : List Lexeme} {way : Option Way}
      {name colon : Lexeme} {shape : Shape} {type_name : List ℕ}
      → IsDirection is_simple seen direction way
      → IsName name
      → has_name name.bytes seen ≡ false
      → length seen < limit_of_arguments
      → Is (Sign Colon) colon
      → IsArgumentType types (use_of way) type type_name shape
      → IsArgument types is_simple seen (direction ++ name ∷ colon ∷ type) (seen ++ (record {
        name = name.bytes;
        direction = way;
        shape = shape;
        type_name = type_name;
      }) ∷ [])

-- `; argument`
pub data IsNextArgument (types : List (List ℕ × Shape)) (is_simple : Bool) : List Parameter
    → List Lexeme → List Parameter → Type 0 where
  next_argument : {seen all : List Parameter} {semicolon : Lexeme} {argument : List Lexeme}
      → Is (Sign Semicolon) semicolon
      → IsArgument types is_simple seen argument all
      → IsNextArgument types is_simple seen (semicolon ∷ argument) all

-- `[argument {; argument}]`
pub data IsArguments (types : List (List ℕ × Shape)) (is_simple : Bool) : List Lexeme
    → List Parameter → Type 0 where
  no_argument : IsArguments types is_simple [] []
  some_arguments : {first others : List Lexeme} {seen all : List Parameter}
      → IsArgument types is_simple [] first seen
      → AnyNumber (IsNextArgument types is_simple) seen others all
      → IsArguments types is_simple (first ++ others) all

-- a line of the preprocessor: a marker, or the include, which declares its table once
pub data IsLine : State → List Lexeme → State → Type 0 where
  marker : {s : State} {line : Lexeme} → Is (Directive Marker) line → IsLine s (line ∷ []) s
  include : {s t : State} {line : Lexeme}
      → Is (Directive Include) line
      → include_by s.has_table s ≡ Some t
      → IsLine s (line ∷ []) t

-- `name ( arguments ) ;`, of a name that no routine has, with one request port
pub data IsRoutine (is_simple : Bool) (s : State) : List Lexeme → List ℕ → List Item → Type 0 where
  named : {name opens closes semicolon : Lexeme} {arguments : List Lexeme} {all : List Parameter}
      {items : List Item}
      → IsName name
      → is_routine name.bytes s.rows ≡ false
      → Is (Sign OpenParenthesis) opens
      → IsArguments s.types is_simple arguments all
      → Is (Sign CloseParenthesis) closes
      → items_of all ≡ Some items
      → Is (Sign Semicolon) semicolon
      → IsRoutine is_simple s (name ∷ opens ∷ (arguments ++ closes ∷ semicolon ∷ [])) name.bytes
      items

-- what stands behind the word of a statement that declares nothing
pub data IsNote : Reserved → List Lexeme → Type 0 where
  -- `import file ;`, and so `uimport` and `simport`
  import : {file semicolon : Lexeme}
      → is_imported (symbol_of file) ≡ true
      → Is (Sign Semicolon) semicolon
      → IsNote words.Import (file ∷ semicolon ∷ [])
  -- `serverprefix name ;`, and so `userprefix`
  prefix : {name semicolon : Lexeme}
      → IsName name
      → Is (Sign Semicolon) semicolon
      → IsNote words.Prefix (name ∷ semicolon ∷ [])
  -- `rcsid string ;`
  rcsid : {text semicolon : Lexeme}
      → Is Text text
      → Is (Sign Semicolon) semicolon
      → IsNote words.Rcsid (text ∷ semicolon ∷ [])

-- a statement, and what is declared before and behind it
pub data IsStatement : State → List Lexeme → State → Type 0 where
  line : {s t : State} {line : List Lexeme} → IsLine s line t → IsStatement s line t
  -- `type name = type {option} ;`, of a name that no type has. It is known behind the statement
  -- alone
  declaration : {s : State} {word name equals semicolon : Lexeme} {type options : List Lexeme}
      {shape : Shape}
      → Is (Word words.Type) word
      → IsName name
      → is_declared name.bytes s.types ≡ false
      → Is (Sign Equals) equals
      → IsType s.types Any type shape
      → AnyOf IsOption options
      → Is (Sign Semicolon) semicolon
      → IsStatement s (word ∷ name ∷ equals ∷ (type ++ options ++ semicolon ∷ [])) (record s {
        types = s.types ++ (name.bytes, shape) ∷ [];
      })
  -- `routine name ( arguments ) ;`
  routine : {s : State} {word : Lexeme} {others : List Lexeme} {name : List ℕ} {items : List Item}
      → Is (Word words.Routine) word
      → length s.rows < limit_of_first_edition_ids
      → IsRoutine false s others name items
      → IsStatement s (word ∷ others) (with_row s (Routine name items))
  -- `simpleroutine name ( arguments ) ;`
  simple_routine : {s : State} {word : Lexeme} {others : List Lexeme} {name : List ℕ}
      {items : List Item}
      → Is (Word words.SimpleRoutine) word
      → length s.rows < limit_of_first_edition_ids
      → IsRoutine true s others name items
      → IsStatement s (word ∷ others) (with_row s (SimpleRoutine name items))
  -- `skip ;`, which takes an id
  skip : {s : State} {word semicolon : Lexeme}
      → Is (Word words.Skip) word
      → length s.rows < limit_of_first_edition_ids
      → Is (Sign Semicolon) semicolon
      → IsStatement s (word ∷ semicolon ∷ []) (with_row s Skip)
  -- one that declares nothing
  note : {s : State} {word : Lexeme} {kind : Reserved} {others : List Lexeme}
      → Is (Word kind) word
      → IsNote kind others
      → IsStatement s (word ∷ others) s

-- `kernelserver` or `kerneluser`
pub data IsSide : List Lexeme → Type 0 where
  side : {word : Lexeme} → Is (Word words.Side) word → IsSide (word ∷ [])

-- `subsystem` {`kernelserver` or `kerneluser`} `name number ;`
pub data IsHeading : List Lexeme → List ℕ → ℕ → Type 0 where
  heading : {word name number semicolon : Lexeme} {sides : List Lexeme} {base : ℕ}
      → Is (Word words.Subsystem) word
      → AnyOf IsSide sides
      → IsName name
      → Is (Number base) number
      → Is (Sign Semicolon) semicolon
      → IsHeading (word ∷ (sides ++ name ∷ number ∷ semicolon ∷ [])) name.bytes base

-- a file: lines of the preprocessor, a heading, and statements
pub data IsFile : List Lexeme → Meaning → Type 0 where
  file : {s t : State} {lines headed statements : List Lexeme} {name : List ℕ} {base : ℕ}
      → AnyNumber IsLine nothing_declared lines s
      → IsHeading headed name base
      → AnyNumber IsStatement s statements t
      → IsFile (lines ++ (headed ++ statements)) (record {
        name = name;
        base = base;
        rows = t.rows;
      })

-- what is read of tokens is a file that they are
abbrev pub ReadIsFile : Type 0
ReadIsFile = (tokens : List Lexeme) (m : Meaning) → meaning_of tokens ≡ Some m → IsFile tokens m

-- a file is read as what it is
abbrev pub FileIsRead : Type 0
FileIsRead = (tokens : List Lexeme) (m : Meaning) → IsFile tokens m → meaning_of tokens ≡ Some m
