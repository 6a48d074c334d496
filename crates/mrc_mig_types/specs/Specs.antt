-- Believe. Which tokens are which type; with the law that reading agrees. The types of MIG files of
-- the second edition (Server
-- Writer's Guide for MIG, and GNU MIG's own forms): a grammar by cases, apart from how one reads
-- it,
-- with what each type means. Nothing is known of a type that names one which is not known.
use Rattle.std.specs.Prelude.{◌≡◌, ℕ, List, [], ◌∷◌, ◌++◌, map, true, false, Option, Some}
use Rattle.std.specs.Prelude.{None}
use Rattle.std.specs.Prelude.{option_map, IsTrue, Ok}
use Rattle.mrc_mig_lex.specs.declared.token.Sign.TheVariants.{OpenParenthesis, CloseParenthesis}
use Rattle.mrc_mig_lex.specs.declared.token.Sign.TheVariants.{OpenBracket, CloseBracket, Star}
use Rattle.mrc_mig_lex.specs.declared.token.Sign.TheVariants.{Colon}
use Rattle.mrc_mig_lex.specs.declared.token.Sign.TheVariants.{Semicolon, Comma, Caret, Bar}
use Rattle.mrc_mig_symbols.specs.ExpressionGrammar.{Sum}
use Rattle.mrc_mig_symbols.specs.declared.word.Word.TheVariants as words
use Rattle.mrc_mig_tokens.specs.declared.symbol.Symbol.{Symbol}
use Rattle.mrc_mig_tokens.specs.declared.symbol.Symbol.TheVariants.{Word, Name, Number, Sign}
use Rattle.mrc_mig_tokens.specs.declared.symbol.Symbol.TheVariants.{OpenBrace, CloseBrace}
use Rattle.mrc_mig_tokens.specs.Tokens.{Token}
use Rattle.mrc_mig_tokens.specs.Reading.{first_of, is_sign}
use Rattle.mrc_mig_tokens.specs.SumGrammar.{Spells, symbol_of}
use Rattle.mrc_mig_types.specs.declared.basics.Basic.{Basic}
use Rattle.mrc_mig_types.specs.declared.meaning.Meaning.{Meaning}
use Rattle.mrc_mig_types.specs.Basics.{basic_of, polymorphic, numbered, pair_of, basic_item}
use Rattle.mrc_mig_types.specs.Basics.{given_size, is_flag_name}
use Rattle.mrc_mig_types.specs.Layout.{struct_of}
use Rattle.mrc_mig_types.specs.Meanings.{array, bounded, open_array, pointed, string}
use Rattle.mrc_mig_types.specs.Reading.{spec_at}
use Rattle.mrc_mig_types.specs.Table.{Known, type_of}

-- the token is this word, sign or brace
pub record Is (symbol : Symbol) (token : Token) : Type 0 where
  pub seen : token.symbol ≡ symbol

-- the tokens are an expression of this value, or of none
pub record IsSum (tokens : List Token) (n : Option ℕ) : Type 0 where
  pub spelled : Spells Sum (map symbol_of tokens) n

-- the token names this basic type
pub data NamesBasic : Token → Basic → Type 0 where
  -- the name of a basic type
  by_name : {token : Token} {basic : Basic}
      → Is Name token
      → basic_of token.bytes ≡ Some basic
      → NamesBasic token basic
  -- `polymorphic`
  picked : {token : Token} → Is (Word words.Polymorphic) token → NamesBasic token polymorphic
  -- a type number
  by_number : {token : Token} {n : ℕ} → Is (Number n) token → NamesBasic token (numbered n)

-- `A` or `A | B`
pub data IsPair : List Token → Basic → Type 0 where
  alone : {a : Token} {basic : Basic} → NamesBasic a basic → IsPair (a ∷ []) basic
  both : {a bar b : Token} {sent received : Basic}
      → NamesBasic a sent
      → Is (Sign Bar) bar
      → NamesBasic b received
      → IsPair (a ∷ bar ∷ b ∷ []) (pair_of sent received)

-- a flag
pub data IsFlag : Token → Type 0 where
  word : {token : Token} → Is (Word words.Flag) token → IsFlag token
  dealloc : {token : Token} → Is (Word words.Dealloc) token → IsFlag token
  name : {token : Token} → Is Name token → IsTrue (is_flag_name token.bytes) → IsFlag token

-- `, flag` and `, flag [ ]`, any number of times
pub data AreFlags : List Token → Type 0 where
  none : AreFlags []
  plain : {comma flag : Token} {others : List Token}
      → Is (Sign Comma) comma
      → IsFlag flag
      → AreFlags others
      → AreFlags (comma ∷ flag ∷ others)
  with_brackets : {comma flag opens closes : Token} {others : List Token}
      → Is (Sign Comma) comma
      → IsFlag flag
      → Is (Sign OpenBracket) opens
      → Is (Sign CloseBracket) closes
      → AreFlags others
      → AreFlags (comma ∷ flag ∷ opens ∷ closes ∷ others)

-- `type name ;`, once or more: the types of the fields
pub data AreFields (types : Known) : List Token → List (Option Meaning) → Type 0 where
  last : {type name ends : Token}
      → Is Name type
      → Is Name name
      → Is (Sign Semicolon) ends
      → AreFields types (type ∷ name ∷ ends ∷ []) (type_of types type.bytes ∷ [])
  more : {type name ends : Token} {others : List Token} {found : List (Option Meaning)}
      → Is Name type
      → Is Name name
      → Is (Sign Semicolon) ends
      → AreFields types others found
      → AreFields types (type ∷ name ∷ ends ∷ others) (type_of types type.bytes ∷ found)

-- the tokens are a type that means this, or nothing where it names one that is not known
pub data IsSpec (types : Known) : List Token → Option Meaning → Type 0 where
  -- a basic type, or two with a bar between them
  basic : {pair : List Token} {found : Basic}
      → IsPair pair found
      → IsSpec types pair (Some (basic_item found))
  -- `( basic , size flags )`
  sized : {opens comma closes : Token} {pair size flags : List Token} {found : Basic}
      {n : Option ℕ}
      → Is (Sign OpenParenthesis) opens
      → IsPair pair found
      → Is (Sign Comma) comma
      → IsSum size n
      → AreFlags flags
      → Is (Sign CloseParenthesis) closes
      → IsSpec types (opens ∷ (pair ++ comma ∷ (size ++ (flags ++ closes ∷ []))))
      (Some (given_size found n))
  -- the name of a declared type
  declared : {name : Token}
      → Is Name name
      → basic_of name.bytes ≡ None
      → IsSpec types (name ∷ []) (type_of types name.bytes)
  -- `array [ ] of`
  open_brackets : {word opens closes of : Token} {inner : List Token} {found : Option Meaning}
      → Is (Word words.Array) word
      → Is (Sign OpenBracket) opens
      → Is (Sign CloseBracket) closes
      → Is (Word words.Of) of
      → IsSpec types inner found
      → IsSpec types (word ∷ opens ∷ closes ∷ of ∷ inner) (option_map open_array found)
  -- `array [ * ] of`
  open_star : {word opens star closes of : Token} {inner : List Token} {found : Option Meaning}
      → Is (Word words.Array) word
      → Is (Sign OpenBracket) opens
      → Is (Sign Star) star
      → Is (Sign CloseBracket) closes
      → Is (Word words.Of) of
      → IsSpec types inner found
      → IsSpec types (word ∷ opens ∷ star ∷ closes ∷ of ∷ inner) (option_map open_array found)
  -- `array [ * : sum ] of`
  bounded_array : {word opens star colon closes of : Token} {number inner : List Token}
      {n : Option ℕ} {found : Option Meaning}
      → Is (Word words.Array) word
      → Is (Sign OpenBracket) opens
      → Is (Sign Star) star
      → Is (Sign Colon) colon
      → IsSum number n
      → Is (Sign CloseBracket) closes
      → Is (Word words.Of) of
      → IsSpec types inner found
      → IsSpec types (word ∷ opens ∷ star ∷ colon ∷ (number ++ closes ∷ of ∷ inner))
      (option_map (bounded n) found)
  -- `array [ sum ] of`
  fixed_array : {word opens closes of : Token} {number inner : List Token} {n : Option ℕ}
      {found : Option Meaning}
      → Is (Word words.Array) word
      → Is (Sign OpenBracket) opens
      → IsSum number n
      → Is (Sign CloseBracket) closes
      → Is (Word words.Of) of
      → IsSpec types inner found
      → IsSpec types (word ∷ opens ∷ (number ++ closes ∷ of ∷ inner)) (option_map (array n) found)
  -- `struct [ sum ] of`
  struct_of_one : {word opens closes of : Token} {number inner : List Token} {n : Option ℕ}
      {found : Option Meaning}
      → Is (Word words.Struct) word
      → Is (Sign OpenBracket) opens
      → IsSum number n
      → Is (Sign CloseBracket) closes
      → Is (Word words.Of) of
      → IsSpec types inner found
      → IsSpec types (word ∷ opens ∷ (number ++ closes ∷ of ∷ inner)) (option_map (array n) found)
  -- `^`
  pointer : {caret : Token} {inner : List Token} {found : Option Meaning}
      → Is (Sign Caret) caret
      → IsSpec types inner found
      → IsSpec types (caret ∷ inner) (option_map pointed found)
  -- `struct { type name ; .. }`
  struct_of_fields : {word opens closes : Token} {fields : List Token}
      {found : List (Option Meaning)}
      → Is (Word words.Struct) word
      → Is OpenBrace opens
      → AreFields types fields found
      → Is CloseBrace closes
      → IsSpec types (word ∷ opens ∷ (fields ++ closes ∷ [])) (Some (struct_of found))
  -- `c_string [ sum ]`
  fixed_string : {word opens closes : Token} {number : List Token} {n : Option ℕ}
      → Is (Word words.CString) word
      → Is (Sign OpenBracket) opens
      → IsSum number n
      → Is (Sign CloseBracket) closes
      → IsSpec types (word ∷ opens ∷ (number ++ closes ∷ [])) (Some (string n false))
  -- `c_string [ * : sum ]`
  bounded_string : {word opens star colon closes : Token} {number : List Token} {n : Option ℕ}
      → Is (Word words.CString) word
      → Is (Sign OpenBracket) opens
      → Is (Sign Star) star
      → Is (Sign Colon) colon
      → IsSum number n
      → Is (Sign CloseBracket) closes
      → IsSpec types (word ∷ opens ∷ star ∷ colon ∷ (number ++ closes ∷ []))
      (Some (string n true))

-- a type that is read at the front of tokens stands there
abbrev pub ReadIsSpec : Type 0
ReadIsSpec =
    (types : Known) (tokens : List Token) (found : Option Meaning) (rest : List Token)
    → spec_at types tokens ≡ Ok (found, rest)
    → (written : List Token) × (tokens ≡ written ++ rest) × IsSpec types written found

-- a type that stands at the front of tokens is read there, unless a bar follows it
abbrev pub SpecIsRead : Type 0
SpecIsRead =
    (types : Known) (written : List Token) (found : Option Meaning) (rest : List Token)
    → IsSpec types written found → is_sign Bar (first_of rest) ≡ false
    → spec_at types (written ++ rest) ≡ Ok (found, rest)
