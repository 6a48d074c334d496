-- Believe. Which tokens are which argument; with the laws that reading agrees. The options behind
-- types and the arguments of routines of the second edition (Server Writer's Guide for MIG, and GNU
-- MIG's own forms): a grammar by cases, apart from how one reads it, with what each argument says.
use Rattle.std.specs.Prelude.{◌≡◌, ℕ, List, [], ◌∷◌, ◌++◌, length, Bool, true, false, Option, Some}
use Rattle.std.specs.Prelude.{IsTrue, Ok}
use Rattle.mrc_mig_lex.specs.declared.token.Sign.TheVariants.{OpenParenthesis, CloseParenthesis}
use Rattle.mrc_mig_lex.specs.declared.token.Sign.TheVariants.{OpenBracket, Colon, Comma, Equals}
use Rattle.mrc_mig_lex.specs.declared.token.Sign.TheVariants.{Bar}
use Rattle.mrc_mig_symbols.specs.declared.word.Word.{Word as ReservedWord}
use Rattle.mrc_mig_symbols.specs.declared.word.Word.TheVariants as words
use Rattle.mrc_mig_tokens.specs.declared.symbol.Symbol.{Symbol}
use Rattle.mrc_mig_tokens.specs.declared.symbol.Symbol.TheVariants.{Word, Name, Sign}
use Rattle.mrc_mig_tokens.specs.Tokens.{Token}
use Rattle.mrc_mig_tokens.specs.Reading.{first_of, text_of}
use Rattle.mrc_mig_types.specs.declared.meaning.Meaning.{Meaning}
use Rattle.mrc_mig_types.specs.Specs.{Is, IsSpec, AreFlags}
use Rattle.mrc_mig_types.specs.Table.{Known, type_of}
use Rattle.mrc_mig_arguments.specs.declared.argument.Role.{Role}
use Rattle.mrc_mig_arguments.specs.declared.argument.Role.TheVariants.{Unmarked}
use Rattle.mrc_mig_arguments.specs.Words.{role_of_word, is_payload, asks_count, Written}
use Rattle.mrc_mig_arguments.specs.Reading.{begins_option, is_option, options_at, argument_at}

-- `name ( name )`
pub data IsCall : List Token → Type 0 where
  call : {function opens value closes : Token}
      → Is Name function
      → Is (Sign OpenParenthesis) opens
      → Is Name value
      → Is (Sign CloseParenthesis) closes
      → IsCall (function ∷ opens ∷ value ∷ closes ∷ [])

-- one option behind a type
pub data IsOption : List Token → Type 0 where
  -- `ctype : name`, and so `cusertype` and `cservertype`
  c_type : {word colon name : Token}
      → Is (Word words.CType) word
      → Is (Sign Colon) colon
      → Is Name name
      → IsOption (word ∷ colon ∷ name ∷ [])
  -- `intran : name name ( name )`, and so `outtran`
  translation : {word colon name : Token} {called : List Token}
      → Is (Word words.Translation) word
      → Is (Sign Colon) colon
      → Is Name name
      → IsCall called
      → IsOption (word ∷ colon ∷ name ∷ called)
  -- `intranpayload : name name`
  payload : {word colon type function : Token}
      → Is Name word
      → IsTrue (is_payload word.bytes)
      → Is (Sign Colon) colon
      → Is Name type
      → Is Name function
      → IsOption (word ∷ colon ∷ type ∷ function ∷ [])
  -- `destructor : name ( name )`
  destructor : {word colon : Token} {called : List Token}
      → Is (Word words.Destructor) word
      → Is (Sign Colon) colon
      → IsCall called
      → IsOption (word ∷ colon ∷ called)

-- any number of options
pub data AreOptions : List Token → Type 0 where
  none : AreOptions []
  more : {one others : List Token} → IsOption one → AreOptions others → AreOptions (one ++ others)

-- the word in front of an argument, or none
pub data IsMark : List Token → Role → Type 0 where
  unmarked : IsMark [] Unmarked
  marked : {token : Token} {word : ReservedWord} {role : Role}
      → Is (Word word) token
      → role_of_word token.bytes ≡ Some role
      → IsMark (token ∷ []) role

-- an argument's type, by its name and by what it means: one that is declared, or one of its own
pub data IsTyped (types : Known) : List Token → List ℕ → Option Meaning → Type 0 where
  -- `name`
  declared : {name : Token} → Is Name name → IsTyped types (name ∷ []) name.bytes
      (type_of types name.bytes)
  -- `name = spec {option}`
  own : {name equals : Token} {spec options : List Token} {found : Option Meaning}
      → Is Name name
      → Is (Sign Equals) equals
      → IsSpec types spec found
      → AreOptions options
      → IsTyped types (name ∷ equals ∷ (spec ++ options)) name.bytes found

-- the tokens before the rest are an argument that says this: `[word] name : type {flag}`
pub data IsArgument (types : Known) (rest : List Token) : List Token → Written → Type 0 where
  argument : {mark typed flags : List Token} {name colon : Token} {role : Role}
      {type_name : List ℕ} {meaning : Option Meaning}
      → IsMark mark role
      → Is Name name
      → Is (Sign Colon) colon
      → IsTyped types typed type_name meaning
      → AreFlags flags
      → IsArgument types rest (mark ++ name ∷ colon ∷ (typed ++ flags)) (record {
        role = role;
        name = name.bytes;
        type_name = type_name;
        meaning = meaning;
        counts = asks_count flags;
        at = length (mark ++ name ∷ colon ∷ (typed ++ (flags ++ rest)));
        name_at = length (name ∷ colon ∷ (typed ++ (flags ++ rest)));
        type_at = length (typed ++ (flags ++ rest));
      })

-- a token that would belong to an argument before it: `=`, `|`, `,`, `[` or the word of an option
abbrev pub belongs : Symbol → List ℕ → Bool
belongs (Sign Equals) bytes = true
belongs (Sign Bar) bytes = true
belongs (Sign Comma) bytes = true
belongs (Sign OpenBracket) bytes = true
belongs symbol bytes = is_option symbol bytes

-- options that are read at the front of tokens stand there
abbrev pub ReadAreOptions : Type 0
ReadAreOptions =
    (tokens rest : List Token) → options_at tokens ≡ Ok rest
    → (written : List Token) × (tokens ≡ written ++ rest) × AreOptions written

-- options that stand at the front of tokens are read there, unless one more follows them
abbrev pub OptionsAreRead : Type 0
OptionsAreRead =
    (written rest : List Token) → AreOptions written → begins_option rest ≡ false
    → options_at (written ++ rest) ≡ Ok rest

-- an argument that is read at the front of tokens stands there
abbrev pub ReadIsArgument : Type 0
ReadIsArgument =
    (types : Known) (tokens : List Token) (found : Written) (rest : List Token)
    → argument_at types tokens ≡ Ok (found, rest)
    → (written : List Token) × (tokens ≡ written ++ rest) × IsArgument types rest written found

-- an argument that stands at the front of tokens is read there, unless a token follows that would
-- belong to it
abbrev pub ArgumentIsRead : Type 0
ArgumentIsRead =
    (types : Known) (written : List Token) (found : Written) (rest : List Token)
    → IsArgument types rest written found
    → belongs (first_of rest) (text_of rest) ≡ false
    → argument_at types (written ++ rest) ≡ Ok (found, rest)
