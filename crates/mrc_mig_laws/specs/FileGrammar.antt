-- Believe. What a file says, as a relation: its statements one after the other, and what each does
-- to what is said before it, apart from how one reads them. The forms of statements are MIG's. What
-- is left out, and what means nothing, is this profile's own choice.
use Rattle.std.specs.Prelude.{◌≡◌, ◌≤◌, ℕ, List, [], ◌∷◌, ◌++◌, ◌||◌, length, min, Bool, false}
use Rattle.std.specs.Prelude.{true, Option, Some, None, Err}
use Rattle.mrc_base.specs.Limits.{limit_of_ids, limit_of_name}
use Rattle.mrc_mig_lex.specs.declared.token.Sign.TheVariants.{Equals, Semicolon}
use Rattle.mrc_mig_symbols.specs.declared.fault.Stop.{Stop}
use Rattle.mrc_mig_tokens.specs.declared.symbol.Symbol.TheVariants.{Name, Number, Sign, Include}
use Rattle.mrc_mig_tokens.specs.Reading.{unexpected}
use Rattle.mrc_mig_tokens.specs.Tokens.{Token}
use Rattle.mrc_mig_types.specs.declared.meaning.Meaning.{Meaning}
use Rattle.mrc_mig_types.specs.Specs.{Is, IsSpec}
use Rattle.mrc_mig_types.specs.Table.{Known, included, declared}
use Rattle.mrc_mig_arguments.specs.Arguments.{AreOptions}
use Rattle.mrc_mig_rows.specs.declared.kinds.RowKind.{RowKind}
use Rattle.mrc_mig_rows.specs.declared.kinds.StatementKind.TheVariants as kinds
use Rattle.mrc_mig_rows.specs.Declarations.{Unread, meaning_at}
use Rattle.mrc_mig_rows.specs.Files.{State, nothing_said, sum_of_ids, with_unread, names_with}
use Rattle.mrc_mig_rows.specs.Files.{known_there, FileSays}
use Rattle.mrc_mig_rows.specs.Headings.{Subsystem, is_side, is_server}
use Rattle.mrc_mig_rows.specs.Kinds.{statement_kind}
use Rattle.mrc_mig_rows.specs.Rows.{RowSays, Where, row_at}
use Rattle.mrc_mig_rows.specs.Statements.{IsStatement}
use Rattle.mrc_mig_laws.specs.RowGrammar.{IsReadRow, IsNoReadRow}

-- any number of `kernelserver` and `kerneluser`, and whether `kernelserver` is among them
pub data AreSides : List Token → Bool → Type 0 where
  none : AreSides [] false
  more : {side : Token} {others : List Token} {has_server : Bool}
      → is_side side.symbol ≡ true
      → AreSides others has_server
      → AreSides (side ∷ others) (is_server side.bytes || has_server)

-- `subsystem {side} name number ;`, with a name that is not too long
pub record IsHeading (tokens behind : List Token) (heading : Subsystem) : Type 0 where
  pub word : Token
  pub sides : List Token
  pub named : Token
  pub number : Token
  pub ends : Token
  pub splits : tokens ≡ word ∷ (sides ++ named ∷ number ∷ ends ∷ behind)
  pub are_sides : AreSides sides heading.is_kernel_server
  pub is_named : Is Name named
  pub name_is : heading.name ≡ named.bytes
  pub is_short : length named.bytes ≤ limit_of_name
  pub base_is : Is (Number heading.base) number
  pub is_ended : Is (Sign Semicolon) ends

-- `skip number ;`, or `skip ;` for one id
pub data IsSkip : List Token → List Token → ℕ → Type 0 where
  one : {word ends : Token} {behind : List Token}
      → Is (Sign Semicolon) ends
      → IsSkip (word ∷ ends ∷ behind) behind 1
  many : {word number ends : Token} {behind : List Token} {count : ℕ}
      → Is (Number count) number
      → Is (Sign Semicolon) ends
      → IsSkip (word ∷ number ∷ ends ∷ behind) behind count

-- `= spec {option} ;`, of a type that is known
pub record IsMeaning (types : Known) (tokens : List Token) (meaning : Meaning) : Type 0 where
  pub equals : Token
  pub spec : List Token
  pub options : List Token
  pub ends : Token
  pub behind : List Token
  pub splits : tokens ≡ equals ∷ (spec ++ (options ++ ends ∷ behind))
  pub is_equals : Is (Sign Equals) equals
  pub means : IsSpec types spec (Some meaning)
  pub are : AreOptions options
  pub is_ended : Is (Sign Semicolon) ends

-- a name comes first
abbrev pub HasName : List Token → Type 0
HasName tokens = (named : Token) × (later : List Token) × (tokens ≡ named ∷ later) × Is Name named

-- the types behind a `type` statement, and what is kept of one that is not read; no statement
-- declares a name once more
pub data IsDeclaration (types : Known) : List Token → Known → Option Unread → Type 0 where
  -- a name and its type
  known : {word named : Token} {later : List Token} {meaning : Meaning}
      → Is Name named
      → types.declared named.bytes ≡ None
      → IsMeaning types later meaning
      → IsDeclaration types (word ∷ named ∷ later) (declared types named.bytes (Some meaning)) None
  -- a name without a type: it is unknown from there on; why, the functions say
  unknown : {word named : Token} {later : List Token} {stop : Stop}
      → Is Name named
      → types.declared named.bytes ≡ None
      → ((meaning : Meaning) → IsMeaning types later meaning → ⊥)
      → meaning_at types later ≡ Err stop
      → IsDeclaration types (word ∷ named ∷ later) (declared types named.bytes None) (Some (record {
        name = Some named.bytes;
        at = length (word ∷ named ∷ later);
        stop = stop;
      }))
  -- no name: nothing is declared
  nameless : {word : Token} {later : List Token}
      → (HasName later → ⊥)
      → IsDeclaration types (word ∷ later) types (Some (record {
        name = None;
        at = length (word ∷ later);
        stop = unexpected later;
      }))

-- the name behind a word, if one stands there
pub data IsNamed : List Token → Option (List ℕ) → Type 0 where
  has : {word named : Token} {later : List Token}
      → Is Name named
      → IsNamed (word ∷ named ∷ later) (Some named.bytes)
  has_none : {word : Token} {later : List Token}
      → (HasName later → ⊥)
      → IsNamed (word ∷ later) None

-- what a row says
pub data IsRow (known : Where) (kind : RowKind) (tokens : List Token) : RowSays → Type 0 where
  -- it is read
  read : {row : RowSays} → IsReadRow known kind tokens row → IsRow known kind tokens row
  -- or it is left out, with its name, its id and its place; for which word, the functions say
  left_out : {row : RowSays}
      → IsNoReadRow known kind tokens
      → IsNamed tokens row.name
      → row.id ≡ known.id
      → row.at ≡ length tokens
      → row.outcome ≡ (row_at known kind tokens).outcome
      → IsRow known kind tokens row

-- What is said behind a statement, by what is said before it. received: by which type numbers the
-- rights of the text are judged.
pub data IsNext (received : Bool) (tokens behind : List Token) (state : State)
    : State → Type 0 where
  -- the subsystem, of which there is one
  subsystem : {heading : Subsystem}
      → statement_kind tokens ≡ Some kinds.Subsystem
      → state.heading ≡ None
      → IsHeading tokens behind heading
      → IsNext received tokens behind state (record state { heading = Some heading })
  -- a type
  type : {types : Known} {unread : Option Unread}
      → statement_kind tokens ≡ Some kinds.Type
      → IsDeclaration state.types tokens types unread
      → IsNext received tokens behind state (with_unread state types unread)
  -- ids that are skipped, behind the subsystem
  skip : {heading : Subsystem} {count : ℕ}
      → statement_kind tokens ≡ Some kinds.Skip
      → state.heading ≡ Some heading
      → IsSkip tokens behind count
      → IsNext received tokens behind state (record state { taken = sum_of_ids state.taken count })
  -- a row, behind the subsystem: it takes an id, and its name if it has one
  row : {heading : Subsystem} {kind : RowKind} {says : RowSays}
      → statement_kind tokens ≡ Some (kinds.Row kind)
      → state.heading ≡ Some heading
      → IsRow (known_there heading received state) kind tokens says
      → IsNext received tokens behind state (record state {
        rows = state.rows ++ says ∷ [];
        taken = sum_of_ids state.taken 1;
        names = names_with state.names says.name;
      })
  -- what means nothing
  passed : statement_kind tokens ≡ Some kinds.Passed → IsNext received tokens behind state state

-- what is said behind all statements and lines that include the standard types
pub data AreStatements (received : Bool) : State → List Token → State → Type 0 where
  none : {state : State} → AreStatements received state [] state
  include_line : {state last : State} {line : Token} {behind : List Token}
      → Is Include line
      → AreStatements received (record state { types = included state.types }) behind last
      → AreStatements received state (line ∷ behind) last
  statement : {state next last : State} {tokens behind : List Token}
      → IsStatement tokens behind
      → IsNext received tokens behind state next
      → AreStatements received next behind last
      → AreStatements received state tokens last

-- what a file says: it has a subsystem
pub record IsFile (received : Bool) (tokens : List Token) (file : FileSays) : Type 0 where
  pub last : State
  pub are : AreStatements received nothing_said tokens last
  pub heading : last.heading ≡ Some file.heading
  pub ids : file.ids ≡ min last.taken limit_of_ids
  pub rows : file.rows ≡ last.rows
  pub unread : file.unread ≡ last.unread
