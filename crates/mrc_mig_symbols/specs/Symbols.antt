-- Believe. What the grammar sees of a token. What the grammar sees of tokens: this profile's own
-- form of MIG's words and signs.
use Rattle.std.specs.Prelude.{◌≡◌, ℕ, zero, suc, List, [], ◌∷◌, length, Bool, true, false, Option}
use Rattle.std.specs.Prelude.{Some, None, Result, Ok, Err, option_and_then, nat_le, ◌==◌}
use Rattle.std.specs.Prelude.{if◌then◌else◌}
use Rattle.mrc_base.specs.declared.memory.OrMemory.{OrMemory}
use Rattle.mrc_base.specs.declared.memory.OrMemory.TheVariants.{Fault, Memory}
use Rattle.mrc_base.specs.Limits.{limit_of_name}
use Rattle.mrc_mig_lex.specs.Tokens.{Lexeme}
use Rattle.mrc_mig_lex.specs.declared.token.TokenKind.{TokenKind}
use Rattle.mrc_mig_lex.specs.declared.token.TokenKind.TheVariants as kinds
use Rattle.mrc_mig_lex.specs.declared.token.Sign.{Sign}
use Rattle.mrc_mig_lex.specs.declared.token.Sign.TheVariants as signs
use Rattle.mrc_mig_symbols.specs.declared.symbol.Symbol.{Symbol}
use Rattle.mrc_mig_symbols.specs.declared.symbol.Symbol.TheVariants as symbols
use Rattle.mrc_mig_symbols.specs.declared.fault.Stop.{Stop}
use Rattle.mrc_mig_symbols.specs.declared.fault.StopReason.{StopReason}
use Rattle.mrc_mig_symbols.specs.declared.fault.StopReason.TheVariants as why
use Rattle.mrc_mig_symbols.specs.declared.word.Word.{Word}
use Rattle.mrc_mig_symbols.specs.Words.{word_of}
use Rattle.mrc_mig_symbols.specs.Directives.{directive_of}

-- first one reading, then another of what it gave
infixl 10 ◌>>=◌
abbrev pub ◌>>=◌ : {A B : Type 0} → Option A → (A → Option B) → Option B
read >>= next = option_and_then next read

-- a reading goes on only where the test holds
abbrev pub guard : Bool → Option (Unit {0})
guard true = Some tt
guard false = None

-- reading stops where so many tokens are left
abbrev pub stop_at : StopReason → ℕ → Stop
stop_at why count = record { why = why; left = count }

-- a token that cannot stand there, or a missing one
abbrev pub unexpected_at : ℕ → Stop
unexpected_at count = stop_at why.Unexpected count

-- reading stops at the first of these tokens
abbrev pub stop : StopReason → List Lexeme → Stop
stop why tokens = stop_at why (length tokens)

-- a token that cannot stand there, or a missing one
abbrev pub unexpected : List Lexeme → Stop
unexpected tokens = stop why.Unexpected tokens

-- why and where a reading stops: where its first part does, or else where what follows does
abbrev pub first_stop : {A : Type 0} → Option A → Stop → (A → Stop) → Stop
first_stop None stop next = stop
first_stop (Some a) stop next = next a

-- one step after the other, as long as the test holds, and at most so many
unfoldable pub many : {A : Type 0} → (A → Bool) → (A → Option A) → ℕ → A → Option A
many goes step zero a = Some a
many goes step (suc n) a = if goes a then (step a >>= λ b. many goes step n b) else Some a

-- where one of these steps stops, each of which stops there where it does
unfoldable pub many_stop : {A : Type 0} → (A → Bool) → (A → Option A) → (A → Stop) → ℕ → A → Stop
many_stop goes step stop zero a = stop a
many_stop goes step stop (suc n) a =
    if goes a then first_stop (step a) (stop a) (λ b. many_stop goes step stop n b) else stop a

-- what a function returned, seen by view, is what the tokens mean; with a fault they mean nothing
abbrev pub Means : {X Y F : Type 0} → (X → Y) → Result X F → Option Y → Type 0
Means view (Ok x) read = read ≡ Some (view x)
Means view (Err fault) read = read ≡ None

-- the tokens mean nothing, unless memory ran out
abbrev pub MeansNone : {Y F : Type 0} → OrMemory F → Option Y → Type 0
MeansNone (Fault fault) read = read ≡ None
MeansNone Memory read = Unit {0}

-- what a function returned, seen by view, is what the tokens mean, unless memory ran out
abbrev pub MeansOrMemory : {X Y F : Type 0} → (X → Y) → Result X (OrMemory F) → Option Y → Type 0
MeansOrMemory view (Ok x) read = read ≡ Some (view x)
MeansOrMemory view (Err refusal) read = MeansNone refusal read

-- what a function answered, seen by view, is what the definition gives
abbrev pub Answers : {X Y F : Type 0} → (X → Y) → Result X F → Result Y F → Type 0
Answers view (Ok x) given = given ≡ Ok (view x)
Answers view (Err fault) given = given ≡ Err fault

-- what a function refused is this stop
abbrev pub StopsAt : {X : Type 0} → Result X Stop → Stop → Type 0
StopsAt (Ok x) stop = Unit {0}
StopsAt (Err found) stop = found ≡ stop

-- the same, unless memory ran out
abbrev pub StopsAtOrMemory : {X : Type 0} → Result X (OrMemory Stop) → Stop → Type 0
StopsAtOrMemory (Ok x) stop = Unit {0}
StopsAtOrMemory (Err (Fault found)) stop = found ≡ stop
StopsAtOrMemory (Err Memory) stop = Unit {0}

-- a reserved word, or a name
abbrev pub name_symbol : Option Word → Symbol
name_symbol None = symbols.Name
name_symbol (Some word) = symbols.Word word

-- what a token of this kind with these bytes is
abbrev pub symbol_by : TokenKind → List ℕ → Symbol
symbol_by kinds.Name bytes = name_symbol (word_of bytes)
symbol_by (kinds.Number n) bytes = symbols.Number n
symbol_by kinds.Text bytes = symbols.Text
symbol_by kinds.Header bytes = symbols.Header
symbol_by (kinds.Sign sign) bytes = symbols.Sign sign
symbol_by kinds.Directive bytes = symbols.Directive (directive_of bytes)

-- what a token is
unfoldable pub symbol_of : Lexeme → Symbol
symbol_of token = symbol_by token.kind token.bytes

-- no token is left
abbrev pub no_tokens : List Lexeme → Bool
no_tokens [] = true
no_tokens (token ∷ tokens) = false

-- what the first token is
unfoldable pub first_of : List Lexeme → Symbol
first_of [] = symbols.End
first_of (token ∷ tokens) = symbol_of token

-- the bytes of the first token
unfoldable pub text_of : List Lexeme → List ℕ
text_of [] = []
text_of (token ∷ tokens) = token.bytes

-- what follows the first token
unfoldable pub tail_of : List Lexeme → List Lexeme
tail_of [] = []
tail_of (token ∷ tokens) = tokens

-- the place of a sign among the signs
abbrev pub sign_number : Sign → ℕ
sign_number signs.Semicolon = 0
sign_number signs.Colon = 1
sign_number signs.Comma = 2
sign_number signs.Equals = 3
sign_number signs.OpenParenthesis = 4
sign_number signs.CloseParenthesis = 5
sign_number signs.OpenBracket = 6
sign_number signs.CloseBracket = 7
sign_number signs.Star = 8
sign_number signs.Plus = 9
sign_number signs.Minus = 10
sign_number signs.Slash = 11
sign_number signs.Caret = 12
sign_number signs.Bar = 13

-- this sign
abbrev pub is_sign : Sign → Symbol → Bool
is_sign wanted (symbols.Sign found) = sign_number found == sign_number wanted
is_sign wanted _ = false

-- after this sign
unfoldable pub after_sign : Sign → List Lexeme → Option (List Lexeme)
after_sign wanted tokens = if is_sign wanted (first_of tokens) then Some (tail_of tokens) else None

-- the first token, if it is a name of few enough bytes, and what follows it
abbrev pub name_by : Symbol → List Lexeme → Option (List ℕ × List Lexeme)
name_by symbols.Name tokens =
    if nat_le (length (text_of tokens)) limit_of_name then Some (text_of tokens, tail_of tokens)
    else None
name_by _ tokens = None

-- a name of few enough bytes that is no reserved word, and what follows it
unfoldable pub name_at : List Lexeme → Option (List ℕ × List Lexeme)
name_at tokens = name_by (first_of tokens) tokens

-- where no such name stands
abbrev pub name_stop_by : Symbol → List Lexeme → Stop
name_stop_by symbols.Name tokens = stop why.TooMany tokens
name_stop_by _ tokens = unexpected tokens

-- the stop where no name is read: it is too long, or there is none
unfoldable pub name_stop : List Lexeme → Stop
name_stop tokens = name_stop_by (first_of tokens) tokens
