-- The statement `type` is read exactly where it names a type that is known.
use Rattle.std.proofs.Common.{◌≡◌, ℕ, Bool, true, false, List, [], ◌∷◌, ◌++◌, length, Option, Some}
use Rattle.std.proofs.Common.{None, Result, Ok, Err, refl, sym, ap, ◌∙◌, subst, append_assoc}
use Rattle.std.specs.Prelude.{is_some}
use Rattle.std.proofs.lemmas.Bool.{false≢true, false_from_ne_true}
use Rattle.mrc_mig_lex.specs.declared.token.Sign.TheVariants.{Bar, Equals, Semicolon}
use Rattle.mrc_mig_symbols.specs.declared.fault.Stop.{Stop}
use Rattle.mrc_mig_tokens.specs.declared.symbol.Symbol.{Symbol}
use Rattle.mrc_mig_tokens.specs.declared.symbol.Symbol.TheVariants.{Name, Sign}
use Rattle.mrc_mig_tokens.specs.Reading.{first_of, text_of, tail_of, is_sign, unexpected}
use Rattle.mrc_mig_tokens.specs.Tokens.{Token}
use Rattle.mrc_mig_types.specs.declared.meaning.Meaning.{Meaning}
use Rattle.mrc_mig_types.specs.Specs.{Is, IsSpec}
use Rattle.mrc_mig_types.specs.Table.{Known}
use Rattle.mrc_mig_types.proofs.PhraseLemmas.{goes_to, in_two, same_Ok, first_is}
use Rattle.mrc_mig_types.proofs.PhraseLemmas.{sign_is, sign_read}
use Rattle.mrc_mig_types.proofs.SpecPhrases.{read_is_spec, spec_is_read}
use Rattle.mrc_mig_arguments.specs.Arguments.{AreOptions, none, more}
use Rattle.mrc_mig_arguments.specs.Reading.{is_option, begins_option}
use Rattle.mrc_mig_arguments.proofs.OptionPhrases.{options_is, options_read, option_begins}
use Rattle.mrc_mig_rows.specs.Declarations.{Unread, known_before, meaning_at, declare_by, unread_at}
use Rattle.mrc_mig_rows.specs.Declarations.{named_by, declaration_by, declaration_at}
use Rattle.mrc_mig_laws.specs.FileGrammar.{IsMeaning, HasName, IsDeclaration, known, unknown}
use Rattle.mrc_mig_laws.specs.FileGrammar.{nameless}

-- ---- what a type means

-- no bar follows a type before options
option_is_no_bar : (symbol : Symbol) (bytes : List ℕ) → is_option symbol bytes ≡ true
    → is_sign Bar symbol ≡ false
option_is_no_bar (Sign sign) bytes e = absurd cc
option_is_no_bar _ bytes e = refl

no_bar_there : (tokens : List Token) → begins_option tokens ≡ true
    → is_sign Bar (first_of tokens) ≡ false
unfolding begins_option
no_bar_there tokens e = option_is_no_bar (first_of tokens) (text_of tokens) e

no_bar : {options : List Token} {ends : Token} (behind : List Token) → AreOptions options
    → Is (Sign Semicolon) ends → is_sign Bar (first_of (options ++ ends ∷ behind)) ≡ false
no_bar behind none is = rw (first_is behind is) refl
no_bar {options} {ends} behind (more {one} {others} option are) is =
    ap (λ l. is_sign Bar (first_of l)) (append_assoc one others (ends ∷ behind))
    ∙ no_bar_there (one ++ (others ++ ends ∷ behind))
    (option_begins (others ++ ends ∷ behind) option)

known_is : (found : Option Meaning) (tokens : List Token) (meaning : Meaning)
    → known_before found tokens ≡ Ok meaning → found ≡ Some meaning
known_is None tokens meaning e = absurd cc
known_is (Some found) tokens meaning e = ap Some (same_Ok found meaning e)

meant_is : (types : Known) (tokens : List Token) (meaning : Meaning)
    → meaning_at types tokens ≡ Ok meaning → IsMeaning types tokens meaning
unfolding meaning_at
meant_is types tokens meaning e =
    let (begin, equal, m1) = in_two _ _ _ e in
    let (found, read, m2) = in_two _ _ _ m1 in
    let (that, told, m3) = in_two _ _ _ m2 in
    let (rest, passed, m4) = in_two _ _ _ m3 in
    let (behind, ended, done) = in_two _ _ _ m4 in
    let q = sign_is Equals tokens begin equal in
    let s = read_is_spec types begin found.0 found.1 read in
    let o = options_is found.1 rest passed in
    let c = sign_is Semicolon rest behind ended in
    let is : found.0 ≡ Some meaning =
    known_is found.0 found.1 that told ∙ ap Some (same_Ok that meaning done) in
    record {
      equals = q.0;
      spec = s.0;
      options = o.0;
      ends = c.0;
      behind = behind;
      splits = q.1 ∙ ap (λ l. q.0 ∷ l) (s.1 ∙ ap (λ l. s.0 ++ l) (o.1
          ∙ ap (λ l. o.0 ++ l) c.1));
      is_equals = q.2;
      means = subst (λ m. IsSpec types s.0 m) is s.2;
      are = o.2;
      is_ended = c.2;
    }

meant_read : {types : Known} {tokens : List Token} {meaning : Meaning}
    → IsMeaning types tokens meaning → meaning_at types tokens ≡ Ok meaning
unfolding meaning_at begins_option
meant_read {types} {tokens} {meaning} m =
    let end : List Token = m.ends ∷ m.behind in
    let stop : begins_option end ≡ false = rw (first_is m.behind m.is_ended) refl in
    rw m.splits
    (goes_to _ (sign_read (m.spec ++ (m.options ++ end)) m.is_equals)
    ∙ goes_to _ (spec_is_read types m.spec (Some meaning) (m.options ++ end) m.means
    (no_bar m.behind m.are m.is_ended))
    ∙ goes_to _ (options_read m.options end m.are stop)
    ∙ goes_to _ (sign_read m.behind m.is_ended))

-- ---- a statement

abbrev pub is_name : Symbol → Bool
is_name Name = true
is_name _ = false

pub name_is_name : (symbol : Symbol) → is_name symbol ≡ true → symbol ≡ Name
name_is_name Name e = refl
name_is_name _ e = absurd cc

none_declared : (o : Option (Option Meaning)) → is_some o ≡ false → o ≡ None
none_declared None e = refl
none_declared (Some found) e = absurd cc

-- what stops at a place means nothing
apart : (r : Result Meaning Stop) (stop : Stop) (meaning : Meaning) → r ≡ Err stop
    → r ≡ Ok meaning → ⊥
apart r stop meaning e found = absurd cc

no_meaning : (types : Known) (tokens : List Token) (stop : Stop)
    → meaning_at types tokens ≡ Err stop
    → (meaning : Meaning) → IsMeaning types tokens meaning → ⊥
no_meaning types tokens stop e meaning is =
    apart (meaning_at types tokens) stop meaning e (meant_read is)

-- what a name is declared as, by what is read behind it
abbrev given : Known → Token → List Token → ℕ → Result Meaning Stop → Known × Option Unread
given types named rest place r = (
  (declare_by types named.bytes r).0,
  unread_at named.bytes place (declare_by types named.bytes r).1,
)

by_meaning : (types : Known) (word named : Token) (rest : List Token)
    (said : Known × Option Unread) (r : Result Meaning Stop)
    → Is Name named → types.declared named.bytes ≡ None → meaning_at types rest ≡ r
    → given types named rest (length (word ∷ named ∷ rest)) r ≡ said
    → IsDeclaration types (word ∷ named ∷ rest) said.0 said.1
by_meaning types word named rest said (Ok meaning) is free e same =
    subst (λ (x : Known × Option Unread). IsDeclaration types (word ∷ named ∷ rest) x.0 x.1) same
    (known is free (meant_is types rest meaning e))
by_meaning types word named rest said (Err stop) is free e same =
    subst (λ (x : Known × Option Unread). IsDeclaration types (word ∷ named ∷ rest) x.0 x.1) same
    (unknown is free (no_meaning types rest stop e) e)

-- by whether the name is declared already
by_name : (b : Bool) (types : Known) (word named : Token) (rest : List Token)
    (said : Known × Option Unread) → Is Name named
    → is_some (types.declared named.bytes) ≡ b
    → named_by b types (length (word ∷ named ∷ rest)) (named ∷ rest) ≡ Ok said
    → IsDeclaration types (word ∷ named ∷ rest) said.0 said.1
unfolding text_of tail_of
by_name true types word named rest said is test e = absurd cc
by_name false types word named rest said is test e =
    by_meaning types word named rest said (meaning_at types rest) is
    (none_declared (types.declared named.bytes) test) refl
    (same_Ok (given types named rest (length (word ∷ named ∷ rest)) (meaning_at types rest)) said e)

-- a statement without a name
no_name : (symbol : Symbol) (types : Known) (place : ℕ) (tokens : List Token)
    → is_name symbol ≡ false
    → declaration_by symbol types place tokens
    ≡ Ok (types, Some (record { name = None; at = place; stop = unexpected tokens }))
no_name Name types place tokens e = absurd cc
no_name _ types place tokens e = refl

pub has_no_name : (tokens : List Token) → is_name (first_of tokens) ≡ false → HasName tokens → ⊥
unfolding first_of
has_no_name tokens test (named, later, splits, is) =
    false≢true (sym test ∙ ap (λ l. is_name (first_of l)) splits ∙ ap (λ s. is_name s) is.seen)

nameless_is : (types : Known) (word : Token) (later : List Token) (said : Known × Option Unread)
    → is_name (first_of later) ≡ false
    → declaration_by (first_of later) types (length (word ∷ later)) later ≡ Ok said
    → IsDeclaration types (word ∷ later) said.0 said.1
nameless_is types word later said test e =
    subst (λ (x : Known × Option Unread). IsDeclaration types (word ∷ later) x.0 x.1)
    (same_Ok _ said (sym (no_name (first_of later) types (length (word ∷ later)) later test) ∙ e))
    (nameless (has_no_name later test))

-- by whether a name comes first
by_first : (b : Bool) (types : Known) (word named : Token) (rest : List Token)
    (said : Known × Option Unread) → is_name named.symbol ≡ b
    → declaration_by named.symbol types (length (word ∷ named ∷ rest)) (named ∷ rest) ≡ Ok said
    → IsDeclaration types (word ∷ named ∷ rest) said.0 said.1
unfolding first_of text_of
by_first false types word named rest said test e =
    nameless_is types word (named ∷ rest) said test e
by_first true types word named rest said test e =
    let first = name_is_name named.symbol test in
    by_name (is_some (types.declared named.bytes)) types word named rest said
    (record { seen = first }) refl
    (ap (λ s. declaration_by s types (length (word ∷ named ∷ rest)) (named ∷ rest)) (sym first) ∙ e)

-- what is read of a `type` statement is declared
pub declaration_is : (types : Known) (word : Token) (later : List Token)
    (said : Known × Option Unread) → declaration_at types (word ∷ later) ≡ Ok said
    → IsDeclaration types (word ∷ later) said.0 said.1
unfolding declaration_at first_of tail_of
declaration_is types word [] said e = nameless_is types word [] said refl e
declaration_is types word (named ∷ rest) said e =
    by_first (is_name named.symbol) types word named rest said refl e

-- and what is declared is read
pub has_name : (tokens : List Token) → (HasName tokens → ⊥) → is_name (first_of tokens) ≡ false
unfolding first_of
has_name [] absent = refl
has_name (named ∷ later) absent =
    false_from_ne_true (is_name named.symbol) (λ e. absent (
      named,
      later,
      refl,
      record {
        seen = name_is_name named.symbol e;
      },
    ))

pub declaration_read : {types next : Known} {tokens : List Token} {unread : Option Unread}
    → IsDeclaration types tokens next unread → declaration_at types tokens ≡ Ok (next, unread)
unfolding declaration_at first_of text_of tail_of
declaration_read (known is free meant) = rw (is.seen, free, meant_read meant) refl
declaration_read (unknown is free nothing e) = rw (is.seen, free, e) refl
declaration_read {types} (nameless {word} {later} absent) =
    no_name (first_of later) types (length (word ∷ later)) later (has_name later absent)
