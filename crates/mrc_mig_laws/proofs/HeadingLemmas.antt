-- The statements `subsystem` and `skip` are read exactly where they stand.
use Rattle.std.proofs.Common.{◌≡◌, ℕ, ◌≤◌, ◌||◌, Bool, true, false, List, [], ◌∷◌, ◌++◌}
use Rattle.std.proofs.Common.{length, Some, Ok, refl, sym, ap, ◌∙◌, subst}
use Rattle.std.proofs.Common.{if◌then◌else◌, append_assoc}
use Rattle.std.proofs.Math.Bool.{or_assoc, or-false}
use Rattle.std.specs.Prelude.{nat_lt}
use Rattle.std.proofs.lemmas.Bool.{ltb-false, le-ltb}
use Rattle.mrc_base.specs.Limits.{limit_of_name}
use Rattle.mrc_mig_lex.specs.declared.token.Sign.TheVariants as signs
use Rattle.mrc_mig_tokens.specs.declared.symbol.Symbol.{Symbol}
use Rattle.mrc_mig_tokens.specs.declared.symbol.Symbol.TheVariants as symbols
use Rattle.mrc_mig_tokens.specs.Reading.{first_of, tail_of, after_sign}
use Rattle.mrc_mig_tokens.specs.Tokens.{Token}
use Rattle.mrc_mig_types.specs.Specs.{Is}
use Rattle.mrc_mig_types.proofs.PhraseLemmas.{goes_to, in_two, same_Ok, front, first_is, tail_is}
use Rattle.mrc_mig_types.proofs.PhraseLemmas.{sign_is, sign_read, name_is, name_read}
use Rattle.mrc_mig_rows.specs.declared.kinds.StatementKind.{StatementKind}
use Rattle.mrc_mig_rows.specs.declared.kinds.StatementKind.TheVariants as kinds
use Rattle.mrc_mig_rows.specs.Headings.{Subsystem, is_side, is_server, sides_from, number_by}
use Rattle.mrc_mig_rows.specs.Headings.{number_at, short_by, short_name_at, heading_at, skipped_by}
use Rattle.mrc_mig_rows.specs.Headings.{skip_at}
use Rattle.mrc_mig_rows.specs.Kinds.{kind_by, statement_kind}
use Rattle.mrc_mig_rows.specs.Statements.{is_other, is_semicolon, IsInside, nothing, other}
use Rattle.mrc_mig_rows.specs.Statements.{IsStatement}
use Rattle.mrc_mig_rows.proofs.StatementLemmas.{is_read}
use Rattle.mrc_mig_laws.specs.FileGrammar.{AreSides, none, more, IsHeading, IsSkip, one, many}

-- ---- statements

-- one statement stands at the front
pub one_statement : (tokens behind rest : List Token) → IsStatement tokens behind
    → IsStatement tokens rest → rest ≡ behind
one_statement tokens behind rest is also =
    same_Ok rest behind (sym (is_read tokens rest also) ∙ is_read tokens behind is)

-- a statement that is not passed begins with a word or a name
abbrev pub is_said : StatementKind → Bool
is_said kinds.Passed = false
is_said _ = true

word_is_other : (symbol : Symbol) (bytes : List ℕ) (kind : StatementKind)
    → kind_by symbol bytes ≡ Some kind → is_said kind ≡ true → is_other symbol ≡ true
word_is_other (symbols.Word word) bytes kind e said = refl
word_is_other symbols.Name bytes kind e said = refl
word_is_other (symbols.Sign signs.Semicolon) bytes kinds.Passed e said = absurd cc
word_is_other (symbols.Sign signs.Semicolon) bytes _ e said = absurd cc
word_is_other _ bytes kind e said = absurd cc

pub begins_with_word : (word : Token) (later : List Token) (kind : StatementKind)
    → statement_kind (word ∷ later) ≡ Some kind → is_said kind ≡ true
    → is_other word.symbol ≡ true
unfolding statement_kind first_of
begins_with_word word later kind e said =
    word_is_other word.symbol _ kind e said

-- a token of this symbol, which opens and closes nothing
stays : (symbol : Symbol) → is_other symbol ≡ true → {token : Token} → Is symbol token
    → is_other token.symbol ≡ true
stays symbol e is = ap (λ s. is_other s) is.seen ∙ e

ends_there : {token : Token} → Is (symbols.Sign signs.Semicolon) token
    → is_semicolon token.symbol ≡ true
ends_there is = ap (λ s. is_semicolon s) is.seen

-- ---- `subsystem`

side_is_other : (symbol : Symbol) → is_side symbol ≡ true → is_other symbol ≡ true
side_is_other (symbols.Word word) e = refl
side_is_other _ e = absurd cc

sides_inside : {sides : List Token} {has : Bool} (later : List Token) → AreSides sides has
    → IsInside 0 later → IsInside 0 (sides ++ later)
sides_inside later none stands = stands
sides_inside later (more {side} {others} is are) stands =
    other 0 side (others ++ later) (side_is_other side.symbol is) (sides_inside later are stands)

-- the sides at the front
record Sided (before : Bool) (tokens : List Token) (found : Bool × List Token) : Type 0 where
  sides : List Token
  has : Bool
  splits : tokens ≡ sides ++ found.1
  are : AreSides sides has
  is : found.0 ≡ (before || has)

sides_are : (before : Bool) (tokens : List Token)
    → Sided before tokens (sides_from before tokens)
unfolding sides_from
sides_are before [] = record {
  sides = [];
  has = false;
  splits = refl;
  are = none;
  is = sym (or-false before);
}
sides_are before (token ∷ tokens) =
    by (is_side token.symbol) refl (sides_are (before || is_server token.bytes) tokens)
  where
    by : (b : Bool) → is_side token.symbol ≡ b
        → Sided (before || is_server token.bytes) tokens
        (sides_from (before || is_server token.bytes) tokens)
        → Sided before (token ∷ tokens)
        (if b then sides_from (before || is_server token.bytes) tokens
        else (before, token ∷ tokens))
    by true test later = record {
      sides = token ∷ later.sides;
      has = is_server token.bytes || later.has;
      splits = ap (λ ts. token ∷ ts) later.splits;
      are = more test later.are;
      is = later.is ∙ or_assoc before (is_server token.bytes) later.has;
    }
    by false test later = record {
      sides = [];
      has = false;
      splits = refl;
      are = none;
      is = sym (or-false before);
    }

sides_read : (before : Bool) {sides : List Token} {has : Bool} (token : Token) (rest : List Token)
    → AreSides sides has → is_side token.symbol ≡ false
    → sides_from before (sides ++ token ∷ rest) ≡ (before || has, token ∷ rest)
unfolding sides_from
sides_read before token rest none stop =
    rw stop (ap (λ b. (b, token ∷ rest)) (sym (or-false before)))
sides_read before token rest (more {side} {others} {has_server} is are) stop =
    rw is (sides_read (before || is_server side.bytes) token rest are stop
    ∙ ap (λ b. (b, token ∷ rest)) (or_assoc before (is_server side.bytes) has_server))

-- a number
number_is_by : (symbol : Symbol) (tokens : List Token) (found : ℕ × List Token)
    → first_of tokens ≡ symbol → number_by symbol tokens ≡ Ok found
    → (token : Token) × (tokens ≡ token ∷ found.1) × Is (symbols.Number found.0) token
number_is_by (symbols.Number n) tokens found is e =
    let f = front (symbols.Number n) tokens refl is in
    let same = same_Ok (n, tail_of tokens) found e in (
      f.token,
      f.splits ∙ ap (λ (r : ℕ × List Token). f.token ∷ r.1) same,
      subst (λ (r : ℕ × List Token). Is (symbols.Number r.0) f.token) same f.is,
    )
number_is_by _ tokens found is e = absurd cc

number_is : (tokens : List Token) (found : ℕ × List Token) → number_at tokens ≡ Ok found
    → (token : Token) × (tokens ≡ token ∷ found.1) × Is (symbols.Number found.0) token
unfolding number_at
number_is tokens found e = number_is_by (first_of tokens) tokens found refl e

number_read : {token : Token} {n : ℕ} (rest : List Token) → Is (symbols.Number n) token
    → number_at (token ∷ rest) ≡ Ok (n, rest)
unfolding number_at
number_read {token} rest is = rw (first_is rest is, tail_is token rest) refl

-- a name that is not too long
short_is : (b : Bool) (name found : List ℕ × List Token) (tokens : List Token)
    → nat_lt limit_of_name (length name.0) ≡ b → short_by b name tokens ≡ Ok found
    → (name ≡ found) × (length name.0 ≤ limit_of_name)
short_is true name found tokens test e = absurd cc
short_is false name found tokens test e =
    (same_Ok name found e, ltb-false limit_of_name (length name.0) test)

short_name_is : (tokens : List Token) (found : List ℕ × List Token)
    → short_name_at tokens ≡ Ok found
    → (token : Token) × (tokens ≡ token ∷ found.1) × Is symbols.Name token
    × (token.bytes ≡ found.0) × (length token.bytes ≤ limit_of_name)
unfolding short_name_at
short_name_is tokens found e =
    let (name, named, short) = in_two _ _ _ e in
    let n = name_is tokens name named in
    let s = short_is (nat_lt limit_of_name (length name.0)) name found tokens refl short in (
      n.0,
      n.1 ∙ ap (λ (r : List ℕ × List Token). n.0 ∷ r.1) s.0,
      n.2,
      n.3 ∙ ap (λ (r : List ℕ × List Token). r.0) s.0,
      subst (λ (b : List ℕ). length b ≤ limit_of_name) (sym n.3) s.1,
    )

short_name_read : {token : Token} (rest : List Token) → Is symbols.Name token
    → length token.bytes ≤ limit_of_name
    → short_name_at (token ∷ rest) ≡ Ok (token.bytes, rest)
unfolding short_name_at
short_name_read {token} rest is short =
    goes_to _ (name_read rest is)
    ∙ ap (λ b. short_by b (token.bytes, rest) (token ∷ rest))
    (le-ltb limit_of_name (length token.bytes) short)

-- a subsystem that is read stands there
pub heading_is : (word : Token) (later behind : List Token) (heading : Subsystem)
    → is_other word.symbol ≡ true → IsStatement (word ∷ later) behind
    → heading_at later ≡ Ok heading → IsHeading (word ∷ later) behind heading
unfolding heading_at
heading_is word later behind heading begins statement e =
    let sided = sides_are false later in
    let (name, named, m1) = in_two _ _ _ e in
    let (base, based, m2) = in_two _ _ _ m1 in
    let (rest, ended, done) = in_two _ _ _ m2 in
    let n = short_name_is (sides_from false later).1 name named in
    let b = number_is name.1 base based in
    let s = sign_is signs.Semicolon base.1 rest ended in
    let says : Subsystem = record {
      name = name.0;
      base = base.0;
      is_kernel_server = (sides_from false later).0;
    } in
    let splits : word ∷ later ≡ word ∷ (sided.sides ++ n.0 ∷ b.0 ∷ s.0 ∷ rest) =
    ap (λ ts. word ∷ ts) (sided.splits ∙ ap (λ ts. sided.sides ++ ts)
    (n.1 ∙ ap (λ ts. n.0 ∷ ts) (b.1 ∙ ap (λ ts. b.0 ∷ ts) s.1))) in
    let inside : List Token = word ∷ (sided.sides ++ n.0 ∷ b.0 ∷ []) in
    let regrouped : inside ++ s.0 ∷ rest ≡ word ∷ (sided.sides ++ n.0 ∷ b.0 ∷ s.0 ∷ rest) =
    ap (λ ts. word ∷ ts) (append_assoc sided.sides (n.0 ∷ b.0 ∷ []) (s.0 ∷ rest)) in
    let stands : IsInside 0 inside =
    other 0 word (sided.sides ++ n.0 ∷ b.0 ∷ []) begins
    (sides_inside (n.0 ∷ b.0 ∷ []) sided.are
    (other 0 n.0 (b.0 ∷ []) (stays symbols.Name refl n.2)
    (other 0 b.0 [] (stays (symbols.Number base.0) refl b.2) nothing))) in
    let also : IsStatement (word ∷ later) rest = record {
      inside = inside;
      end = s.0;
      splits = splits ∙ sym regrouped;
      ends = ends_there s.2;
      stands = stands;
    } in
    let there = one_statement (word ∷ later) behind rest statement also in
    let found : IsHeading (word ∷ later) rest says = record {
      word = word;
      sides = sided.sides;
      named = n.0;
      number = b.0;
      ends = s.0;
      splits = splits;
      are_sides = subst (λ h. AreSides sided.sides h) (sym sided.is) sided.are;
      is_named = n.2;
      name_is = sym n.3;
      is_short = n.4;
      base_is = b.2;
      is_ended = s.2;
    } in
    subst (λ h. IsHeading (word ∷ later) behind h) (same_Ok says heading done)
    (subst (λ r. IsHeading (word ∷ later) r says) there found)

-- and what stands there is read
same_heading : (heading : Subsystem) (name : List ℕ) → heading.name ≡ name
    → let said : Subsystem = record {
      name = name;
      base = heading.base;
      is_kernel_server = heading.is_kernel_server;
    } in said ≡ heading
same_heading heading name e = rw (← e) refl

pub heading_read : {tokens behind : List Token} {heading : Subsystem}
    → IsHeading tokens behind heading → heading_at (tail_of tokens) ≡ Ok heading
unfolding heading_at
heading_read {tokens} {behind} {heading} h =
    let rest : List Token = h.named ∷ h.number ∷ h.ends ∷ behind in
    let stop : is_side h.named.symbol ≡ false = ap (λ s. is_side s) h.is_named.seen in
    let tail : tail_of tokens ≡ h.sides ++ rest =
    ap (λ ts. tail_of ts) h.splits ∙ tail_is h.word (h.sides ++ rest) in
    rw (tail, sides_read false h.named (h.number ∷ h.ends ∷ behind) h.are_sides stop)
    (goes_to _ (short_name_read (h.number ∷ h.ends ∷ behind) h.is_named h.is_short)
    ∙ goes_to _ (number_read (h.ends ∷ behind) h.base_is)
    ∙ goes_to _ (sign_read behind h.is_ended)
    ∙ ap (λ x. Ok x) (same_heading heading h.named.bytes h.name_is))

-- ---- `skip`

-- by the symbol behind the word
skip_is_by : (word : Token) (symbol : Symbol) (later behind rest : List Token) (count : ℕ)
    → is_other word.symbol ≡ true → IsStatement (word ∷ later) behind → first_of later ≡ symbol
    → after_sign signs.Semicolon (skipped_by symbol later).1 ≡ Ok rest
    → (skipped_by symbol later).0 ≡ count
    → IsSkip (word ∷ later) behind count
skip_is_by word (symbols.Number n) later behind rest count begins statement first ended is =
    let f = front (symbols.Number n) later refl first in
    let s = sign_is signs.Semicolon (tail_of later) rest ended in
    let splits : word ∷ later ≡ word ∷ f.token ∷ s.0 ∷ rest =
    ap (λ ts. word ∷ ts) (f.splits ∙ ap (λ ts. f.token ∷ ts) s.1) in
    let also : IsStatement (word ∷ later) rest = record {
      inside = word ∷ f.token ∷ [];
      end = s.0;
      splits = splits;
      ends = ends_there s.2;
      stands = other 0 word (f.token ∷ []) begins
          (other 0 f.token [] (stays (symbols.Number n) refl f.is) nothing);
    } in
    let there = one_statement (word ∷ later) behind rest statement also in
    let found : IsSkip (word ∷ f.token ∷ s.0 ∷ behind) behind n = many f.is s.2 in
    subst (λ c. IsSkip (word ∷ later) behind c) is
    (subst (λ ts. IsSkip ts behind n)
    (sym (splits ∙ ap (λ ts. word ∷ f.token ∷ s.0 ∷ ts) there)) found)
skip_is_by word _ later behind rest count begins statement first ended is =
    let s = sign_is signs.Semicolon later rest ended in
    let splits : word ∷ later ≡ word ∷ s.0 ∷ rest = ap (λ ts. word ∷ ts) s.1 in
    let also : IsStatement (word ∷ later) rest = record {
      inside = word ∷ [];
      end = s.0;
      splits = splits;
      ends = ends_there s.2;
      stands = other 0 word [] begins nothing;
    } in
    let there = one_statement (word ∷ later) behind rest statement also in
    let found : IsSkip (word ∷ s.0 ∷ behind) behind 1 = one s.2 in
    subst (λ c. IsSkip (word ∷ later) behind c) is
    (subst (λ ts. IsSkip ts behind 1)
    (sym (splits ∙ ap (λ ts. word ∷ s.0 ∷ ts) there)) found)

pub skip_is : (word : Token) (later behind : List Token) (count : ℕ)
    → is_other word.symbol ≡ true → IsStatement (word ∷ later) behind
    → skip_at later ≡ Ok count → IsSkip (word ∷ later) behind count
unfolding skip_at
skip_is word later behind count begins statement e =
    let (rest, ended, done) = in_two _ _ _ e in
    skip_is_by word (first_of later) later behind rest count begins statement refl ended
    (same_Ok (skipped_by (first_of later) later).0 count done)

pub skip_read : {tokens behind : List Token} {count : ℕ} → IsSkip tokens behind count
    → skip_at (tail_of tokens) ≡ Ok count
unfolding skip_at
skip_read {behind} (one {word} {ends} is) =
    rw (tail_is word (ends ∷ behind), first_is behind is) (goes_to _ (sign_read behind is))
skip_read {behind} (many {word} {number} {ends} is also) =
    rw (
      tail_is word (number ∷ ends ∷ behind),
      first_is (ends ∷ behind) is,
      tail_is number (ends ∷ behind),
    ) (goes_to _ (sign_read behind also))
