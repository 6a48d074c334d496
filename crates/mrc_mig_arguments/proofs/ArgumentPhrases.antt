-- Arguments are read exactly where they stand.
use Rattle.std.proofs.Common.{◌≡◌, ℕ, ◌+◌, ◌-◌, Bool, true, false, List, [], ◌∷◌, ◌++◌, length}
use Rattle.std.proofs.Common.{take}
use Rattle.std.proofs.Common.{Option, Some, None, Ok, refl, sym, ap, ◌∙◌, subst, arith}
use Rattle.std.proofs.Common.{append_assoc, length-append}
use Rattle.std.proofs.Math.Seq.{take-append_seam}
use Rattle.std.proofs.lemmas.Bool.{false_from_ne_true, false≢true}
use Rattle.mrc_mig_lex.specs.declared.token.Sign.{Sign as TokenSign}
use Rattle.mrc_mig_lex.specs.declared.token.Sign.TheVariants.{Colon, Comma, Equals, Bar}
use Rattle.mrc_mig_lex.specs.declared.token.Sign.TheVariants.{OpenBracket}
use Rattle.mrc_mig_tokens.specs.declared.symbol.Symbol.{Symbol}
use Rattle.mrc_mig_tokens.specs.declared.symbol.Symbol.TheVariants.{Word, Name, Sign}
use Rattle.mrc_mig_tokens.specs.Tokens.{Token}
use Rattle.mrc_mig_tokens.specs.Reading.{first_of, text_of, tail_of, is_sign, any_name_at}
use Rattle.mrc_mig_types.specs.declared.meaning.Meaning.{Meaning}
use Rattle.mrc_mig_types.specs.Specs.{Is, AreFlags}
use Rattle.mrc_mig_types.specs.Specs.{none as no_flag, plain, with_brackets}
use Rattle.mrc_mig_types.specs.Table.{Known, type_of}
use Rattle.mrc_mig_types.proofs.BasicPhrases.{flags_is, flags_read}
use Rattle.mrc_mig_types.proofs.PhraseLemmas.{Leads, goes_to, in_two, same_Ok, front, first_is}
use Rattle.mrc_mig_types.proofs.PhraseLemmas.{tail_is, text_is, is_that_sign, is_next, sign_is}
use Rattle.mrc_mig_types.proofs.PhraseLemmas.{sign_read, name_is, name_read}
use Rattle.mrc_mig_types.proofs.SpecPhrases.{read_is_spec, spec_is_read}
use Rattle.mrc_mig_arguments.specs.declared.argument.Role.{Role}
use Rattle.mrc_mig_arguments.specs.Words.{role_of_word, asks_count, Written, says}
use Rattle.mrc_mig_arguments.specs.Reading.{role_by, role_of, marked_by, role_at, meaning_by}
use Rattle.mrc_mig_arguments.specs.Reading.{meaning_at, flagged_at, argument_at, begins_option}
use Rattle.mrc_mig_arguments.specs.Reading.{is_option}
use Rattle.mrc_mig_arguments.specs.Arguments.{IsOption, c_type, translation, payload, destructor}
use Rattle.mrc_mig_arguments.specs.Arguments.{AreOptions, none, more, IsMark, unmarked, marked}
use Rattle.mrc_mig_arguments.specs.Arguments.{IsTyped, declared, own, IsArgument, argument, belongs}
use Rattle.mrc_mig_arguments.specs.Arguments.{ReadIsArgument, ArgumentIsRead}
use Rattle.mrc_mig_arguments.proofs.OptionPhrases.{options_is, options_read}

-- ---- what is read stands there

-- the word in front of an argument, and what is behind it
abbrev IsMarkAt : List Token → Role × List Token → Type 0
IsMarkAt tokens found = Leads (λ w. IsMark w found.0) tokens found.1

word_is : (symbol : Symbol) (tokens : List Token) (role : Role) → first_of tokens ≡ symbol
    → role_by symbol (text_of tokens) ≡ Some role → IsMarkAt tokens (role, tail_of tokens)
word_is (Word word) tokens role first e =
    let f = front (Word word) tokens refl first in
    (f.token ∷ [], f.splits, marked f.is (ap (λ t. role_of_word t) (sym f.text) ∙ e))
word_is _ tokens role first e = absurd cc

mark_is_by : (o : Option Role) (tokens : List Token) → role_of tokens ≡ o
    → IsMarkAt tokens (marked_by o tokens)
mark_is_by None tokens e = ([], refl, unmarked)
mark_is_by (Some role) tokens e = word_is (first_of tokens) tokens role refl e

mark_is : (tokens : List Token) → IsMarkAt tokens (role_at tokens)
unfolding role_at
mark_is tokens = mark_is_by (role_of tokens) tokens refl

-- what an argument's type means, behind its name
meaning_is_by : (types : Known) (b : Bool) (name : Token) (tokens : List Token)
    (found : Option Meaning × List Token) → Is Name name → is_sign Equals (first_of tokens) ≡ b
    → meaning_by b types name.bytes tokens ≡ Ok found
    → Leads (λ w. IsTyped types w name.bytes found.0) (name ∷ tokens) found.1
meaning_is_by types false name tokens found is no_equals e =
    let same = same_Ok (type_of types name.bytes, tokens) found e in (
      name ∷ [],
      ap (λ (r : Option Meaning × List Token). name ∷ r.1) same,
      subst (λ (r : Option Meaning × List Token). IsTyped types (name ∷ []) name.bytes r.0) same
          (declared is),
    )
meaning_is_by types true name tokens found is equal e =
    let (spec, read, onward) = in_two _ _ _ e in
    let (behind, passed, done) = in_two _ _ _ onward in
    let f = front (Sign Equals) tokens refl (is_that_sign Equals (first_of tokens) equal) in
    let s = read_is_spec types (tail_of tokens) spec.0 spec.1 read in
    let o = options_is spec.1 behind passed in
    let same = same_Ok (spec.0, behind) found done in
    let inside : tail_of tokens ≡ (s.0 ++ o.0) ++ behind =
    s.1 ∙ ap (λ t. s.0 ++ t) o.1 ∙ sym (append_assoc s.0 o.0 behind) in
    subst (λ (r : Option Meaning × List Token). Leads (λ w. IsTyped types w name.bytes r.0)
    (name ∷ tokens) r.1) same (
      name ∷ f.token ∷ (s.0 ++ o.0),
      ap (λ t. name ∷ t) (f.splits ∙ ap (λ t. f.token ∷ t) inside),
      own is f.is s.2 o.2,
    )

-- an argument's type
typed_is : (types : Known) (tokens : List Token) (named : List ℕ × List Token)
    (found : Option Meaning × List Token) → any_name_at tokens ≡ Ok named
    → meaning_at types named.0 named.1 ≡ Ok found
    → Leads (λ w. IsTyped types w named.0 found.0) tokens found.1
unfolding meaning_at
typed_is types tokens named found e read =
    let n = name_is tokens named e in
    let t = meaning_is_by types (is_sign Equals (first_of named.1)) n.0 named.1 found n.2 refl
    (subst (λ b. meaning_by (is_sign Equals (first_of named.1)) types b named.1 ≡ Ok found)
    (sym n.3) read) in
    (t.0, n.1 ∙ t.1, subst (λ b. IsTyped types t.0 b found.0) n.3 t.2)

-- the tokens before those that are left
taken : (written rest : List Token)
    → take (length (written ++ rest) - length rest) (written ++ rest) ≡ written
taken written rest =
    let long : length (written ++ rest) ≡ length written + length rest =
    length-append written rest in
    let count : length (written ++ rest) - length rest ≡ length written = omega (arith, long) in
    rw count (take-append_seam written rest)

-- flags with whether `countinout` is among them
record Flagged (tokens : List Token) (counts : Bool) (rest : List Token) : Type 0 where
  flags : List Token
  splits : tokens ≡ flags ++ rest
  are : AreFlags flags
  count : asks_count flags ≡ counts

flagged_is : (tokens : List Token) (found : Bool × List Token) → flagged_at tokens ≡ Ok found
    → Flagged tokens found.0 found.1
unfolding flagged_at
flagged_is tokens found e =
    let (behind, passed, done) = in_two _ _ _ e in
    let f = flags_is tokens behind passed in
    let same = same_Ok (asks_count (take (length tokens - length behind) tokens), behind) found
    done in
    let among : asks_count f.0
    ≡ asks_count (take (length tokens - length behind) tokens) =
    ap (λ t. asks_count t) (sym (taken f.0 behind))
    ∙ ap (λ t. asks_count (take (length t - length behind) t)) (sym f.1) in
    record {
      flags = f.0;
      splits = f.1 ∙ ap (λ (r : Bool × List Token). f.0 ++ r.1) same;
      are = f.2;
      count = among ∙ ap (λ (r : Bool × List Token). r.0) same;
    }

-- where its parts stand
record Parts (types : Known) (tokens : List Token) (found : Written) (rest : List Token)
    : Type 0 where
  mark : List Token
  name : Token
  colon : Token
  typed : List Token
  behind : List Token
  flagged : Flagged behind found.counts rest
  is_marked : IsMark mark found.role
  are_named : Is Name name × Is (Sign Colon) colon
  is_typed : IsTyped types typed found.type_name found.meaning
  named : name.bytes ≡ found.name
  splits : tokens ≡ mark ++ name ∷ colon ∷ (typed ++ (flagged.flags ++ rest))
  begins : found.at ≡ length tokens
  name_begins : found.name_at ≡ length (name ∷ colon ∷ (typed ++ (flagged.flags ++ rest)))
  type_begins : found.type_at ≡ length (typed ++ (flagged.flags ++ rest))

whole : (mark : List Token) (name colon : Token) (typed flags rest : List Token)
    → mark ++ name ∷ colon ∷ (typed ++ (flags ++ rest))
    ≡ (mark ++ name ∷ colon ∷ (typed ++ flags)) ++ rest
whole mark name colon typed flags rest =
    ap (λ t. mark ++ name ∷ colon ∷ t) (sym (append_assoc typed flags rest))
    ∙ sym (append_assoc mark (name ∷ colon ∷ (typed ++ flags)) rest)

-- its parts are an argument
assembled : (types : Known) (tokens : List Token) (found : Written) (rest : List Token)
    → Parts types tokens found rest → Leads (λ w. IsArgument types rest w found) tokens rest
assembled types tokens found rest p =
    let flags : List Token = p.flagged.flags in
    let from_type : List Token = p.typed ++ (flags ++ rest) in
    let same : says found.role p.name.bytes found.type_name found.meaning (asks_count flags)
    (length (p.mark ++ p.name ∷ p.colon ∷ from_type)) (length (p.name ∷ p.colon ∷ from_type))
    (length from_type) ≡ found =
    rw (← p.splits, ← p.begins, ← p.name_begins, ← p.type_begins, p.named, p.flagged.count) refl
    in (
      p.mark ++ p.name ∷ p.colon ∷ (p.typed ++ flags),
      p.splits ∙ whole p.mark p.name p.colon p.typed flags rest,
      subst (λ f. IsArgument types rest (p.mark ++ p.name ∷ p.colon ∷ (p.typed ++ flags)) f) same
          (argument p.is_marked p.are_named.0 p.are_named.1 p.is_typed p.flagged.are),
    )

pub read_is_argument : ReadIsArgument
unfolding argument_at
read_is_argument types tokens found rest e =
    let (named, read, m1) = in_two _ _ _ e in
    let (type, separated, m2) = in_two _ _ _ m1 in
    let (type_named, type_read, m3) = in_two _ _ _ m2 in
    let (meant, understood, m4) = in_two _ _ _ m3 in
    let (flagged, passed, done) = in_two _ _ _ m4 in
    let m = mark_is tokens in
    let n = name_is (role_at tokens).1 named read in
    let c = sign_is Colon named.1 type separated in
    let t = typed_is types type type_named meant type_read understood in
    let f = flagged_is meant.1 flagged passed in
    let behind : type ≡ t.0 ++ (f.flags ++ flagged.1) = t.1 ∙ ap (λ x. t.0 ++ x) f.splits in
    let from_name : (role_at tokens).1 ≡ n.0 ∷ c.0 ∷ (t.0 ++ (f.flags ++ flagged.1)) =
    n.1 ∙ ap (λ x. n.0 ∷ x) (c.1 ∙ ap (λ x. c.0 ∷ x) behind) in
    let written : Written = says (role_at tokens).0 named.0 type_named.0 meant.0 flagged.0
    (length tokens) (length (role_at tokens).1) (length type) in
    let same : (written, flagged.1) ≡ (found, rest) = same_Ok (written, flagged.1) (found, rest)
    done in
    let parts : Parts types tokens written flagged.1 = record {
      mark = m.0;
      name = n.0;
      colon = c.0;
      typed = t.0;
      behind = meant.1;
      flagged = f;
      is_marked = m.2;
      are_named = (n.2, c.2);
      is_typed = t.2;
      named = n.3;
      splits = m.1 ∙ ap (λ x. m.0 ++ x) from_name;
      begins = refl;
      name_begins = ap length from_name;
      type_begins = ap length behind;
    } in
    subst (λ (r : Written × List Token). Leads (λ w. IsArgument types r.1 w r.0) tokens r.1) same
    (assembled types tokens written flagged.1 parts)

-- ---- what stands there is read

-- nothing behind a type belongs to it
record Quiet (tokens : List Token) : Type 0 where
  no_equals : is_sign Equals (first_of tokens) ≡ false
  no_bar : is_sign Bar (first_of tokens) ≡ false
  no_option : begins_option tokens ≡ false

not_sign : (wanted : TokenSign) (symbol : Symbol) (bytes : List ℕ)
    → belongs (Sign wanted) bytes ≡ true → belongs symbol bytes ≡ false
    → is_sign wanted symbol ≡ false
not_sign wanted symbol bytes all ends =
    false_from_ne_true (is_sign wanted symbol)
    (λ e. false≢true (sym ends ∙ ap (λ s. belongs s bytes) (is_that_sign wanted symbol e) ∙ all))

not_option : (symbol : Symbol) (bytes : List ℕ) → belongs symbol bytes ≡ false
    → is_option symbol bytes ≡ false
not_option (Sign sign) bytes ends = refl
not_option symbol bytes ends = ends

quiet : {flags : List Token} (rest : List Token) → AreFlags flags
    → belongs (first_of rest) (text_of rest) ≡ false → Quiet (flags ++ rest)
unfolding begins_option
quiet rest no_flag ends = record {
  no_equals = not_sign Equals (first_of rest) (text_of rest) refl ends;
  no_bar = not_sign Bar (first_of rest) (text_of rest) refl ends;
  no_option = not_option (first_of rest) (text_of rest) ends;
}
quiet rest (plain {comma} {flag} {others} c f are) ends =
    let first = first_is (flag ∷ (others ++ rest)) c in
    record {
      no_equals = rw first refl;
      no_bar = rw first refl;
      no_option = rw first refl;
    }
quiet rest (with_brackets {comma} {flag} {opens} {closes} {others} c f o b are) ends =
    let first = first_is (flag ∷ opens ∷ closes ∷ (others ++ rest)) c in
    record {
      no_equals = rw first refl;
      no_bar = rw first refl;
      no_option = rw first refl;
    }

-- no bar follows a type before options
option_bar : {one : List Token} (rest : List Token) → IsOption one
    → is_sign Bar (first_of (one ++ rest)) ≡ false
option_bar rest (c_type {word} {colon} {name} w c n) =
    rw (first_is (colon ∷ name ∷ rest) w) refl
option_bar rest (translation {word} {colon} {name} {called} w c n is) =
    rw (first_is (colon ∷ name ∷ (called ++ rest)) w) refl
option_bar rest (payload {word} {colon} {type = t} {function} w spelled c n f) =
    rw (first_is (colon ∷ t ∷ function ∷ rest) w) refl
option_bar rest (destructor {word} {colon} {called} w c is) =
    rw (first_is (colon ∷ (called ++ rest)) w) refl

options_bar : {options : List Token} (rest : List Token) → AreOptions options
    → is_sign Bar (first_of rest) ≡ false → is_sign Bar (first_of (options ++ rest)) ≡ false
options_bar rest none no_bar = no_bar
options_bar rest (more {one} {others} is are) no_bar =
    ap (λ t. is_sign Bar (first_of t)) (append_assoc one others rest)
    ∙ option_bar (others ++ rest) is

-- an argument's type is read in two steps
record TypedRead (types : Known) (tokens : List Token) (name : List ℕ) (found : Option Meaning)
    (rest : List Token) : Type 0 where
  behind : List Token
  named : any_name_at tokens ≡ Ok (name, behind)
  meant : meaning_at types name behind ≡ Ok (found, rest)

typed_read : {types : Known} {typed : List Token} {name : List ℕ} {found : Option Meaning}
    (rest : List Token) → IsTyped types typed name found → Quiet rest
    → TypedRead types (typed ++ rest) name found rest
unfolding meaning_at
typed_read rest (declared {name} is) q = record {
  behind = rest;
  named = name_read rest is;
  meant = rw q.no_equals refl;
}
typed_read {types} rest (own {name} {equals} {spec} {options} {found} is e s o) q =
    let behind : List Token = (spec ++ options) ++ rest in
    let regrouped : behind ≡ spec ++ (options ++ rest) = append_assoc spec options rest in
    record {
      behind = equals ∷ behind;
      named = name_read (equals ∷ behind) is;
      meant = rw (is_next Equals behind e, tail_is equals behind, regrouped)
          (goes_to _ (spec_is_read types spec found (options ++ rest) s
          (options_bar rest o q.no_bar))
          ∙ goes_to _ (options_read options rest o q.no_option));
    }

flagged_read : {flags : List Token} (rest : List Token) → AreFlags flags
    → belongs (first_of rest) (text_of rest) ≡ false
    → flagged_at (flags ++ rest) ≡ Ok (asks_count flags, rest)
unfolding flagged_at
flagged_read {flags} rest are ends =
    goes_to _ (flags_read flags rest are
    (not_sign Comma (first_of rest) (text_of rest) refl ends)
    (not_sign OpenBracket (first_of rest) (text_of rest) refl ends))
    ∙ ap (λ t. Ok (asks_count t, rest)) (taken flags rest)

-- the word in front of a name is read
mark_read : {mark : List Token} {role : Role} (name : Token) (rest : List Token)
    → IsMark mark role → Is Name name → role_at (mark ++ name ∷ rest) ≡ (role, name ∷ rest)
unfolding role_at
mark_read name rest unmarked is = rw (first_is rest is) refl
mark_read name rest (marked {token} m found) is =
    rw (first_is (name ∷ rest) m, text_is token (name ∷ rest), found, tail_is token (name ∷ rest))
    refl

pub argument_is_read : ArgumentIsRead
unfolding argument_at
argument_is_read types _ _ rest (argument {mark} {typed} {flags} {name} {colon} m n c t f) ends =
    let behind : List Token = typed ++ (flags ++ rest) in
    let r = typed_read (flags ++ rest) t (quiet rest f ends) in
    ap (λ tokens. argument_at types tokens) (sym (whole mark name colon typed flags rest))
    ∙ rw (mark_read name (colon ∷ behind) m n)
    (goes_to _ (name_read (colon ∷ behind) n) ∙ goes_to _ (sign_read behind c)
    ∙ goes_to _ r.named ∙ goes_to _ r.meant ∙ goes_to _ (flagged_read rest f ends))
