-- Basic types are read exactly where they stand.
use Rattle.std.proofs.Common.{◌≡◌, ℕ, ◌-◌, Bool, true, false, List, [], ◌∷◌, ◌++◌}
use Rattle.std.proofs.Common.{length, Option, Some, Ok, refl, sym, ap, ◌∙◌}
use Rattle.std.proofs.Common.{subst}
use Rattle.std.proofs.Common.{arith, ◌≤◌, if◌then◌else◌}
use Rattle.mrc_mig_lex.specs.declared.token.Sign.TheVariants.{Comma, OpenBracket, CloseBracket, Bar}
use Rattle.mrc_mig_symbols.specs.declared.word.Word.TheVariants as words
use Rattle.mrc_mig_tokens.specs.declared.symbol.Symbol.{Symbol}
use Rattle.mrc_mig_tokens.specs.declared.symbol.Symbol.TheVariants.{Word, Name, Number, Sign}
use Rattle.mrc_mig_tokens.specs.Tokens.{Token}
use Rattle.mrc_mig_tokens.specs.Reading.{first_of, text_of, tail_of, unexpected, is_sign, many}
use Rattle.mrc_mig_tokens.specs.Reading.{after_sign}
use Rattle.mrc_mig_tokens.specs.Sums.{sum_at}
use Rattle.mrc_mig_tokens.specs.SumGrammar.{goes_on}
use Rattle.mrc_mig_tokens.proofs.LoopLemmas.{many_ends}
use Rattle.mrc_mig_tokens.proofs.SumLaw.{read_is_spelled, spelled_is_read}
use Rattle.mrc_mig_types.specs.declared.basics.Basic.{Basic}
use Rattle.mrc_mig_types.specs.Basics.{basic_of, polymorphic, numbered, pair_of}
use Rattle.mrc_mig_types.specs.Reading.{basic_by, basic_at, received_by, received_at, pair_at}
use Rattle.mrc_mig_types.specs.Reading.{flag_by, is_flag, brackets_at, flag_at, begins_flag}
use Rattle.mrc_mig_types.specs.Reading.{flags_at}
use Rattle.mrc_mig_types.specs.Specs.{Is, IsSum, NamesBasic, by_name, picked, by_number, IsPair}
use Rattle.mrc_mig_types.specs.Specs.{alone, both, IsFlag, word, dealloc, name, AreFlags, none}
use Rattle.mrc_mig_types.specs.Specs.{plain, with_brackets}
use Rattle.mrc_mig_types.proofs.PhraseLemmas.{Leads, goes_to, in_two, same_Ok, some_is, where_true}
use Rattle.mrc_mig_types.proofs.PhraseLemmas.{many_step, many_holds, front, first_is}
use Rattle.mrc_mig_types.proofs.PhraseLemmas.{tail_is}
use Rattle.mrc_mig_types.proofs.PhraseLemmas.{text_is, is_that_sign, is_next, sign_is, sign_read}

-- an expression that is read stands there, and what follows does not go on with it
pub sum_is : (tokens : List Token) (n : Option ℕ) (rest : List Token) → sum_at tokens ≡ Ok (n, rest)
    → Leads (λ w. IsSum w n) tokens rest
sum_is tokens n rest e =
    let b = read_is_spelled tokens n rest e in
    (b.written, b.splits, record { spelled = b.spells })

-- and one that stands there is read
pub sum_read : (written : List Token) (n : Option ℕ) (rest : List Token) → IsSum written n
    → goes_on (first_of rest) ≡ false → sum_at (written ++ rest) ≡ Ok (n, rest)
sum_read written n rest is stops =
    spelled_is_read (written ++ rest) n rest
    (record { written = written; splits = refl; spells = is.spelled; stops = stops })

basic_is_by : (symbol : Symbol) (tokens : List Token) (basic : Basic) → first_of tokens ≡ symbol
    → basic_by symbol (text_of tokens) ≡ Some basic
    → (token : Token) × (tokens ≡ token ∷ tail_of tokens) × NamesBasic token basic
basic_is_by (Word words.Polymorphic) tokens basic first e =
    let f = front (Word words.Polymorphic) tokens refl first in
    let same : polymorphic ≡ basic = cc in
    (f.token, f.splits, subst (λ b. NamesBasic f.token b) same (picked f.is))
basic_is_by (Number n) tokens basic first e =
    let f = front (Number n) tokens refl first in
    let same : numbered n ≡ basic = cc in
    (f.token, f.splits, subst (λ b. NamesBasic f.token b) same (by_number f.is))
basic_is_by Name tokens basic first e =
    let f = front Name tokens refl first in
    (f.token, f.splits, by_name f.is (ap (λ t. basic_of t) (sym f.text) ∙ e))
basic_is_by _ tokens basic first e = absurd cc

pub basic_is : (tokens : List Token) (basic : Basic) → basic_at tokens ≡ Some basic
    → (token : Token) × (tokens ≡ token ∷ tail_of tokens) × NamesBasic token basic
unfolding basic_at
basic_is tokens basic e = basic_is_by (first_of tokens) tokens basic refl e

pub basic_read : (token : Token) (basic : Basic) (rest : List Token) → NamesBasic token basic
    → basic_at (token ∷ rest) ≡ Some basic
unfolding basic_at
basic_read token basic rest (by_name is found) = rw (first_is rest is, text_is token rest) found
basic_read token basic rest (picked is) = rw (first_is rest is) refl
basic_read token basic rest (by_number is) = rw (first_is rest is) refl

received_is : (b : Bool) (first : Token) (sent : Basic) (tokens : List Token) (found : Basic)
    (rest : List Token) → NamesBasic first sent → is_sign Bar (first_of tokens) ≡ b
    → received_by b sent tokens ≡ Ok (found, rest)
    → Leads (λ w. IsPair w found) (first ∷ tokens) rest
received_is false first sent tokens found rest named no_bar e =
    let same = same_Ok (sent, tokens) (found, rest) e in (
      first ∷ [],
      ap (λ (r : Basic × List Token). first ∷ r.1) same,
      subst (λ (r : Basic × List Token). IsPair (first ∷ []) r.0) same (alone named),
    )
received_is true first sent tokens found rest named barred e =
    let (received, read, last) = in_two _ _ _ e in
    let bar = front (Sign Bar) tokens refl (is_that_sign Bar (first_of tokens) barred) in
    let second = basic_is (tail_of tokens) received
    (some_is (basic_at (tail_of tokens)) _ received read) in
    let same = same_Ok (pair_of sent received, tail_of (tail_of tokens)) (found, rest) last in (
      first ∷ bar.token ∷ second.0 ∷ [],
      ap (λ t. first ∷ t) (bar.splits ∙ ap (λ t. bar.token ∷ t) (second.1
          ∙ ap (λ (r : Basic × List Token). second.0 ∷ r.1) same)),
      subst (λ (r : Basic × List Token). IsPair (first ∷ bar.token ∷ second.0 ∷ []) r.0) same
          (both named bar.is second.2),
    )

pub pair_is : (tokens : List Token) (found : Basic) (rest : List Token)
    → pair_at tokens ≡ Ok (found, rest) → Leads (λ w. IsPair w found) tokens rest
unfolding pair_at received_at
pair_is tokens found rest e =
    let (sent, read, last) = in_two _ _ _ e in
    let first = basic_is tokens sent (some_is (basic_at tokens) _ sent read) in
    let p = received_is (is_sign Bar (first_of (tail_of tokens))) first.0 sent (tail_of tokens)
    found rest first.2 refl last in
    (p.0, first.1 ∙ p.1, p.2)

pub pair_read : (written : List Token) (found : Basic) (rest : List Token) → IsPair written found
    → is_sign Bar (first_of rest) ≡ false → pair_at (written ++ rest) ≡ Ok (found, rest)
unfolding pair_at received_at
pair_read _ found rest (alone {a} named) no_bar =
    rw (basic_read a found rest named, tail_is a rest, no_bar) refl
pair_read _ _ rest (both {a} {bar} {b} {sent} {received} first barred second) no_bar =
    rw (
      basic_read a sent (bar ∷ b ∷ rest) first,
      tail_is a (bar ∷ b ∷ rest),
      is_next Bar (b ∷ rest) barred,
      tail_is bar (b ∷ rest),
      basic_read b received rest second,
      tail_is b rest,
    ) refl

flag_is_by : (symbol : Symbol) (tokens : List Token) → first_of tokens ≡ symbol
    → flag_by symbol (text_of tokens) ≡ true
    → (token : Token) × (tokens ≡ token ∷ tail_of tokens) × IsFlag token
flag_is_by (Word words.Flag) tokens first e =
    let f = front (Word words.Flag) tokens refl first in (f.token, f.splits, word f.is)
flag_is_by (Word words.Dealloc) tokens first e =
    let f = front (Word words.Dealloc) tokens refl first in (f.token, f.splits, dealloc f.is)
flag_is_by Name tokens first e =
    let f = front Name tokens refl first in
    (f.token, f.splits, name f.is (ap (λ t. flag_by Name t) (sym f.text) ∙ e))
flag_is_by _ tokens first e = absurd cc

flag_read : (token : Token) (rest : List Token) → IsFlag token → is_flag (token ∷ rest) ≡ true
flag_read token rest (word is) = rw (first_is rest is) refl
flag_read token rest (dealloc is) = rw (first_is rest is) refl
flag_read token rest (name is flag) = rw (first_is rest is, text_is token rest) flag

-- `[]` behind a flag, or nothing
brackets_is : (b : Bool) (comma flag : Token) (tokens after rest : List Token)
    → Is (Sign Comma) comma
    → IsFlag flag → is_sign OpenBracket (first_of tokens) ≡ b
    → (if b then after_sign CloseBracket (tail_of tokens) else Ok tokens) ≡ Ok after
    → Leads AreFlags after rest → Leads AreFlags (comma ∷ flag ∷ tokens) rest
brackets_is false comma flag tokens after rest separates flagged _ e (others, splits, are) = (
  comma ∷ flag ∷ others,
  ap (λ t. comma ∷ flag ∷ t) (same_Ok tokens after e ∙ splits),
  plain separates flagged are,
)
brackets_is true comma flag tokens after rest separates flagged opened e (others, splits, are) =
    let opens = front (Sign OpenBracket) tokens refl
    (is_that_sign OpenBracket (first_of tokens) opened) in
    let closes = sign_is CloseBracket (tail_of tokens) after e in (
      comma ∷ flag ∷ opens.token ∷ closes.0 ∷ others,
      ap (λ t. comma ∷ flag ∷ t) (opens.splits
          ∙ ap (λ t. opens.token ∷ t) (closes.1 ∙ ap (λ t. closes.0 ∷ t) splits)),
      with_brackets separates flagged opens.is closes.2 are,
    )

one_flag : (tokens after rest : List Token) → flag_at tokens ≡ Ok after → Leads AreFlags after rest
    → Leads AreFlags tokens rest
unfolding flag_at brackets_at
one_flag tokens after rest e later =
    let (behind, separated, more) = in_two _ _ _ e in
    let comma = sign_is Comma tokens behind separated in
    let (flagged, last) = where_true (is_flag behind) _ (unexpected behind) after more in
    let flag = flag_is_by (first_of behind) behind refl flagged in
    let whole : tokens ≡ comma.0 ∷ flag.0 ∷ tail_of behind =
    comma.1 ∙ ap (λ t. comma.0 ∷ t) flag.1 in
    subst (λ t. Leads AreFlags t rest) (sym whole)
    (brackets_is (is_sign OpenBracket (first_of (tail_of behind))) comma.0 flag.0 (tail_of behind)
    after rest comma.2 flag.2 refl last later)

pub flags_is : (tokens rest : List Token) → flags_at tokens ≡ Ok rest → Leads AreFlags tokens rest
unfolding flags_at
flags_is tokens rest e =
    many_holds begins_flag flag_at (λ a c. Leads AreFlags a c) (λ a. ([], refl, none))
    (λ a b c _ stepped later. one_flag a b c stepped later) (length tokens) tokens rest e

no_bracket : (written rest : List Token) → AreFlags written
    → is_sign OpenBracket (first_of rest) ≡ false
    → is_sign OpenBracket (first_of (written ++ rest)) ≡ false
no_bracket _ rest none stops = stops
no_bracket _ rest (plain {comma} {flag} {others} separates flagged are) stops =
    rw (first_is (flag ∷ (others ++ rest)) separates) refl
no_bracket _ rest (with_brackets {comma} {flag} {opens} {closes} {others} separates flagged opening
    closing are) stops =
    rw (first_is (flag ∷ opens ∷ closes ∷ (others ++ rest)) separates) refl

plain_flag : (comma flag : Token) (behind : List Token) → Is (Sign Comma) comma → IsFlag flag
    → is_sign OpenBracket (first_of behind) ≡ false
    → flag_at (comma ∷ flag ∷ behind) ≡ Ok behind
unfolding flag_at brackets_at
plain_flag comma flag behind separates flagged stops =
    goes_to _ (sign_read (flag ∷ behind) separates)
    ∙ rw (flag_read flag behind flagged, tail_is flag behind, stops) refl

bracketed_flag : (comma flag opens closes : Token) (behind : List Token) → Is (Sign Comma) comma
    → IsFlag flag → Is (Sign OpenBracket) opens → Is (Sign CloseBracket) closes
    → flag_at (comma ∷ flag ∷ opens ∷ closes ∷ behind) ≡ Ok behind
unfolding flag_at brackets_at
bracketed_flag comma flag opens closes behind separates flagged opening closing =
    goes_to _ (sign_read (flag ∷ opens ∷ closes ∷ behind) separates)
    ∙ rw (
      flag_read flag (opens ∷ closes ∷ behind) flagged,
      tail_is flag (opens ∷ closes ∷ behind),
      is_next OpenBracket (closes ∷ behind) opening,
      tail_is opens (closes ∷ behind),
    ) (sign_read behind closing)

begins_at : (comma : Token) (behind : List Token) → Is (Sign Comma) comma
    → begins_flag (comma ∷ behind) ≡ true
unfolding begins_flag
begins_at comma behind separates = is_next Comma behind separates

ends_at : (rest : List Token) → is_sign Comma (first_of rest) ≡ false → begins_flag rest ≡ false
unfolding begins_flag
ends_at rest stops = stops

-- so many steps are enough
flags_by : (n : ℕ) (written rest : List Token) → AreFlags written → length (written ++ rest) ≤ n
    → is_sign Comma (first_of rest) ≡ false → is_sign OpenBracket (first_of rest) ≡ false
    → many begins_flag flag_at n (written ++ rest) ≡ Ok rest
flags_by n _ rest none le stops closed = many_ends begins_flag flag_at n rest (ends_at rest stops)
flags_by n _ rest (plain {comma} {flag} {others} separates flagged are) le stops closed =
    many_step begins_flag flag_at n 0 (comma ∷ flag ∷ (others ++ rest)) (others ++ rest)
    (omega arith) (begins_at comma (flag ∷ (others ++ rest)) separates)
    (plain_flag comma flag (others ++ rest) separates flagged (no_bracket others rest are closed))
    ∙ flags_by (n - 1) others rest are (omega arith) stops closed
flags_by n _ rest
    (with_brackets {comma} {flag} {opens} {closes} {others} separates flagged opening closing are)
    le stops closed =
    many_step begins_flag flag_at n 0 (comma ∷ flag ∷ opens ∷ closes ∷ (others ++ rest))
    (others ++ rest) (omega arith)
    (begins_at comma (flag ∷ opens ∷ closes ∷ (others ++ rest)) separates)
    (bracketed_flag comma flag opens closes (others ++ rest) separates flagged opening closing)
    ∙ flags_by (n - 1) others rest are (omega arith) stops closed

pub flags_read : (written rest : List Token) → AreFlags written
    → is_sign Comma (first_of rest) ≡ false → is_sign OpenBracket (first_of rest) ≡ false
    → flags_at (written ++ rest) ≡ Ok rest
unfolding flags_at
flags_read written rest are stops closed =
    flags_by (length (written ++ rest)) written rest are (omega arith) stops closed
