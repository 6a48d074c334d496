-- Options are read exactly where they stand.
use Rattle.std.proofs.Common.{◌≡◌, ℕ, ◌+◌, ◌-◌, ◌<◌, ◌≤◌, true, false, List, [], ◌∷◌, ◌++◌}
use Rattle.std.proofs.Common.{length, Ok, refl, sym, ap, ◌∙◌, subst, arith, append_assoc}
use Rattle.std.proofs.Common.{length-append}
use Rattle.mrc_mig_lex.specs.declared.token.Sign.TheVariants.{OpenParenthesis, CloseParenthesis}
use Rattle.mrc_mig_lex.specs.declared.token.Sign.TheVariants.{Colon}
use Rattle.mrc_mig_symbols.specs.declared.word.Word.TheVariants as words
use Rattle.mrc_mig_tokens.specs.declared.symbol.Symbol.{Symbol}
use Rattle.mrc_mig_tokens.specs.declared.symbol.Symbol.TheVariants.{Word, Name, Sign}
use Rattle.mrc_mig_tokens.specs.Tokens.{Token}
use Rattle.mrc_mig_tokens.specs.Reading.{first_of, text_of, tail_of, unexpected, many}
use Rattle.mrc_mig_tokens.proofs.LoopLemmas.{many_ends}
use Rattle.mrc_mig_types.specs.Specs.{Is}
use Rattle.mrc_mig_types.proofs.PhraseLemmas.{Leads, goes_to, in_two, same_Ok, where_true}
use Rattle.mrc_mig_types.proofs.PhraseLemmas.{many_step, many_holds, front, first_is, tail_is}
use Rattle.mrc_mig_types.proofs.PhraseLemmas.{text_is, sign_is, sign_read, name_is, name_read}
use Rattle.mrc_mig_arguments.specs.Words.{is_payload}
use Rattle.mrc_mig_arguments.specs.Reading.{name_behind, call_at, translation_at, payload_at}
use Rattle.mrc_mig_arguments.specs.Reading.{destructor_at, begins_option, option_by, option_at}
use Rattle.mrc_mig_arguments.specs.Reading.{options_at}
use Rattle.mrc_mig_arguments.specs.Arguments.{IsCall, call, IsOption, c_type, translation, payload}
use Rattle.mrc_mig_arguments.specs.Arguments.{destructor, AreOptions, none, more, ReadAreOptions}
use Rattle.mrc_mig_arguments.specs.Arguments.{OptionsAreRead}

-- ---- what is read stands there

-- `: name`
record Named (tokens rest : List Token) : Type 0 where
  colon : Token
  name : Token
  splits : tokens ≡ colon ∷ name ∷ rest
  separates : Is (Sign Colon) colon
  named : Is Name name

named_is : (tokens rest : List Token) → name_behind tokens ≡ Ok rest → Named tokens rest
unfolding name_behind
named_is tokens rest e =
    let (behind, separated, onward) = in_two _ _ _ e in
    let (found, named, done) = in_two _ _ _ onward in
    let c = sign_is Colon tokens behind separated in
    let n = name_is behind found named in
    record {
      colon = c.0;
      name = n.0;
      splits = c.1 ∙ ap (λ t. c.0 ∷ t) (n.1 ∙ ap (λ t. n.0 ∷ t) (same_Ok found.1 rest done));
      separates = c.2;
      named = n.2;
    }

call_is : (tokens rest : List Token) → call_at tokens ≡ Ok rest → Leads IsCall tokens rest
unfolding call_at
call_is tokens rest e =
    let (function, named, m1) = in_two _ _ _ e in
    let (inside, opened, m2) = in_two _ _ _ m1 in
    let (value, given, closed) = in_two _ _ _ m2 in
    let f = name_is tokens function named in
    let o = sign_is OpenParenthesis function.1 inside opened in
    let v = name_is inside value given in
    let c = sign_is CloseParenthesis value.1 rest closed in (
      f.0 ∷ o.0 ∷ v.0 ∷ c.0 ∷ [],
      f.1 ∙ ap (λ t. f.0 ∷ t) (o.1 ∙ ap (λ t. o.0 ∷ t) (v.1 ∙ ap (λ t. v.0 ∷ t) c.1)),
      call f.2 o.2 v.2 c.2,
    )

c_type_is : (tokens rest : List Token) → first_of tokens ≡ Word words.CType
    → name_behind (tail_of tokens) ≡ Ok rest → Leads IsOption tokens rest
c_type_is tokens rest first e =
    let f = front (Word words.CType) tokens refl first in
    let n = named_is (tail_of tokens) rest e in (
      f.token ∷ n.colon ∷ n.name ∷ [],
      f.splits ∙ ap (λ t. f.token ∷ t) n.splits,
      c_type f.is n.separates n.named,
    )

translation_is : (tokens rest : List Token) → first_of tokens ≡ Word words.Translation
    → translation_at (tail_of tokens) ≡ Ok rest → Leads IsOption tokens rest
unfolding translation_at
translation_is tokens rest first e =
    let (behind, named, called) = in_two _ _ _ e in
    let f = front (Word words.Translation) tokens refl first in
    let n = named_is (tail_of tokens) behind named in
    let c = call_is behind rest called in (
      f.token ∷ n.colon ∷ n.name ∷ c.0,
      f.splits ∙ ap (λ t. f.token ∷ t) (n.splits ∙ ap (λ t. n.colon ∷ n.name ∷ t) c.1),
      translation f.is n.separates n.named c.2,
    )

payload_is : (tokens rest : List Token) → first_of tokens ≡ Name
    → is_payload (text_of tokens) ≡ true → payload_at (tail_of tokens) ≡ Ok rest
    → Leads IsOption tokens rest
unfolding payload_at
payload_is tokens rest first spelled e =
    let (behind, named, onward) = in_two _ _ _ e in
    let (found, given, done) = in_two _ _ _ onward in
    let f = front Name tokens refl first in
    let n = named_is (tail_of tokens) behind named in
    let g = name_is behind found given in (
      f.token ∷ n.colon ∷ n.name ∷ g.0 ∷ [],
      f.splits ∙ ap (λ t. f.token ∷ t) (n.splits ∙ ap (λ t. n.colon ∷ n.name ∷ t) (g.1
          ∙ ap (λ t. g.0 ∷ t) (same_Ok found.1 rest done))),
      payload f.is (ap (λ t. is_payload t) (sym f.text) ∙ spelled) n.separates n.named g.2,
    )

destructor_is : (tokens rest : List Token) → first_of tokens ≡ Word words.Destructor
    → destructor_at (tail_of tokens) ≡ Ok rest → Leads IsOption tokens rest
unfolding destructor_at
destructor_is tokens rest first e =
    let (behind, separated, called) = in_two _ _ _ e in
    let f = front (Word words.Destructor) tokens refl first in
    let s = sign_is Colon (tail_of tokens) behind separated in
    let c = call_is behind rest called in (
      f.token ∷ s.0 ∷ c.0,
      f.splits ∙ ap (λ t. f.token ∷ t) (s.1 ∙ ap (λ t. s.0 ∷ t) c.1),
      destructor f.is s.2 c.2,
    )

option_is_by : (symbol : Symbol) (tokens rest : List Token) → first_of tokens ≡ symbol
    → option_by symbol (text_of tokens) tokens ≡ Ok rest → Leads IsOption tokens rest
option_is_by (Word words.CType) tokens rest first e = c_type_is tokens rest first e
option_is_by (Word words.Translation) tokens rest first e = translation_is tokens rest first e
option_is_by (Word words.Destructor) tokens rest first e = destructor_is tokens rest first e
option_is_by Name tokens rest first e =
    let (spelled, read) = where_true (is_payload (text_of tokens)) (payload_at (tail_of tokens))
    (unexpected tokens) rest e in
    payload_is tokens rest first spelled read
option_is_by _ tokens rest first e = absurd cc

pub option_is : (tokens rest : List Token) → option_at tokens ≡ Ok rest
    → Leads IsOption tokens rest
unfolding option_at
option_is tokens rest e = option_is_by (first_of tokens) tokens rest refl e

one_more : (tokens behind rest : List Token) → option_at tokens ≡ Ok behind
    → Leads AreOptions behind rest → Leads AreOptions tokens rest
one_more tokens behind rest e (others, splits, are) =
    let o = option_is tokens behind e in (
      o.0 ++ others,
      o.1 ∙ ap (λ t. o.0 ++ t) splits ∙ sym (append_assoc o.0 others rest),
      more o.2 are,
    )

pub options_is : ReadAreOptions
unfolding options_at
options_is tokens rest e =
    many_holds begins_option option_at (λ a c. Leads AreOptions a c) (λ a. ([], refl, none))
    (λ a b c _ stepped later. one_more a b c stepped later) (length tokens) tokens rest e

-- ---- what stands there is read

named_read : {colon name : Token} (rest : List Token) → Is (Sign Colon) colon → Is Name name
    → name_behind (colon ∷ name ∷ rest) ≡ Ok rest
unfolding name_behind
named_read {colon} {name} rest separates named =
    goes_to _ (sign_read (name ∷ rest) separates) ∙ goes_to _ (name_read rest named)

call_read : {called : List Token} (rest : List Token) → IsCall called
    → call_at (called ++ rest) ≡ Ok rest
unfolding call_at
call_read rest (call {function} {opens} {value} {closes} f o v c) =
    goes_to _ (name_read (opens ∷ value ∷ closes ∷ rest) f)
    ∙ goes_to _ (sign_read (value ∷ closes ∷ rest) o)
    ∙ goes_to _ (name_read (closes ∷ rest) v) ∙ sign_read rest c

pub option_read : {one : List Token} (rest : List Token) → IsOption one
    → option_at (one ++ rest) ≡ Ok rest
unfolding option_at translation_at payload_at destructor_at
option_read rest (c_type {word} {colon} {name} w c n) =
    rw (first_is (colon ∷ name ∷ rest) w, tail_is word (colon ∷ name ∷ rest))
    (named_read rest c n)
option_read rest (translation {word} {colon} {name} {called} w c n is) =
    let behind : List Token = called ++ rest in
    rw (first_is (colon ∷ name ∷ behind) w, tail_is word (colon ∷ name ∷ behind))
    (goes_to _ (named_read behind c n) ∙ call_read rest is)
option_read rest (payload {word} {colon} {type = t} {function} w spelled c n f) =
    let behind : List Token = colon ∷ t ∷ function ∷ rest in
    rw (first_is behind w, text_is word behind, spelled, tail_is word behind)
    (goes_to _ (named_read (function ∷ rest) c n) ∙ goes_to _ (name_read rest f))
option_read rest (destructor {word} {colon} {called} w c is) =
    let behind : List Token = called ++ rest in
    rw (first_is (colon ∷ behind) w, tail_is word (colon ∷ behind))
    (goes_to _ (sign_read behind c) ∙ call_read rest is)

pub option_begins : {one : List Token} (rest : List Token) → IsOption one
    → begins_option (one ++ rest) ≡ true
unfolding begins_option
option_begins rest (c_type {word} {colon} {name} w c n) =
    rw (first_is (colon ∷ name ∷ rest) w) refl
option_begins rest (translation {word} {colon} {name} {called} w c n is) =
    rw (first_is (colon ∷ name ∷ (called ++ rest)) w) refl
option_begins rest (payload {word} {colon} {type = t} {function} w spelled c n f) =
    let behind : List Token = colon ∷ t ∷ function ∷ rest in
    rw (first_is behind w, text_is word behind) spelled
option_begins rest (destructor {word} {colon} {called} w c is) =
    rw (first_is (colon ∷ (called ++ rest)) w) refl

-- an option has tokens
some_tokens : {one : List Token} → IsOption one → 0 < length one
some_tokens (c_type w c n) = omega arith
some_tokens (translation {called} w c n is) = omega arith
some_tokens (payload w spelled c n f) = omega arith
some_tokens (destructor {called} w c is) = omega arith

-- so many steps are enough
options_by : (n : ℕ) (written rest : List Token) → AreOptions written
    → length (written ++ rest) ≤ n → begins_option rest ≡ false
    → many begins_option option_at n (written ++ rest) ≡ Ok rest
options_by n _ rest none le stops = many_ends begins_option option_at n rest stops
options_by n _ rest (more {one} {others} is are) le stops =
    let some : 0 < length one = some_tokens is in
    let long : length one + length (others ++ rest) ≤ n =
    subst (λ k. k ≤ n) (ap length (append_assoc one others rest)
    ∙ length-append one (others ++ rest)) le in
    ap (λ t. many begins_option option_at n t) (append_assoc one others rest)
    ∙ many_step begins_option option_at n 0 (one ++ (others ++ rest)) (others ++ rest)
    (omega arith) (option_begins (others ++ rest) is) (option_read (others ++ rest) is)
    ∙ options_by (n - 1) others rest are (omega arith) stops

pub options_read : OptionsAreRead
unfolding options_at
options_read written rest are stops =
    options_by (length (written ++ rest)) written rest are (omega arith) stops
