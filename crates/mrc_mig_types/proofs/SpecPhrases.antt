-- Types are read exactly where they stand.
use Rattle.std.proofs.Common.{◌≡◌, ℕ, Bool, true, false, List, [], ◌∷◌, ◌++◌, Option, Some, None}
use Rattle.std.proofs.Common.{Result, Ok, Err, refl, sym, ap, ◌∙◌, subst, append_assoc, option_map}
use Rattle.std.proofs.Common.{is_some, if◌then◌else◌}
use Rattle.mrc_base.specs.Reading.{◌>>=◌}
use Rattle.mrc_mig_lex.specs.declared.token.Sign.TheVariants.{OpenParenthesis, CloseParenthesis}
use Rattle.mrc_mig_lex.specs.declared.token.Sign.TheVariants.{OpenBracket, CloseBracket, Star}
use Rattle.mrc_mig_lex.specs.declared.token.Sign.TheVariants.{Colon}
use Rattle.mrc_mig_lex.specs.declared.token.Sign.TheVariants.{Comma, Bar}
use Rattle.mrc_mig_symbols.specs.declared.fault.Stop.{Stop}
use Rattle.mrc_mig_symbols.specs.declared.word.Word.TheVariants as words
use Rattle.mrc_mig_tokens.specs.declared.symbol.Symbol.{Symbol}
use Rattle.mrc_mig_tokens.specs.declared.symbol.Symbol.TheVariants.{Word, Name, Number, Sign}
use Rattle.mrc_mig_tokens.specs.declared.symbol.Symbol.TheVariants.{OpenBrace, CloseBrace}
use Rattle.mrc_mig_tokens.specs.Tokens.{Token}
use Rattle.mrc_mig_tokens.specs.Reading.{first_of, text_of, tail_of, is_sign, after_sign}
use Rattle.mrc_mig_tokens.specs.SumGrammar.{goes_on}
use Rattle.mrc_mig_tokens.specs.Sums.{sum_at}
use Rattle.mrc_mig_types.specs.declared.basics.Basic.{Basic}
use Rattle.mrc_mig_types.specs.declared.layers.Layer.{Layer}
use Rattle.mrc_mig_types.specs.declared.layers.Layer.TheVariants as layers
use Rattle.mrc_mig_types.specs.declared.meaning.Meaning.{Meaning}
use Rattle.mrc_mig_types.specs.Basics.{basic_of, basic_item, given_size}
use Rattle.mrc_mig_types.specs.Layout.{struct_of}
use Rattle.mrc_mig_types.specs.Meanings.{string, within, layer_of}
use Rattle.mrc_mig_types.specs.Reading.{basic_at, plain_at, flags_at, sized_at, star_by}
use Rattle.mrc_mig_types.specs.Reading.{star_at, string_at, fields_at, some_read, named_at, item_by}
use Rattle.mrc_mig_types.specs.Reading.{item_at, spec_at, begins_layer, count_at}
use Rattle.mrc_mig_types.specs.Reading.{basic_by}
use Rattle.mrc_mig_types.specs.Specs.{Is, IsSum, NamesBasic, by_name, picked, by_number, IsPair}
use Rattle.mrc_mig_types.specs.Specs.{alone, both, AreFlags, AreFields, IsSpec, basic, sized}
use Rattle.mrc_mig_types.specs.Specs.{none as no_flag, plain as flag_alone}
use Rattle.mrc_mig_types.specs.Specs.{with_brackets as flag_brackets}
use Rattle.mrc_mig_types.specs.Specs.{declared, open_brackets, open_star, bounded_array}
use Rattle.mrc_mig_types.specs.Specs.{fixed_array, struct_of_one, pointer, struct_of_fields}
use Rattle.mrc_mig_types.specs.Specs.{fixed_string, bounded_string, ReadIsSpec, SpecIsRead}
use Rattle.mrc_mig_types.specs.Table.{Known, type_of}
use Rattle.mrc_mig_types.proofs.BasicPhrases.{sum_is, sum_read, pair_is, pair_read, basic_read}
use Rattle.mrc_mig_types.proofs.BasicPhrases.{flags_is, flags_read}
use Rattle.mrc_mig_types.proofs.LayerPhrases.{IsLayer, caret, array, struct, any, star}
use Rattle.mrc_mig_types.proofs.LayerPhrases.{most, fixed, AreLayers, none, more, count_is}
use Rattle.mrc_mig_types.proofs.LayerPhrases.{count_read, layers_is, layers_read, all_wrapped}
use Rattle.mrc_mig_types.proofs.LayerPhrases.{none_around, one_around, is_operand, count_begins}
use Rattle.mrc_mig_types.proofs.PhraseLemmas.{Leads, goes_to, in_two, same_Ok, front, first_is}
use Rattle.mrc_mig_types.proofs.PhraseLemmas.{tail_is, text_is, is_that_sign, is_next, sign_is}
use Rattle.mrc_mig_types.proofs.PhraseLemmas.{sign_read}
use Rattle.mrc_mig_types.proofs.StructPhrases.{fields_is, fields_read}

-- ---- what is read stands there

abbrev IsSpecAt : Known → List Token → Option Meaning × List Token → Type 0
IsSpecAt types tokens found = Leads (λ w. IsSpec types w found.0) tokens found.1

-- a type that is known
some_is : (types : Known) (tokens : List Token) (read : Result (Meaning × List Token) Stop)
    (found : Option Meaning × List Token) → some_read read ≡ Ok found
    → ((r : Meaning × List Token) → read ≡ Ok r → IsSpecAt types tokens (Some r.0, r.1))
    → IsSpecAt types tokens found
some_is types tokens (Err stop) found e each = absurd cc
some_is types tokens (Ok r) found e each =
    subst (λ f. IsSpecAt types tokens f) (same_Ok (Some r.0, r.1) found e) (each r refl)

plain_is : (types : Known) (tokens : List Token) (r : Meaning × List Token)
    → plain_at tokens ≡ Ok r → IsSpecAt types tokens (Some r.0, r.1)
unfolding plain_at
plain_is types tokens r e =
    let (read, paired, done) = in_two _ _ _ e in
    let p = pair_is tokens read.0 read.1 paired in
    subst (λ (x : Meaning × List Token). IsSpecAt types tokens (Some x.0, x.1))
    (same_Ok (basic_item read.0, read.1) r done) (p.0, p.1, basic p.2)

sized_is : (types : Known) (tokens : List Token) (r : Meaning × List Token)
    → first_of tokens ≡ Sign OpenParenthesis → sized_at (tail_of tokens) ≡ Ok r
    → IsSpecAt types tokens (Some r.0, r.1)
unfolding sized_at
sized_is types tokens r first e =
    let (read, paired, m1) = in_two _ _ _ e in
    let (before, separated, m2) = in_two _ _ _ m1 in
    let (size, summed, m3) = in_two _ _ _ m2 in
    let (behind, flagged, m4) = in_two _ _ _ m3 in
    let (rest, closed, done) = in_two _ _ _ m4 in
    let o = front (Sign OpenParenthesis) tokens refl first in
    let p = pair_is (tail_of tokens) read.0 read.1 paired in
    let comma = sign_is Comma read.1 before separated in
    let s = sum_is before size.0 size.1 summed in
    let f = flags_is size.1 behind flagged in
    let c = sign_is CloseParenthesis behind rest closed in
    let inside : before ≡ (s.0 ++ (f.0 ++ c.0 ∷ [])) ++ rest =
    s.1 ∙ ap (λ t. s.0 ++ t) (f.1 ∙ ap (λ t. f.0 ++ t) c.1
    ∙ sym (append_assoc f.0 (c.0 ∷ []) rest))
    ∙ sym (append_assoc s.0 (f.0 ++ c.0 ∷ []) rest) in
    subst (λ (x : Meaning × List Token). IsSpecAt types tokens (Some x.0, x.1))
    (same_Ok (given_size read.0 size.0, rest) r done) (
      o.token ∷ (p.0 ++ comma.0 ∷ (s.0 ++ (f.0 ++ c.0 ∷ []))),
      o.splits ∙ ap (λ t. o.token ∷ t) (p.1 ∙ ap (λ t. p.0 ++ t) (comma.1
          ∙ ap (λ t. comma.0 ∷ t) inside)
          ∙ sym (append_assoc p.0 (comma.0 ∷ (s.0 ++ (f.0 ++ c.0 ∷ []))) rest)),
      sized o.is p.2 comma.2 s.2 f.2 c.2,
    )

-- `c_string`, by whether a star comes behind its bracket
string_by : (types : Known) (b : Bool) (word opens : Token) (opened : List Token)
    (r : Meaning × List Token) → Is (Word words.CString) word → Is (Sign OpenBracket) opens
    → is_sign Star (first_of opened) ≡ b
    → (star_by b opened >>= λ (bound : Bool × List Token).
    count_at bound.1
    >>= λ (number : Option ℕ × List Token). Ok (string number.0 bound.0, number.1)) ≡ Ok r
    → IsSpecAt types (word ∷ opens ∷ opened) (Some r.0, r.1)
string_by types false word opens opened r is opening no_star e =
    let (number, counted, done) = in_two _ _ _ e in
    let c = count_is opened number.0 number.1 counted in
    subst (λ (x : Meaning × List Token). IsSpecAt types (word ∷ opens ∷ opened) (Some x.0, x.1))
    (same_Ok (string number.0 false, number.1) r done) (
      word ∷ opens ∷ (c.0 ++ c.1 ∷ []),
      ap (λ t. word ∷ opens ∷ t) c.2,
      fixed_string is opening c.3 c.4,
    )
string_by types true word opens opened r is opening starred e =
    let (bound, separated, onward) = in_two _ _ _ e in
    let (behind, coloned, same) = in_two _ _ _ separated in
    let bound_is = same_Ok (true, behind) bound same in
    let (number, counted, done) = in_two _ _ _ onward in
    let s = front (Sign Star) opened refl (is_that_sign Star (first_of opened) starred) in
    let colon = sign_is Colon (tail_of opened) behind coloned in
    let rest : behind ≡ bound.1 = ap (λ (x : Bool × List Token). x.1) bound_is in
    let c = count_is bound.1 number.0 number.1 counted in
    let star_is : true ≡ bound.0 = ap (λ (x : Bool × List Token). x.0) bound_is in
    subst (λ (x : Meaning × List Token). IsSpecAt types (word ∷ opens ∷ opened) (Some x.0, x.1))
    (ap (λ b. (string number.0 b, number.1)) star_is
    ∙ same_Ok (string number.0 bound.0, number.1) r done) (
      word ∷ opens ∷ s.token ∷ colon.0 ∷ (c.0 ++ c.1 ∷ []),
      ap (λ t. word ∷ opens ∷ t) (s.splits ∙ ap (λ t. s.token ∷ t) (colon.1
          ∙ ap (λ t. colon.0 ∷ t) (rest ∙ c.2))),
      bounded_string is opening s.is colon.2 c.3 c.4,
    )

string_is : (types : Known) (tokens : List Token) (r : Meaning × List Token)
    → first_of tokens ≡ Word words.CString → string_at (tail_of tokens) ≡ Ok r
    → IsSpecAt types tokens (Some r.0, r.1)
unfolding string_at star_at
string_is types tokens r first e =
    let (opened, opening, onward) = in_two _ _ _ e in
    let f = front (Word words.CString) tokens refl first in
    let o = sign_is OpenBracket (tail_of tokens) opened opening in
    subst (λ t. IsSpecAt types t (Some r.0, r.1))
    (sym (f.splits ∙ ap (λ t. f.token ∷ t) o.1))
    (string_by types (is_sign Star (first_of opened)) f.token o.0 opened r f.is o.2 refl onward)

struct_is : (types : Known) (tokens : List Token) (r : Meaning × List Token)
    → first_of tokens ≡ Word words.Struct → fields_at types (tail_of tokens) ≡ Ok r
    → IsSpecAt types tokens (Some r.0, r.1)
struct_is types tokens r first e =
    let f = front (Word words.Struct) tokens refl first in
    let s = fields_is types (tail_of tokens) r e in (
      f.token ∷ s.opens ∷ (s.fields ++ s.closes ∷ []),
      f.splits ∙ ap (λ t. f.token ∷ t) s.splits,
      subst (λ m. IsSpec types (f.token ∷ s.opens ∷ (s.fields ++ s.closes ∷ [])) (Some m)) s.means
          (struct_of_fields f.is s.opening s.are s.closing),
    )

named_by : (types : Known) (o : Option Basic) (tokens : List Token)
    (found : Option Meaning × List Token) → first_of tokens ≡ Name → basic_at tokens ≡ o
    → (if is_some o then some_read (plain_at tokens)
    else Ok (type_of types (text_of tokens), tail_of tokens)) ≡ Ok found
    → IsSpecAt types tokens found
unfolding basic_at
named_by types (Some b) tokens found first is e =
    some_is types tokens (plain_at tokens) found e (λ r read. plain_is types tokens r read)
named_by types None tokens found first is e =
    let f = front Name tokens refl first in
    let no_basic : basic_of f.token.bytes ≡ None =
    ap (λ t. basic_of t) (sym f.text)
    ∙ ap (λ s. basic_by s (text_of tokens)) (sym first) ∙ is in
    subst (λ x. IsSpecAt types tokens x)
    (ap (λ t. (type_of types t, tail_of tokens)) (sym f.text)
    ∙ same_Ok (type_of types (text_of tokens), tail_of tokens) found e)
    (f.token ∷ [], f.splits, declared f.is no_basic)

item_is_by : (types : Known) (symbol : Symbol) (tokens : List Token)
    (found : Option Meaning × List Token) → first_of tokens ≡ symbol
    → item_by symbol types tokens ≡ Ok found → IsSpecAt types tokens found
unfolding named_at
item_is_by types Name tokens found first e =
    named_by types (basic_at tokens) tokens found first refl e
item_is_by types (Word words.Struct) tokens found first e =
    some_is types tokens (fields_at types (tail_of tokens)) found e
    (λ r read. struct_is types tokens r first read)
item_is_by types (Word words.CString) tokens found first e =
    some_is types tokens (string_at (tail_of tokens)) found e
    (λ r read. string_is types tokens r first read)
item_is_by types (Sign OpenParenthesis) tokens found first e =
    some_is types tokens (sized_at (tail_of tokens)) found e
    (λ r read. sized_is types tokens r first read)
item_is_by types symbol tokens found first e =
    some_is types tokens (plain_at tokens) found e (λ r read. plain_is types tokens r read)

pub read_is_spec : ReadIsSpec
unfolding spec_at item_at
read_is_spec types tokens found rest e =
    let (around, layered, onward) = in_two _ _ _ e in
    let (item, read, done) = in_two _ _ _ onward in
    let l = layers_is tokens around layered in
    let i = item_is_by types (first_of around.1) around.1 item refl read in
    let same = same_Ok (option_map (within around.0) item.0, item.1) (found, rest) done in (
      l.0 ++ i.0,
      l.1 ∙ ap (λ t. l.0 ++ t) i.1 ∙ sym (append_assoc l.0 i.0 item.1)
          ∙ ap (λ (x : Option Meaning × List Token). (l.0 ++ i.0) ++ x.1) same,
      subst (λ (x : Option Meaning × List Token). IsSpec types (l.0 ++ i.0) x.0) same
          (all_wrapped l.0 around.0 l.2 i.2),
    )

-- ---- what stands there is read

-- a type without what is around it
data IsItem (types : Known) : List Token → Option Meaning → Type 0 where
  is_basic : {pair : List Token} {found : Basic} → IsPair pair found
      → IsItem types pair (Some (basic_item found))
  is_sized : {opens comma closes : Token} {pair size flags : List Token} {found : Basic}
      {n : Option ℕ}
      → Is (Sign OpenParenthesis) opens → IsPair pair found → Is (Sign Comma) comma
      → IsSum size n → AreFlags flags → Is (Sign CloseParenthesis) closes
      → IsItem types (opens ∷ (pair ++ comma ∷ (size ++ (flags ++ closes ∷ []))))
      (Some (given_size found n))
  is_declared : {name : Token} → Is Name name → basic_of name.bytes ≡ None
      → IsItem types (name ∷ []) (type_of types name.bytes)
  is_struct : {word opens closes : Token} {fields : List Token} {found : List (Option Meaning)}
      → Is (Word words.Struct) word
      → Is OpenBrace opens
      → AreFields types fields found
      → Is CloseBrace closes
      → IsItem types (word ∷ opens ∷ (fields ++ closes ∷ [])) (Some (struct_of found))
  is_string : {word opens closes : Token} {number : List Token} {n : Option ℕ}
      → Is (Word words.CString) word → Is (Sign OpenBracket) opens → IsSum number n
      → Is (Sign CloseBracket) closes
      → IsItem types (word ∷ opens ∷ (number ++ closes ∷ [])) (Some (string n false))
  is_most : {word opens star colon closes : Token} {number : List Token} {n : Option ℕ}
      → Is (Word words.CString) word → Is (Sign OpenBracket) opens → Is (Sign Star) star
      → Is (Sign Colon) colon → IsSum number n → Is (Sign CloseBracket) closes
      → IsItem types (word ∷ opens ∷ star ∷ colon ∷ (number ++ closes ∷ []))
      (Some (string n true))

-- a type, as what is around it and what is inside
record Unwrapped (types : Known) (written : List Token) (found : Option Meaning) : Type 0 where
  around : List Token
  layers : List Layer
  inner : List Token
  item : Option Meaning
  splits : written ≡ around ++ inner
  are : AreLayers around layers
  is : IsItem types inner item
  means : found ≡ option_map (within layers) item

alone_unwrapped : {types : Known} {written : List Token} {found : Option Meaning}
    → IsItem types written found → Unwrapped types written found
alone_unwrapped {types} {written} {found} is = record {
  around = [];
  layers = [];
  inner = written;
  item = found;
  splits = refl;
  are = none;
  is = is;
  means = sym (none_around found);
}

more_unwrapped : {types : Known} {written : List Token} {found : Option Meaning} (one : List Token)
    (layer : Layer) → IsLayer one layer → Unwrapped types written found
    → Unwrapped types (one ++ written) (option_map (layer_of layer) found)
more_unwrapped one layer is u = record {
  around = one ++ u.around;
  layers = layer ∷ u.layers;
  inner = u.inner;
  item = u.item;
  splits = ap (λ t. one ++ t) u.splits ∙ sym (append_assoc one u.around u.inner);
  are = more is u.are;
  is = u.is;
  means = ap (λ f. option_map (layer_of layer) f) u.means ∙ one_around layer u.layers u.item;
}

regrouped : (number : List Token) (closes of : Token) (inner : List Token)
    → ((number ++ closes ∷ []) ++ of ∷ []) ++ inner ≡ number ++ closes ∷ of ∷ inner
regrouped number closes of inner =
    append_assoc (number ++ closes ∷ []) (of ∷ []) inner
    ∙ append_assoc number (closes ∷ []) (of ∷ inner)

unwrapped : {types : Known} {written : List Token} {found : Option Meaning}
    → IsSpec types written found → Unwrapped types written found
unwrapped (basic pair) = alone_unwrapped (is_basic pair)
unwrapped (sized o p c s f e) = alone_unwrapped (is_sized o p c s f e)
unwrapped (declared is no_basic) = alone_unwrapped (is_declared is no_basic)
unwrapped (open_brackets {word} {opens} {closes} {of} w o c f spec) =
    more_unwrapped (word ∷ opens ∷ closes ∷ of ∷ []) layers.Open (array w o (any c) f)
    (unwrapped spec)
unwrapped (open_star {word} {opens} {star = s} {closes} {of} w o t c f spec) =
    more_unwrapped (word ∷ opens ∷ s ∷ closes ∷ of ∷ []) layers.Open (array w o (star t c) f)
    (unwrapped spec)
unwrapped {types} (bounded_array {word} {opens} {star =
    s} {colon} {closes} {of} {number} {inner} {n}
    {found} w o t l is c f spec) =
    subst (λ x. Unwrapped types (word ∷ opens ∷ s ∷ colon ∷ x)
    (option_map (layer_of (layers.Bounded n)) found)) (regrouped number closes of inner)
    (more_unwrapped (word ∷ opens ∷ s ∷ colon ∷ ((number ++ closes ∷ []) ++ of ∷ []))
    (layers.Bounded n) (array w o (most t l is c) f) (unwrapped spec))
unwrapped {types} (fixed_array {word} {opens} {closes} {of} {number} {inner} {n} {found} w o is c f
    spec) =
    subst (λ x. Unwrapped types (word ∷ opens ∷ x)
    (option_map (layer_of (layers.Array n)) found)) (regrouped number closes of inner)
    (more_unwrapped (word ∷ opens ∷ ((number ++ closes ∷ []) ++ of ∷ []))
    (layers.Array n) (array w o (fixed is c) f) (unwrapped spec))
unwrapped {types} (struct_of_one {word} {opens} {closes} {of} {number} {inner} {n} {found} w o is c
    f spec) =
    subst (λ x. Unwrapped types (word ∷ opens ∷ x)
    (option_map (layer_of (layers.Array n)) found)) (regrouped number closes of inner)
    (more_unwrapped (word ∷ opens ∷ ((number ++ closes ∷ []) ++ of ∷ []))
    (layers.Array n) (struct w o is c f) (unwrapped spec))
unwrapped (pointer {caret = t} is spec) =
    more_unwrapped (t ∷ []) layers.Pointer (caret is) (unwrapped spec)
unwrapped (struct_of_fields w o f c) = alone_unwrapped (is_struct w o f c)
unwrapped (fixed_string w o is c) = alone_unwrapped (is_string w o is c)
unwrapped (bounded_string w o t l is c) = alone_unwrapped (is_most w o t l is c)

-- the first token of a basic type
first_named : {pair : List Token} {found : Basic} → IsPair pair found
    → (a : Token) × (tail : List Token) × (sent : Basic) × (pair ≡ a ∷ tail) × NamesBasic a sent
first_named (alone {a} {basic = b} named) = (a, [], b, refl, named)
first_named (both {a} {bar} {b} {sent} named barred other) =
    (a, bar ∷ b ∷ [], sent, refl, named)

named_begins : (a : Token) (sent : Basic) (rest : List Token) → NamesBasic a sent
    → begins_layer (a ∷ rest) ≡ false
named_begins a _ rest (by_name is found) = rw (first_is rest is) refl
named_begins a _ rest (picked is) = rw (first_is rest is) refl
named_begins a _ rest (by_number is) = rw (first_is rest is) refl

item_begins : {types : Known} {inner : List Token} {item : Option Meaning} (rest : List Token)
    → IsItem types inner item → begins_layer (inner ++ rest) ≡ false
item_begins rest (is_basic pair) =
    let (a, tail, sent, splits, named) = first_named pair in
    ap (λ t. begins_layer (t ++ rest)) splits ∙ named_begins a sent (tail ++ rest) named
item_begins rest (is_sized {opens} {comma} {closes} {pair} {size} {flags} o p c s f e) =
    rw (first_is ((pair ++ comma ∷ (size ++ (flags ++ closes ∷ []))) ++ rest) o) refl
item_begins rest (is_declared is no_basic) = rw (first_is rest is) refl
item_begins rest (is_struct {word} {opens} {closes} {fields} w o f c) =
    let behind : List Token = (fields ++ closes ∷ []) ++ rest in
    rw (first_is (opens ∷ behind) w, tail_is word (opens ∷ behind), first_is behind o) refl
item_begins rest (is_string {word} {opens} {closes} {number} w o is c) =
    rw (first_is (opens ∷ ((number ++ closes ∷ []) ++ rest)) w) refl
item_begins rest (is_most {word} {opens} {star = s} {colon} {closes} {number} w o t l is c) =
    rw (first_is (opens ∷ s ∷ colon ∷ ((number ++ closes ∷ []) ++ rest)) w) refl

plain_read : {pair : List Token} {found : Basic} (rest : List Token) → IsPair pair found
    → is_sign Bar (first_of rest) ≡ false → plain_at (pair ++ rest) ≡ Ok (basic_item found, rest)
unfolding plain_at
plain_read {pair} {found} rest is no_bar =
    goes_to (λ (r : Basic × List Token). Ok (basic_item r.0, r.1))
    (pair_read pair found rest is no_bar)

item_plain : (types : Known) (a : Token) (sent : Basic) (tail : List Token) (m : Meaning)
    (rest : List Token) → NamesBasic a sent → plain_at (a ∷ tail) ≡ Ok (m, rest)
    → item_at types (a ∷ tail) ≡ Ok (Some m, rest)
unfolding item_at named_at
item_plain types a sent tail m rest (by_name is found) e =
    rw (first_is tail is, basic_read a sent tail (by_name is found)) (ap (λ r. some_read r) e)
item_plain types a _ tail m rest (picked is) e = rw (first_is tail is) (ap (λ r. some_read r) e)
item_plain types a _ tail m rest (by_number is) e = rw (first_is tail is) (ap (λ r. some_read r) e)

-- no sum goes on behind it with a comma or a parenthesis
closing_ends : (closes : Token) (rest : List Token) → Is (Sign CloseParenthesis) closes
    → goes_on (first_of (closes ∷ rest)) ≡ false
closing_ends closes rest is = rw (first_is rest is) refl

no_operator : (flags rest : List Token) → AreFlags flags → goes_on (first_of rest) ≡ false
    → goes_on (first_of (flags ++ rest)) ≡ false
no_operator _ rest no_flag stops = stops
no_operator _ rest (flag_alone {comma} {flag} {others} c f are) stops =
    rw (first_is (flag ∷ (others ++ rest)) c) refl
no_operator _ rest (flag_brackets {comma} {flag} {opens} {closes} {others} c f o e are) stops =
    rw (first_is (flag ∷ opens ∷ closes ∷ (others ++ rest)) c) refl

-- where an operand comes no star does
no_star : (s : Symbol) → is_operand s ≡ true → is_sign Star s ≡ false
no_star (Number n) e = refl
no_star (Sign OpenParenthesis) e = refl
no_star _ e = absurd cc

-- `basic , size flags )` is read
sized_read : (pair : List Token) (comma : Token) (size flags : List Token) (closes : Token)
    (found : Basic) (n : Option ℕ) (rest : List Token) → IsPair pair found → Is (Sign Comma) comma
    → IsSum size n → AreFlags flags → Is (Sign CloseParenthesis) closes
    → sized_at (pair ++ ((comma ∷ (size ++ (flags ++ closes ∷ []))) ++ rest))
    ≡ Ok (given_size found n, rest)
unfolding sized_at
sized_read pair comma size flags closes found n rest p c s f e =
    let tail : List Token = closes ∷ rest in
    let no_bar : is_sign Bar (first_of (comma ∷ ((size ++ (flags ++ closes ∷ [])) ++ rest))) ≡ false
    = rw (first_is ((size ++ (flags ++ closes ∷ [])) ++ rest) c) refl in
    let inside : (size ++ (flags ++ closes ∷ [])) ++ rest ≡ size ++ (flags ++ tail) =
    append_assoc size (flags ++ closes ∷ []) rest
    ∙ ap (λ t. size ++ t) (append_assoc flags (closes ∷ []) rest) in
    goes_to _ (pair_read pair found (comma ∷ ((size ++ (flags ++ closes ∷ [])) ++ rest)) p no_bar)
    ∙ goes_to _ (sign_read ((size ++ (flags ++ closes ∷ [])) ++ rest) c)
    ∙ ap (λ t. sum_at t >>= λ (size : Option ℕ × List Token). flags_at size.1
    >>= λ (behind : List Token). after_sign CloseParenthesis behind
    >>= λ (rest : List Token). Ok (given_size found size.0, rest)) inside
    ∙ goes_to _ (sum_read size n (flags ++ tail) s (no_operator flags tail f
    (closing_ends closes rest
    e)))
    ∙ goes_to _ (flags_read flags tail f (rw (first_is rest e) refl) (rw (first_is rest e) refl))
    ∙ goes_to _ (sign_read rest e)

declared_read : (types : Known) (a : Token) (rest : List Token) → Is Name a
    → basic_of a.bytes ≡ None
    → item_at types (a ∷ rest) ≡ Ok (type_of types a.bytes, rest)
unfolding item_at named_at basic_at first_of basic_of text_of tail_of
declared_read types a rest is no_basic =
    rw (first_is rest is, text_is a rest, no_basic, tail_is a rest) refl

string_read : (opens closes : Token) (number : List Token) (n : Option ℕ) (rest : List Token)
    → Is (Sign OpenBracket) opens → IsSum number n → Is (Sign CloseBracket) closes
    → string_at (opens ∷ ((number ++ closes ∷ []) ++ rest)) ≡ Ok (string n false, rest)
unfolding string_at star_at
string_read opens closes number n rest o is c =
    let behind : List Token = (number ++ closes ∷ []) ++ rest in
    let read = count_read number n closes rest is c in
    goes_to _ (sign_read behind o)
    ∙ rw (no_star (first_of behind) (count_begins behind (n, rest) read)) (goes_to _ read)

most_read : (opens s colon closes : Token) (number : List Token) (n : Option ℕ)
    (rest : List Token) → Is (Sign OpenBracket) opens → Is (Sign Star) s → Is (Sign Colon) colon
    → IsSum number n → Is (Sign CloseBracket) closes
    → string_at (opens ∷ s ∷ colon ∷ ((number ++ closes ∷ []) ++ rest)) ≡ Ok (string n true, rest)
unfolding string_at star_at
most_read opens s colon closes number n rest o t l is c =
    let behind : List Token = (number ++ closes ∷ []) ++ rest in
    goes_to _ (sign_read (s ∷ colon ∷ behind) o)
    ∙ rw (is_next Star (colon ∷ behind) t, tail_is s (colon ∷ behind))
    (ap (λ r. (r >>= λ (rest : List Token). Ok (true, rest))
    >>= λ (bound : Bool × List Token). count_at bound.1
    >>= λ (number : Option ℕ × List Token). Ok (string number.0 bound.0, number.1))
    (sign_read behind l)
    ∙ goes_to _ (count_read number n closes rest is c))

item_read : {types : Known} {inner : List Token} {item : Option Meaning} (rest : List Token)
    → IsItem types inner item → is_sign Bar (first_of rest) ≡ false
    → item_at types (inner ++ rest) ≡ Ok (item, rest)
unfolding item_at
item_read {types} rest (is_basic {pair} {found} is) no_bar =
    let (a, tail, sent, splits, named) = first_named is in
    ap (λ t. item_at types (t ++ rest)) splits
    ∙ item_plain types a sent (tail ++ rest) (basic_item found) rest named
    (ap (λ t. plain_at (t ++ rest)) (sym splits) ∙ plain_read rest is no_bar)
item_read rest (is_sized {opens} {comma} {closes} {pair} {size} {flags} {found} {n} o p c s f e)
    no_bar =
    let inside : List Token = size ++ (flags ++ closes ∷ []) in
    let behind : List Token = (pair ++ comma ∷ inside) ++ rest in
    rw (first_is behind o, tail_is opens behind)
    (ap (λ r. some_read r)
    (ap (λ t. sized_at t) (append_assoc pair (comma ∷ inside) rest)
    ∙ sized_read pair comma size flags closes found n rest p c s f e))
item_read {types} rest (is_declared {name = a} is no_basic) no_bar =
    declared_read types a rest is no_basic
item_read {types} rest (is_struct {word} {opens} {closes} {fields} {found} w o f c) no_bar =
    let behind : List Token = opens ∷ ((fields ++ closes ∷ []) ++ rest) in
    rw (first_is behind w, tail_is word behind)
    (ap (λ r. some_read r) (fields_read types opens closes fields rest found o f c))
item_read rest (is_string {word} {opens} {closes} {number} {n} w o is c) no_bar =
    let behind : List Token = opens ∷ ((number ++ closes ∷ []) ++ rest) in
    rw (first_is behind w, tail_is word behind)
    (ap (λ r. some_read r) (string_read opens closes number n rest o is c))
item_read rest (is_most {word} {opens} {star =
    s} {colon} {closes} {number} {n} w o t l is c) no_bar =
    let behind : List Token = opens ∷ s ∷ colon ∷ ((number ++ closes ∷ []) ++ rest) in
    rw (first_is behind w, tail_is word behind)
    (ap (λ r. some_read r) (most_read opens s colon closes number n rest o t l is c))

pub spec_is_read : SpecIsRead
unfolding spec_at
spec_is_read types written found rest spec no_bar =
    let u = unwrapped spec in
    ap (λ t. spec_at types (t ++ rest)) u.splits
    ∙ ap (λ t. spec_at types t) (append_assoc u.around u.inner rest)
    ∙ goes_to _ (layers_read u.around (u.inner ++ rest) u.layers u.are (item_begins rest u.is))
    ∙ goes_to _ (item_read rest u.is no_bar)
    ∙ ap (λ f. Ok (f, rest)) (sym u.means)
