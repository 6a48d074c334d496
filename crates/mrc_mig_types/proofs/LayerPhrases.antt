-- Arrays, structs and pointers around a type are read exactly where they stand.
use Rattle.std.proofs.Common.{◌≡◌, ℕ, ◌-◌, ◌<◌, ◌≤◌, Bool, true, false, List, [], ◌∷◌}
use Rattle.std.proofs.Common.{◌++◌}
use Rattle.std.proofs.Common.{length, Option, Some, None, Ok, refl, sym, ap, ◌∙◌}
use Rattle.std.proofs.Common.{subst}
use Rattle.std.proofs.Common.{arith, append_assoc, option_map, length-append}
use Rattle.std.proofs.lemmas.List.{append-nil}
use Rattle.std.specs.Option.{ok_or}
use Rattle.mrc_base.specs.Reading.{◌>>=◌}
use Rattle.mrc_mig_lex.specs.declared.token.Sign.TheVariants.{OpenBracket, CloseBracket, Star}
use Rattle.mrc_mig_lex.specs.declared.token.Sign.TheVariants.{Colon}
use Rattle.mrc_mig_lex.specs.declared.token.Sign.TheVariants.{Caret, OpenParenthesis}
use Rattle.mrc_mig_symbols.specs.declared.word.Word.TheVariants as words
use Rattle.mrc_mig_tokens.specs.declared.symbol.Symbol.{Symbol}
use Rattle.mrc_mig_tokens.specs.declared.symbol.Symbol.TheVariants.{Word, Sign}
use Rattle.mrc_mig_tokens.specs.declared.symbol.Symbol.TheVariants as symbols
use Rattle.mrc_mig_tokens.specs.Tokens.{Token}
use Rattle.mrc_mig_tokens.specs.Reading.{first_of, tail_of, unexpected, many}
use Rattle.mrc_mig_tokens.specs.Reading.{after_sign}
use Rattle.mrc_mig_tokens.specs.SumGrammar.{goes_on}
use Rattle.mrc_mig_tokens.specs.Sums.{Reading, operand_step, ends, step, value_before, value_from}
use Rattle.mrc_mig_tokens.specs.Sums.{nothing_read, sum_at}
use Rattle.mrc_mig_tokens.proofs.LoopLemmas.{many_ends}
use Rattle.mrc_mig_types.specs.declared.layers.Layer.{Layer}
use Rattle.mrc_mig_types.specs.declared.layers.Layer.TheVariants as layers
use Rattle.mrc_mig_types.specs.declared.meaning.Meaning.{Meaning}
use Rattle.mrc_mig_types.specs.Meanings.{layer_of, within}
use Rattle.mrc_mig_types.specs.Reading.{of_by, after_of, count_at, dimension_by, dimension_at}
use Rattle.mrc_mig_types.specs.Reading.{array_at, structure_at, begins_layer, layer_by}
use Rattle.mrc_mig_types.specs.Reading.{layer_at, goes_around, around_at, layers_at}
use Rattle.mrc_mig_types.specs.Specs.{Is, IsSum, IsSpec, open_brackets, open_star, bounded_array}
use Rattle.mrc_mig_types.specs.Specs.{fixed_array, struct_of_one, pointer}
use Rattle.mrc_mig_types.specs.Table.{Known}
use Rattle.mrc_mig_types.proofs.BasicPhrases.{sum_is, sum_read}
use Rattle.mrc_mig_types.proofs.PhraseLemmas.{Leads, goes_to, in_two, same_Ok, many_step}
use Rattle.mrc_mig_types.proofs.PhraseLemmas.{many_holds}
use Rattle.mrc_mig_types.proofs.PhraseLemmas.{front, first_is, tail_is, sign_is, sign_read}
use Rattle.mrc_mig_types.proofs.PhraseLemmas.{some_is}

-- the dimension of an array, with the bracket behind it
pub data IsDimension : List Token → Layer → Type 0 where
  any : {closes : Token} → Is (Sign CloseBracket) closes → IsDimension (closes ∷ []) layers.Open
  star : {star closes : Token} → Is (Sign Star) star → Is (Sign CloseBracket) closes
      → IsDimension (star ∷ closes ∷ []) layers.Open
  most : {star colon closes : Token} {number : List Token} {n : Option ℕ} → Is (Sign Star) star
      → Is (Sign Colon) colon → IsSum number n → Is (Sign CloseBracket) closes
      → IsDimension (star ∷ colon ∷ (number ++ closes ∷ [])) (layers.Bounded n)
  fixed : {closes : Token} {number : List Token} {n : Option ℕ} → IsSum number n
      → Is (Sign CloseBracket) closes → IsDimension (number ++ closes ∷ []) (layers.Array n)

-- what stands around a type
pub data IsLayer : List Token → Layer → Type 0 where
  caret : {caret : Token} → Is (Sign Caret) caret → IsLayer (caret ∷ []) layers.Pointer
  array : {word opens of : Token} {dimension : List Token} {layer : Layer}
      → Is (Word words.Array) word → Is (Sign OpenBracket) opens → IsDimension dimension layer
      → Is (Word words.Of) of → IsLayer (word ∷ opens ∷ (dimension ++ of ∷ [])) layer
  struct : {word opens closes of : Token} {number : List Token} {n : Option ℕ}
      → Is (Word words.Struct) word → Is (Sign OpenBracket) opens → IsSum number n
      → Is (Sign CloseBracket) closes → Is (Word words.Of) of
      → IsLayer (word ∷ opens ∷ ((number ++ closes ∷ []) ++ of ∷ [])) (layers.Array n)

-- any number of them, the outermost first
pub data AreLayers : List Token → List Layer → Type 0 where
  none : AreLayers [] []
  more : {one others : List Token} {layer : Layer} {inner : List Layer} → IsLayer one layer
      → AreLayers others inner → AreLayers (one ++ others) (layer ∷ inner)

-- ---- what is read stands there

of_is_by : (symbol : Symbol) (tokens rest : List Token) → first_of tokens ≡ symbol
    → of_by symbol tokens ≡ Ok rest
    → (token : Token) × (tokens ≡ token ∷ rest) × Is (Word words.Of) token
of_is_by (Word words.Of) tokens rest first e =
    let f = front (Word words.Of) tokens refl first in
    (f.token, f.splits ∙ ap (λ t. f.token ∷ t) (same_Ok (tail_of tokens) rest e), f.is)
of_is_by _ tokens rest first e = absurd cc

of_is : (tokens rest : List Token) → after_of tokens ≡ Ok rest
    → (token : Token) × (tokens ≡ token ∷ rest) × Is (Word words.Of) token
unfolding after_of
of_is tokens rest e = of_is_by (first_of tokens) tokens rest refl e

of_read : {token : Token} (rest : List Token) → Is (Word words.Of) token
    → after_of (token ∷ rest) ≡ Ok rest
unfolding after_of
of_read {token} rest is = rw (first_is rest is, tail_is token rest) refl

-- `n ]`
pub count_is : (tokens : List Token) (n : Option ℕ) (rest : List Token)
    → count_at tokens ≡ Ok (n, rest)
    → (number : List Token) × (closes : Token) × (tokens ≡ (number ++ closes ∷ []) ++ rest)
    × IsSum number n × Is (Sign CloseBracket) closes
unfolding count_at
count_is tokens n rest e =
    let (read, summed, onward) = in_two _ _ _ e in
    let (behind, closed, last) = in_two _ _ _ onward in
    let same = same_Ok (read.0, behind) (n, rest) last in
    let s = sum_is tokens read.0 read.1 summed in
    let closes = sign_is CloseBracket read.1 behind closed in (
      s.0,
      closes.0,
      s.1 ∙ ap (λ t. s.0 ++ t) closes.1
          ∙ ap (λ (r : Option ℕ × List Token). s.0 ++ closes.0 ∷ r.1) same
          ∙ sym (append_assoc s.0 (closes.0 ∷ []) rest),
      subst (λ (r : Option ℕ × List Token). IsSum s.0 r.0) same s.2,
      closes.2,
    )

no_sum_at_bracket : (closes : Token) (rest : List Token) → Is (Sign CloseBracket) closes
    → goes_on (first_of (closes ∷ rest)) ≡ false
no_sum_at_bracket closes rest is = rw (first_is rest is) refl

pub count_read : (number : List Token) (n : Option ℕ) (closes : Token) (rest : List Token)
    → IsSum number n → Is (Sign CloseBracket) closes
    → count_at ((number ++ closes ∷ []) ++ rest) ≡ Ok (n, rest)
unfolding count_at
count_read number n closes rest is closing =
    ap (λ t. count_at t) (append_assoc number (closes ∷ []) rest)
    ∙ goes_to _ (sum_read number n (closes ∷ rest) is (no_sum_at_bracket closes rest closing))
    ∙ goes_to _ (sign_read rest closing)

-- a dimension stands in front of the rest
abbrev IsDimensionAt : List Token → Layer × List Token → Type 0
IsDimensionAt tokens found = Leads (λ w. IsDimension w found.0) tokens found.1

fixed_is : (tokens : List Token) (found : Layer × List Token)
    → (count_at tokens >>= λ number. Ok (layers.Array number.0, number.1)) ≡ Ok found
    → IsDimensionAt tokens found
fixed_is tokens found e =
    let (read, counted, last) = in_two _ _ _ e in
    let c = count_is tokens read.0 read.1 counted in
    subst (λ r. IsDimensionAt tokens r) (same_Ok (layers.Array read.0, read.1) found last)
    (c.0 ++ c.1 ∷ [], c.2, fixed c.3 c.4)

bounded_is : (tokens : List Token) (found : Layer × List Token)
    → first_of tokens ≡ Sign Star
    → (after_sign Colon (tail_of tokens) >>= λ behind. count_at behind
    >>= λ number. Ok (layers.Bounded number.0, number.1)) ≡ Ok found
    → IsDimensionAt tokens found
bounded_is tokens found first e =
    let (behind, separated, onward) = in_two _ _ _ e in
    let (read, counted, last) = in_two _ _ _ onward in
    let f = front (Sign Star) tokens refl first in
    let colon = sign_is Colon (tail_of tokens) behind separated in
    let c = count_is behind read.0 read.1 counted in
    subst (λ r. IsDimensionAt tokens r) (same_Ok (layers.Bounded read.0, read.1) found last) (
      f.token ∷ colon.0 ∷ (c.0 ++ c.1 ∷ []),
      f.splits ∙ ap (λ t. f.token ∷ t) (colon.1 ∙ ap (λ t. colon.0 ∷ t) c.2),
      most f.is colon.2 c.3 c.4,
    )

dimension_is_by : (first second : Symbol) (tokens : List Token) (found : Layer × List Token)
    → first_of tokens ≡ first → first_of (tail_of tokens) ≡ second
    → dimension_by first second tokens ≡ Ok found → IsDimensionAt tokens found
dimension_is_by (Sign CloseBracket) second tokens found first is e =
    let f = front (Sign CloseBracket) tokens refl first in
    subst (λ r. IsDimensionAt tokens r) (same_Ok (layers.Open, tail_of tokens) found e)
    (f.token ∷ [], f.splits, any f.is)
dimension_is_by (Sign Star) (Sign CloseBracket) tokens found first is e =
    let f = front (Sign Star) tokens refl first in
    let c = front (Sign CloseBracket) (tail_of tokens) refl is in
    subst (λ r. IsDimensionAt tokens r) (same_Ok (layers.Open, tail_of (tail_of tokens)) found e)
    (f.token ∷ c.token ∷ [], f.splits ∙ ap (λ t. f.token ∷ t) c.splits, star f.is c.is)
dimension_is_by (Sign Star) second tokens found first is e = bounded_is tokens found first e
dimension_is_by first second tokens found is is' e = fixed_is tokens found e

dimension_is : (tokens : List Token) (found : Layer × List Token) → dimension_at tokens ≡ Ok found
    → IsDimensionAt tokens found
unfolding dimension_at
dimension_is tokens found e =
    dimension_is_by (first_of tokens) (first_of (tail_of tokens)) tokens found refl refl e

-- a layer stands in front of the rest
abbrev pub IsLayerAt : List Token → Layer × List Token → Type 0
IsLayerAt tokens found = Leads (λ w. IsLayer w found.0) tokens found.1

array_is : (tokens : List Token) (found : Layer × List Token)
    → first_of tokens ≡ Word words.Array → array_at (tail_of tokens) ≡ Ok found
    → IsLayerAt tokens found
unfolding array_at
array_is tokens found first e =
    let (opened, opening, onward) = in_two _ _ _ e in
    let (read, sized, next) = in_two _ _ _ onward in
    let (behind, coming, last) = in_two _ _ _ next in
    let f = front (Word words.Array) tokens refl first in
    let opens = sign_is OpenBracket (tail_of tokens) opened opening in
    let d = dimension_is opened read sized in
    let of = of_is read.1 behind coming in
    subst (λ r. IsLayerAt tokens r) (same_Ok (read.0, behind) found last) (
      f.token ∷ opens.0 ∷ (d.0 ++ of.0 ∷ []),
      f.splits ∙ ap (λ t. f.token ∷ t) (opens.1 ∙ ap (λ t. opens.0 ∷ t)
          (d.1 ∙ ap (λ t. d.0 ++ t) of.1 ∙ sym (append_assoc d.0 (of.0 ∷ []) behind))),
      array f.is opens.2 d.2 of.2,
    )

structure_is : (tokens : List Token) (found : Layer × List Token)
    → first_of tokens ≡ Word words.Struct → structure_at (tail_of tokens) ≡ Ok found
    → IsLayerAt tokens found
unfolding structure_at
structure_is tokens found first e =
    let (opened, opening, onward) = in_two _ _ _ e in
    let (read, counted, next) = in_two _ _ _ onward in
    let (behind, coming, last) = in_two _ _ _ next in
    let f = front (Word words.Struct) tokens refl first in
    let opens = sign_is OpenBracket (tail_of tokens) opened opening in
    let c = count_is opened read.0 read.1 counted in
    let of = of_is read.1 behind coming in
    subst (λ r. IsLayerAt tokens r) (same_Ok (layers.Array read.0, behind) found last) (
      f.token ∷ opens.0 ∷ ((c.0 ++ c.1 ∷ []) ++ of.0 ∷ []),
      f.splits ∙ ap (λ t. f.token ∷ t) (opens.1 ∙ ap (λ t. opens.0 ∷ t)
          (c.2 ∙ ap (λ t. (c.0 ++ c.1 ∷ []) ++ t) of.1
          ∙ sym (append_assoc (c.0 ++ c.1 ∷ []) (of.0 ∷ []) behind))),
      struct f.is opens.2 c.3 c.4 of.2,
    )

layer_is_by : (symbol : Symbol) (tokens : List Token) (found : Layer × List Token)
    → first_of tokens ≡ symbol → layer_by symbol tokens ≡ Ok found → IsLayerAt tokens found
layer_is_by (Sign Caret) tokens found first e =
    let f = front (Sign Caret) tokens refl first in
    subst (λ r. IsLayerAt tokens r) (same_Ok (layers.Pointer, tail_of tokens) found e)
    (f.token ∷ [], f.splits, caret f.is)
layer_is_by (Word words.Array) tokens found first e = array_is tokens found first e
layer_is_by (Word words.Struct) tokens found first e = structure_is tokens found first e
layer_is_by _ tokens found first e = absurd cc

layer_is : (tokens : List Token) (found : Layer × List Token) → layer_at tokens ≡ Ok found
    → IsLayerAt tokens found
unfolding layer_at
layer_is tokens found e = layer_is_by (first_of tokens) tokens found refl e

-- layers that are read behind others
abbrev AreBehind : List Layer × List Token → List Layer × List Token → Type 0
AreBehind a c = (written : List Token) × (inner : List Layer) × (a.1 ≡ written ++ c.1)
    × (c.0 ≡ a.0 ++ inner) × AreLayers written inner

one_behind : (a b c : List Layer × List Token) → around_at a ≡ Ok b → AreBehind b c
    → AreBehind a c
one_behind a b c stepped (written, inner, splits, all, are) =
    let (read, layered, last) = in_two _ _ _ stepped in
    let same = same_Ok (a.0 ++ read.0 ∷ [], read.1) b last in
    let l = layer_is a.1 read layered in
    let rest : read.1 ≡ b.1 = ap (λ (r : List Layer × List Token). r.1) same in
    let front : a.0 ++ read.0 ∷ [] ≡ b.0 = ap (λ (r : List Layer × List Token). r.0) same in (
      l.0 ++ written,
      read.0 ∷ inner,
      l.1 ∙ ap (λ t. l.0 ++ t) (rest ∙ splits) ∙ sym (append_assoc l.0 written c.1),
      all ∙ ap (λ t. t ++ inner) (sym front) ∙ append_assoc a.0 (read.0 ∷ []) inner,
      more l.2 are,
    )

pub layers_is : (tokens : List Token) (found : List Layer × List Token)
    → layers_at tokens ≡ Ok found → Leads (λ w. AreLayers w found.0) tokens found.1
unfolding layers_at
layers_is tokens found e =
    let all = many_holds goes_around around_at (λ a c. AreBehind a c)
    (λ a. ([], [], refl, sym (append-nil a.0), none))
    (λ a b c _ stepped later. one_behind a b c stepped later)
    (length tokens) ([], tokens) found e in
    (all.0, all.2, subst (λ l. AreLayers all.0 l) (sym all.3) all.4)

-- ---- what stands there is read

-- an expression of which nothing is read
abbrev begun : Reading
begun = record { outer = []; sum = nothing_read; wants_operand = true }

-- an operand begins with a number or a parenthesis
abbrev pub is_operand : Symbol → Bool
is_operand (symbols.Number n) = true
is_operand (Sign OpenParenthesis) = true
is_operand _ = false

operand_steps : (s : Symbol) (next : Reading) → operand_step s begun ≡ Some next
    → is_operand s ≡ true
operand_steps (symbols.Number n) next e = refl
operand_steps (Sign OpenParenthesis) next e = refl
operand_steps _ next e = absurd cc

begins_operand : (tokens : List Token) (found : Option ℕ × List Token) → sum_at tokens ≡ Ok found
    → is_operand (first_of tokens) ≡ true
unfolding sum_at value_from value_before ends step first_of
begins_operand [] found e = absurd cc
begins_operand (token ∷ tokens) found e =
    let (next, stepped, later) = in_two (ok_or (operand_step token.symbol begun)
    (unexpected (token ∷ tokens))) (λ next. value_from next tokens) found e in
    operand_steps token.symbol next (some_is (operand_step token.symbol begun) _ next stepped)

at_operand : (s second : Symbol) (tokens : List Token) → is_operand s ≡ true
    → dimension_by s second tokens
    ≡ (count_at tokens >>= λ number. Ok (layers.Array number.0, number.1))
at_operand (symbols.Number n) second tokens e = refl
at_operand (Sign OpenParenthesis) second tokens e = refl
at_operand _ second tokens e = absurd cc

pub count_begins : (tokens : List Token) (found : Option ℕ × List Token)
    → count_at tokens ≡ Ok found
    → is_operand (first_of tokens) ≡ true
unfolding count_at
count_begins tokens found e =
    let (read, summed, onward) = in_two _ _ _ e in begins_operand tokens read summed

dimension_read : (written : List Token) (layer : Layer) (rest : List Token)
    → IsDimension written layer → dimension_at (written ++ rest) ≡ Ok (layer, rest)
unfolding dimension_at tail_of
dimension_read _ _ rest (any {closes} closing) =
    rw (first_is rest closing, tail_is closes rest) refl
dimension_read _ _ rest (star {star = s} {closes} starring closing) =
    rw (
      first_is (closes ∷ rest) starring,
      tail_is s (closes ∷ rest),
      first_is rest closing,
      tail_is closes rest,
    ) refl
dimension_read _ _ rest (most {star = s} {colon} {closes} {number} {n} starring coloning is closing)
    =
    let behind : List Token = (number ++ closes ∷ []) ++ rest in
    rw (
      first_is (colon ∷ behind) starring,
      tail_is s (colon ∷ behind),
      first_is behind coloning,
    ) (goes_to _ (sign_read behind coloning)
    ∙ goes_to _ (count_read number n closes rest is closing))
dimension_read _ _ rest (fixed {closes} {number} {n} is closing) =
    let read = count_read number n closes rest is closing in
    let tokens : List Token = (number ++ closes ∷ []) ++ rest in
    at_operand (first_of tokens) (first_of (tail_of tokens)) tokens
    (count_begins tokens (n, rest) read)
    ∙ goes_to (λ (r : Option ℕ × List Token). Ok (layers.Array r.0, r.1)) read

layer_read : (written : List Token) (layer : Layer) (rest : List Token)
    → IsLayer written layer → layer_at (written ++ rest) ≡ Ok (layer, rest)
unfolding layer_at array_at structure_at
layer_read _ _ rest (caret {caret = c} is) = rw (first_is rest is, tail_is c rest) refl
layer_read _ _ rest (array {word} {opens} {of} {dimension} {layer} is opening sized coming) =
    let behind : List Token = (dimension ++ of ∷ []) ++ rest in
    rw (first_is (opens ∷ behind) is, tail_is word (opens ∷ behind))
    (goes_to _ (sign_read behind opening)
    ∙ ap (λ t. dimension_at t >>= λ (r : Layer × List Token). after_of r.1
    >>= λ (b : List Token). Ok (r.0, b)) (append_assoc dimension (of ∷ []) rest)
    ∙ goes_to _ (dimension_read dimension layer (of ∷ rest) sized)
    ∙ goes_to _ (of_read rest coming))
layer_read _ _ rest (struct {word} {opens} {closes} {of} {number} {n} is opening counts closing
    coming) =
    let behind : List Token = ((number ++ closes ∷ []) ++ of ∷ []) ++ rest in
    rw (first_is (opens ∷ behind) is, tail_is word (opens ∷ behind))
    (goes_to _ (sign_read behind opening)
    ∙ ap (λ t. count_at t >>= λ (r : Option ℕ × List Token). after_of r.1
    >>= λ (b : List Token). Ok (layers.Array r.0, b))
    (append_assoc (number ++ closes ∷ []) (of ∷ []) rest)
    ∙ goes_to _ (count_read number n closes (of ∷ rest) counts closing)
    ∙ goes_to _ (of_read rest coming))

layer_begins : (written : List Token) (layer : Layer) (rest : List Token) → IsLayer written layer
    → begins_layer (written ++ rest) ≡ true
layer_begins _ _ rest (caret {caret = c} is) = rw (first_is rest is) refl
layer_begins _ _ rest (array {word} {opens} {of} {dimension} is opening sized coming) =
    rw (first_is (opens ∷ ((dimension ++ of ∷ []) ++ rest)) is) refl
layer_begins _ _ rest (struct {word} {opens} {closes} {of} {number} is opening counts closing
    coming) =
    let behind : List Token = ((number ++ closes ∷ []) ++ of ∷ []) ++ rest in
    rw (first_is (opens ∷ behind) is, tail_is word (opens ∷ behind), first_is behind opening) refl

-- a layer has a token at least
layer_some : (written : List Token) (layer : Layer) → IsLayer written layer → 0 < length written
layer_some _ _ (caret is) = omega arith
layer_some _ _ (array is opening sized coming) = omega arith
layer_some _ _ (struct is opening counts closing coming) = omega arith

layers_by : (n : ℕ) (written rest : List Token) (read inner : List Layer) → AreLayers written inner
    → length (written ++ rest) ≤ n → begins_layer rest ≡ false
    → many goes_around around_at n (read, written ++ rest) ≡ Ok (read ++ inner, rest)
layers_by n _ rest read _ none le stops =
    many_ends goes_around around_at n (read, rest) stops
    ∙ ap (λ l. Ok (l, rest)) (sym (append-nil read))
layers_by n _ rest read _ (more {one} {others} {layer} {inner} is are) le stops =
    let assoc = append_assoc one others rest in
    let some = layer_some one layer is in
    let fewer : length (others ++ rest) ≤ n - 1 =
    omega (arith, length-append one (others ++ rest), ap length assoc) in
    let positive : 0 < n = omega (arith, length-append one (others ++ rest), ap length assoc) in
    ap (λ t. many goes_around around_at n (read, t)) assoc
    ∙ many_step goes_around around_at n 0 (read, one ++ (others ++ rest))
    (read ++ layer ∷ [], others ++ rest) positive (layer_begins one layer (others ++ rest) is)
    (goes_to (λ (l : Layer × List Token). Ok (read ++ l.0 ∷ [], l.1))
    (layer_read one layer (others ++ rest) is))
    ∙ layers_by (n - 1) others rest (read ++ layer ∷ []) inner are fewer stops
    ∙ ap (λ l. Ok (l, rest)) (append_assoc read (layer ∷ []) inner)

pub layers_read : (written rest : List Token) (inner : List Layer) → AreLayers written inner
    → begins_layer rest ≡ false → layers_at (written ++ rest) ≡ Ok (inner, rest)
unfolding layers_at
layers_read written rest inner are stops =
    layers_by (length (written ++ rest)) written rest [] inner are (omega arith) stops

-- ---- a type inside them

wrapped : {types : Known} {inner : List Token} {found : Option Meaning} (one : List Token)
    (layer : Layer) → IsLayer one layer → IsSpec types inner found
    → IsSpec types (one ++ inner) (option_map (layer_of layer) found)
wrapped _ _ (caret is) spec = pointer is spec
wrapped _ _ (array {word} {opens} {of} is opening (any {closes} closing) coming) spec =
    open_brackets is opening closing coming spec
wrapped _ _ (array is opening (star starring closing) coming) spec =
    open_star is opening starring closing coming spec
wrapped {types} {inner} {found} _ _
    (array {word} {opens} {of} is opening
    (most {star = s} {colon} {closes} {number} {n} starring coloning counts closing) coming) spec =
    let regroup : ((number ++ closes ∷ []) ++ of ∷ []) ++ inner
    ≡ number ++ closes ∷ of ∷ inner =
    append_assoc (number ++ closes ∷ []) (of ∷ []) inner
    ∙ append_assoc number (closes ∷ []) (of ∷ inner) in
    subst (λ t. IsSpec types (word ∷ opens ∷ s ∷ colon ∷ t)
    (option_map (layer_of (layers.Bounded n)) found)) (sym regroup)
    (bounded_array is opening starring coloning counts closing coming spec)
wrapped {types} {inner} {found} _ _
    (array {word} {opens} {of} is opening
    (fixed {closes} {number} {n} counts closing) coming) spec =
    let regroup : ((number ++ closes ∷ []) ++ of ∷ []) ++ inner
    ≡ number ++ closes ∷ of ∷ inner =
    append_assoc (number ++ closes ∷ []) (of ∷ []) inner
    ∙ append_assoc number (closes ∷ []) (of ∷ inner) in
    subst (λ t. IsSpec types (word ∷ opens ∷ t) (option_map (layer_of (layers.Array n)) found))
    (sym regroup)
    (fixed_array is opening counts closing coming spec)
wrapped {types} {inner} {found} _ _
    (struct {word} {opens} {closes} {of} {number} {n} is opening counts closing coming) spec =
    let regroup : ((number ++ closes ∷ []) ++ of ∷ []) ++ inner
    ≡ number ++ closes ∷ of ∷ inner =
    append_assoc (number ++ closes ∷ []) (of ∷ []) inner
    ∙ append_assoc number (closes ∷ []) (of ∷ inner) in
    subst (λ t. IsSpec types (word ∷ opens ∷ t) (option_map (layer_of (layers.Array n)) found))
    (sym regroup)
    (struct_of_one is opening counts closing coming spec)

pub none_around : (found : Option Meaning) → option_map (within []) found ≡ found
none_around None = refl
none_around (Some found) = refl

pub one_around : (layer : Layer) (inner : List Layer) (found : Option Meaning)
    → option_map (layer_of layer) (option_map (within inner) found)
    ≡ option_map (within (layer ∷ inner)) found
one_around layer inner None = refl
one_around layer inner (Some found) = refl

pub all_wrapped : {types : Known} {inner : List Token} {found : Option Meaning}
    (written : List Token) (layers : List Layer) → AreLayers written layers
    → IsSpec types inner found
    → IsSpec types (written ++ inner) (option_map (within layers) found)
all_wrapped {types} {inner} {found} _ _ none spec =
    subst (λ f. IsSpec types inner f) (sym (none_around found)) spec
all_wrapped {types} {inner} {found} _ _ (more {one} {others} {layer} {inner = behind} is are) spec =
    let whole = wrapped one layer is (all_wrapped others behind are spec) in
    subst (λ t. IsSpec types t (option_map (within (layer ∷ behind)) found))
    (sym (append_assoc one others inner))
    (subst (λ f. IsSpec types (one ++ (others ++ inner)) f) (one_around layer behind found) whole)
