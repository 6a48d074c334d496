-- The arrays and structs around a type are read exactly where they stand.
use Rattle.std.proofs.Common.{◌≡◌, false, List, [], ◌∷◌, ◌++◌, length, Some}
use Rattle.std.proofs.Common.{refl, sym, ap, ◌∙◌, subst, arith, append_assoc}
use Rattle.std.proofs.lemmas.List.{length-append}
use Rattle.std.proofs.lemmas.Option.{same_Some, some_pair_parts}
use Rattle.mrc_mig_lex.specs.Tokens.{Lexeme}
use Rattle.mrc_mig_symbols.specs.declared.symbol.Symbol.{Symbol}
use Rattle.mrc_mig_symbols.specs.declared.symbol.Symbol.TheVariants.{Word}
use Rattle.mrc_mig_symbols.specs.declared.word.Word.TheVariants as words
use Rattle.mrc_mig_symbols.specs.Symbols.{first_of, tail_of}
use Rattle.mrc_mig_parse.specs.declared.types.Around.{Around}
use Rattle.mrc_mig_parse.specs.Types.{nothing_around, of_by, after_of, array_at, structure_at}
use Rattle.mrc_mig_parse.specs.Types.{is_layer, layer_by, layer_at, begins_layer, layers_at}
use Rattle.mrc_mig_parse.specs.Grammar.{AnyNumber, Is, IsLayer, array, struct}
use Rattle.mrc_mig_parse.proofs.ManyPhrases.{Leads, IsRead, many_are, many_read}
use Rattle.mrc_mig_parse.proofs.PhraseLemmas.{in_two, front}
use Rattle.mrc_mig_parse.proofs.DimensionPhrases.{dimension_is, variable_dimension_is}
use Rattle.mrc_mig_parse.proofs.DimensionPhrases.{dimension_read, variable_dimension_read}

of_is_by : (symbol : Symbol) (tokens rest : List Lexeme) → first_of tokens ≡ symbol
    → of_by symbol tokens ≡ Some rest → (token : Lexeme) × (tokens ≡ token ∷ rest)
    × Is (Word words.Of) token
of_is_by (Word words.Of) tokens rest first e =
    let f = front (Word words.Of) tokens refl first in
    (f.token, f.splits ∙ ap (λ t. f.token ∷ t) (same_Some (tail_of tokens) rest e), f.is)
of_is_by _ tokens rest first e = absurd cc

-- `of` that is read stands there
after_of_is : (tokens rest : List Lexeme) → after_of tokens ≡ Some rest
    → (token : Lexeme) × (tokens ≡ token ∷ rest) × Is (Word words.Of) token
unfolding after_of
after_of_is tokens rest e = of_is_by (first_of tokens) tokens rest refl e

after_of_read : {token : Lexeme} (rest : List Lexeme) → Is (Word words.Of) token
    → after_of (token ∷ rest) ≡ Some rest
unfolding after_of first_of tail_of
after_of_read rest is = rw is.seen refl

-- behind the dimension comes `of`
with_of : (word of : Lexeme) (tokens tail dimension behind rest : List Lexeme)
    → tokens ≡ word ∷ tail → tail ≡ dimension ++ behind → behind ≡ of ∷ rest
    → tokens ≡ (word ∷ (dimension ++ of ∷ [])) ++ rest
with_of word of tokens tail dimension behind rest first second third =
    first ∙ ap (λ t. word ∷ t) (second ∙ ap (λ t. dimension ++ t) third
    ∙ sym (append_assoc dimension (of ∷ []) rest))

layer_is_by : (symbol : Symbol) (around : Around) (tokens : List Lexeme) (inner : Around)
    (rest : List Lexeme) → first_of tokens ≡ symbol
    → layer_by symbol around tokens ≡ Some (inner, rest)
    → Leads (λ w. IsLayer around w inner) tokens rest
unfolding array_at structure_at
layer_is_by (Word words.Array) around tokens inner rest first e =
    let (dimension, read, more) = in_two _ _ _ e in
    let (behind, ended, last) = in_two _ _ _ more in
    let (same, end) = some_pair_parts dimension.0 inner behind rest last in
    let f = front (Word words.Array) tokens refl first in
    let d = variable_dimension_is around (tail_of tokens) dimension.0 dimension.1 read in
    let o = after_of_is dimension.1 behind ended in (
      f.token ∷ (d.0 ++ o.0 ∷ []),
      with_of f.token o.0 tokens (tail_of tokens) d.0 dimension.1 rest f.splits d.1
          (o.1 ∙ ap (λ t. o.0 ∷ t) end),
      subst (λ i. IsLayer around (f.token ∷ (d.0 ++ o.0 ∷ [])) i) same (array f.is d.2 o.2),
    )
layer_is_by (Word words.Struct) around tokens inner rest first e =
    let (before, opened, dimensioned) = in_two _ _ _ e in
    let (dimension, read, more) = in_two _ _ _ dimensioned in
    let (behind, ended, last) = in_two _ _ _ more in
    let (same, end) = some_pair_parts dimension.0 inner behind rest last in
    let f = front (Word words.Struct) tokens refl first in
    let d = dimension_is around (tail_of tokens) before dimension.0 dimension.1 opened read in
    let o = after_of_is dimension.1 behind ended in (
      f.token ∷ (d.0 ++ o.0 ∷ []),
      with_of f.token o.0 tokens (tail_of tokens) d.0 dimension.1 rest f.splits d.1
          (o.1 ∙ ap (λ t. o.0 ∷ t) end),
      subst (λ i. IsLayer around (f.token ∷ (d.0 ++ o.0 ∷ [])) i) same (struct f.is d.2 o.2),
    )
layer_is_by _ around tokens inner rest first e = absurd cc

layer_is : (a b : Around × List Lexeme) → layer_at a ≡ Some b
    → Leads (λ w. IsLayer a.0 w b.0) a.1 b.1
unfolding layer_at
layer_is a b e = layer_is_by (first_of a.1) a.0 a.1 b.0 b.1 refl e

-- arrays and structs that are read stand there
pub around_is : (tokens : List Lexeme) (around : Around) (rest : List Lexeme)
    → layers_at tokens ≡ Some (around, rest)
    → Leads (λ w. AnyNumber IsLayer nothing_around w around) tokens rest
unfolding layers_at
around_is tokens around rest e =
    many_are IsLayer (λ r. r.0) (λ r. r.1) begins_layer layer_at
    (λ a b test stepped. layer_is a b stepped) (length tokens) (nothing_around, tokens)
    (around, rest) e

layer_read : (around : Around) (written : List Lexeme) (inner : Around) (rest : List Lexeme)
    → IsLayer around written inner
    → IsRead begins_layer layer_at written (around, written ++ rest) (inner, rest)
unfolding begins_layer layer_at array_at structure_at first_of tail_of
layer_read around _ inner rest (array {of = of} {dimension} w is o) =
    rw (append_assoc dimension (of ∷ []) rest) (
      rw w.seen refl,
      rw (
        w.seen,
        variable_dimension_read around dimension inner (of ∷ rest) is,
        after_of_read rest o,
      ) refl,
      omega arith,
    )
layer_read around _ inner rest (struct {of = of} {dimension} w is o) =
    let (behind, opened, read) = dimension_read around dimension inner (of ∷ rest) is in
    rw (append_assoc dimension (of ∷ []) rest)
    (rw w.seen refl, rw (w.seen, opened, read, after_of_read rest o) refl, omega arith)

pub around_read : (written : List Lexeme) (around : Around) (rest : List Lexeme)
    → AnyNumber IsLayer nothing_around written around → is_layer (first_of rest) ≡ false
    → layers_at (written ++ rest) ≡ Some (around, rest)
unfolding layers_at begins_layer
around_read written around rest are ends =
    many_read IsLayer (λ a t. (a, t)) begins_layer layer_at (λ _. Unit {0})
    (λ a w b rest is. tt) (λ a w b rest is leads. layer_read a w b rest is)
    (length (written ++ rest)) nothing_around written around rest are
    (let count = length-append written rest in omega (arith, count)) tt ends
