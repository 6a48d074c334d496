-- Types are read exactly where they stand.
use Rattle.std.proofs.Common.{◌≡◌, ℕ, Bool, true, false, List, ◌++◌, Some, refl, ap, ◌∙◌, sym}
use Rattle.std.proofs.Common.{append_assoc}
use Rattle.mrc_mig_lex.specs.Tokens.{Lexeme}
use Rattle.mrc_mig_lex.specs.declared.token.Sign.TheVariants.{Semicolon, CloseParenthesis, Bar}
use Rattle.mrc_mig_symbols.specs.declared.symbol.Symbol.{Symbol}
use Rattle.mrc_mig_symbols.specs.declared.symbol.Symbol.TheVariants.{Word, Sign}
use Rattle.mrc_mig_symbols.specs.declared.word.Word.TheVariants as words
use Rattle.mrc_mig_symbols.specs.Symbols.{first_of}
use Rattle.mrc_forms.specs.declared.shape.Shape.{Shape}
use Rattle.mrc_mig_parse.specs.declared.types.Use.{Use}
use Rattle.mrc_mig_parse.specs.Types.{is_bar, shape_at}
use Rattle.mrc_mig_parse.specs.Grammar.{IsType, type}
use Rattle.mrc_mig_parse.proofs.ManyPhrases.{Leads}
use Rattle.mrc_mig_parse.proofs.PhraseLemmas.{in_two, goes_to}
use Rattle.mrc_mig_parse.proofs.AroundPhrases.{around_is, around_read}
use Rattle.mrc_mig_parse.proofs.InnerTypePhrases.{inner_type_is, inner_type_read, begins_no_layer}

-- behind a type comes an option, or the end of the statement or the argument
abbrev pub ends_type : Symbol → Bool
ends_type (Word words.CType) = true
ends_type (Word words.Translation) = true
ends_type (Word words.Destructor) = true
ends_type (Sign Semicolon) = true
ends_type (Sign CloseParenthesis) = true
ends_type _ = false

-- a type that is read stands there
pub type_is : (types : List (List ℕ × Shape)) (wanted : Use) (tokens : List Lexeme) (shape : Shape)
    (rest : List Lexeme) → shape_at types wanted tokens ≡ Some (shape, rest)
    → Leads (λ w. IsType types wanted w shape) tokens rest
unfolding shape_at
type_is types wanted tokens shape rest e =
    let (around, layered, last) = in_two _ _ _ e in
    let layers = around_is tokens around.0 around.1 layered in
    let inner = inner_type_is types wanted around.0 around.1 shape rest last in (
      layers.0 ++ inner.0,
      layers.1 ∙ ap (λ t. layers.0 ++ t) inner.1
          ∙ sym (append_assoc layers.0 inner.0 rest),
      type layers.2 inner.2,
    )

no_bar_behind : (symbol : Symbol) → ends_type symbol ≡ true → is_bar symbol ≡ false
no_bar_behind (Sign Bar) e = absurd cc
no_bar_behind _ e = refl

-- a type that stands in front of the rest is read
pub type_read : (types : List (List ℕ × Shape)) (wanted : Use) (written : List Lexeme)
    (shape : Shape) (rest : List Lexeme) → IsType types wanted written shape
    → ends_type (first_of rest) ≡ true
    → shape_at types wanted (written ++ rest) ≡ Some (shape, rest)
unfolding shape_at
type_read types wanted _ shape rest
    (type {layers = layers} {inner = inner} {around = around} layered is) ends =
    rw (append_assoc layers inner rest)
    (goes_to _ (around_read layers around (inner ++ rest) layered (begins_no_layer rest is))
    ∙ inner_type_read types wanted around inner shape rest is
    (no_bar_behind (first_of rest) ends))
