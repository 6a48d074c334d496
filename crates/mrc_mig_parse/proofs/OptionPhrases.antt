-- Options of types are read exactly where they stand.
use Rattle.std.proofs.Common.{◌≡◌, false, not, List, [], ◌∷◌, ◌++◌, length, Some}
use Rattle.std.proofs.Common.{refl, subst, arith}
use Rattle.std.proofs.lemmas.List.{length-append}
use Rattle.std.proofs.lemmas.Option.{same_Some}
use Rattle.mrc_mig_lex.specs.Tokens.{Lexeme}
use Rattle.mrc_mig_lex.specs.declared.token.Sign.TheVariants.{Colon, OpenParenthesis}
use Rattle.mrc_mig_lex.specs.declared.token.Sign.TheVariants.{CloseParenthesis}
use Rattle.mrc_mig_symbols.specs.declared.symbol.Symbol.{Symbol}
use Rattle.mrc_mig_symbols.specs.declared.symbol.Symbol.TheVariants.{Word}
use Rattle.mrc_mig_symbols.specs.declared.word.Word.TheVariants as words
use Rattle.mrc_mig_symbols.specs.Symbols.{first_of, tail_of}
use Rattle.mrc_mig_parse.specs.Types.{flag_follows}
use Rattle.mrc_mig_parse.specs.Arguments.{c_type_at, call_at, translation_at, destructor_at}
use Rattle.mrc_mig_parse.specs.Arguments.{option_by, option_at, begins_option, options_at}
use Rattle.mrc_mig_parse.specs.Grammar.{AnyOf, IsCall, call, IsOption, c_type, translation}
use Rattle.mrc_mig_parse.specs.Grammar.{destructor}
use Rattle.mrc_mig_parse.proofs.ManyPhrases.{Leads, IsRead, many_are, many_read}
use Rattle.mrc_mig_parse.proofs.PhraseLemmas.{in_two, behind_guard, front, sign_is}
use Rattle.mrc_mig_parse.proofs.PhraseLemmas.{sign_read, name_is, name_read}

call_is : (tokens rest : List Lexeme) → call_at tokens ≡ Some rest → Leads IsCall tokens rest
unfolding call_at
call_is tokens rest e =
    let (name, named, inside) = in_two _ _ _ e in
    let (behind, opened, more) = in_two _ _ _ inside in
    let (argument, given, last) = in_two _ _ _ more in
    let f = name_is tokens name named in
    let o = sign_is OpenParenthesis name.1 behind opened in
    let a = name_is behind argument given in
    let c = sign_is CloseParenthesis argument.1 rest last in
    (f.0 ∷ o.0 ∷ a.0 ∷ c.0 ∷ [], cc (f.1, o.1, a.1, c.1), call f.2 o.2 a.2 c.2)

call_read : (written rest : List Lexeme) → IsCall written → call_at (written ++ rest) ≡ Some rest
unfolding call_at
call_read _ rest (call {opens = opens} {argument} {closes} f o a c) =
    rw (
      name_read (opens ∷ argument ∷ closes ∷ rest) f,
      sign_read (argument ∷ closes ∷ rest) o,
      name_read (closes ∷ rest) a,
      sign_read rest c,
    ) refl

-- an option that begins with this symbol
option_is_by : (symbol : Symbol) (tokens rest : List Lexeme) → first_of tokens ≡ symbol
    → option_by symbol tokens ≡ Some rest → Leads IsOption tokens rest
unfolding c_type_at translation_at destructor_at
option_is_by (Word words.CType) tokens rest first e =
    let word = front (Word words.CType) tokens refl first in
    let (behind, coloned, more) = in_two _ _ _ e in
    let (name, named, last) = in_two _ _ _ more in
    let c = sign_is Colon (tail_of tokens) behind coloned in
    let n = name_is behind name named in
    let end : name.1 ≡ rest = same_Some name.1 rest last in
    (word.token ∷ c.0 ∷ n.0 ∷ [], cc (word.splits, c.1, n.1, end), c_type word.is c.2 n.2)
option_is_by (Word words.Translation) tokens rest first e =
    let word = front (Word words.Translation) tokens refl first in
    let (behind, coloned, more) = in_two _ _ _ e in
    let (name, named, last) = in_two _ _ _ more in
    let c = sign_is Colon (tail_of tokens) behind coloned in
    let n = name_is behind name named in
    let called = call_is name.1 rest last in (
      word.token ∷ c.0 ∷ n.0 ∷ called.0,
      cc (word.splits, c.1, n.1, called.1),
      translation word.is c.2 n.2 called.2,
    )
option_is_by (Word words.Destructor) tokens rest first e =
    let word = front (Word words.Destructor) tokens refl first in
    let (behind, coloned, last) = in_two _ _ _ e in
    let c = sign_is Colon (tail_of tokens) behind coloned in
    let called = call_is behind rest last in (
      word.token ∷ c.0 ∷ called.0,
      cc (word.splits, c.1, called.1),
      destructor word.is c.2 called.2,
    )
option_is_by _ tokens rest first e = absurd cc

option_is : (tokens rest : List Lexeme) → option_at tokens ≡ Some rest → Leads IsOption tokens rest
unfolding option_at
option_is tokens rest e = option_is_by (first_of tokens) tokens rest refl e

-- an option that stands in front of the rest is read, and it is not empty
option_read : (option rest : List Lexeme) → IsOption option
    → IsRead begins_option option_at option (option ++ rest) rest
unfolding begins_option option_at c_type_at translation_at destructor_at first_of tail_of
option_read _ rest (c_type {word} {colon} {name} w c n) = (
  rw w.seen refl,
  rw (w.seen, sign_read (name ∷ rest) c, name_read rest n) refl,
  omega arith,
)
option_read _ rest (translation {name = name} {others} w c n called) = (
  rw w.seen refl,
  rw (w.seen, sign_read (name ∷ (others ++ rest)) c, name_read (others ++ rest) n)
      (call_read others rest called),
  omega arith,
)
option_read _ rest (destructor {others = others} w c called) = (
  rw w.seen refl,
  rw (w.seen, sign_read (others ++ rest) c) (call_read others rest called),
  omega arith,
)

-- options that are read stand there
pub options_is : (tokens rest : List Lexeme) → options_at tokens ≡ Some rest
    → Leads (λ w. AnyOf IsOption w) tokens rest
unfolding options_at
options_is tokens rest e =
    let (behind, all, last) = in_two _ _ _ e in
    let end : behind ≡ rest = same_Some behind rest
    (behind_guard (not (flag_follows behind)) (Some behind) rest last).1 in
    subst (λ t. Leads (λ w. AnyOf IsOption w) tokens t) end
    (many_are (λ _ option _. IsOption option) (λ _. tt) (λ t. t) begins_option option_at
    (λ a b test stepped. option_is a b stepped) (length tokens) tokens behind all)

-- options that stand in front of the rest are read
pub options_read : (written rest : List Lexeme) → AnyOf IsOption written
    → begins_option rest ≡ false → flag_follows rest ≡ false
    → options_at (written ++ rest) ≡ Some rest
unfolding options_at
options_read written rest are ends no_flag =
    rw (
      many_read (λ _ option _. IsOption option) (λ _ t. t) begins_option option_at (λ _. Unit {0})
          (λ a option b rest is. tt) (λ a option b rest is leads. option_read option rest is)
          (length (written ++ rest)) tt written tt rest are
          (let count = length-append written rest in omega (arith, count)) tt ends,
      no_flag,
    ) refl
