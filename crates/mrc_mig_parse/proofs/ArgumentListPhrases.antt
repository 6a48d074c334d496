-- The arguments of a routine are read exactly where they stand.
use Rattle.std.proofs.Common.{◌≡◌, ℕ, Bool, true, false, List, [], ◌∷◌, ◌++◌, length, Some}
use Rattle.std.proofs.Common.{refl, ap, ◌∙◌, sym, subst, arith, append_assoc, length-append}
use Rattle.std.proofs.Common.{if◌then◌else◌}
use Rattle.std.proofs.lemmas.Option.{same_Some}
use Rattle.mrc_mig_lex.specs.Tokens.{Lexeme}
use Rattle.mrc_mig_lex.specs.declared.token.Sign.TheVariants.{Semicolon, CloseParenthesis}
use Rattle.mrc_mig_symbols.specs.declared.symbol.Symbol.{Symbol}
use Rattle.mrc_mig_symbols.specs.declared.symbol.Symbol.TheVariants.{Sign}
use Rattle.mrc_mig_symbols.specs.Symbols.{first_of, tail_of}
use Rattle.mrc_forms.specs.declared.shape.Shape.{Shape}
use Rattle.mrc_mig_parse.specs.Arguments.{Parameter, is_semicolon, is_closing, goes_on}
use Rattle.mrc_mig_parse.specs.Arguments.{next_argument as next_at, some_arguments_at, arguments_at}
use Rattle.mrc_mig_parse.specs.Grammar.{unmarked, marked, IsArgument, argument, IsNextArgument}
use Rattle.mrc_mig_parse.specs.Grammar.{next_argument, IsArguments, no_argument, some_arguments}
use Rattle.mrc_mig_parse.proofs.ManyPhrases.{Leads, IsRead, any_lead, many_are, many_read}
use Rattle.mrc_mig_parse.proofs.PhraseLemmas.{in_two, front}
use Rattle.mrc_mig_parse.proofs.ArgumentPhrases.{ends_argument, argument_is, argument_read}

semicolon_seen : (symbol : Symbol) → is_semicolon symbol ≡ true → symbol ≡ Sign Semicolon
semicolon_seen (Sign Semicolon) e = refl
semicolon_seen _ e = absurd cc

next_is : (types : List (List ℕ × Shape)) (is_simple : Bool) (a b : List Parameter × List Lexeme)
    → goes_on a ≡ true → next_at types is_simple a ≡ Some b
    → Leads (λ w. IsNextArgument types is_simple a.0 w b.0) a.1 b.1
unfolding goes_on next_at
next_is types is_simple a b test e =
    let semicolon = front (Sign Semicolon) a.1 refl (semicolon_seen (first_of a.1) test) in
    let is = argument_is types is_simple a.0 (tail_of a.1) b e in (
      semicolon.token ∷ is.0,
      semicolon.splits ∙ ap (λ t. semicolon.token ∷ t) is.1,
      next_argument semicolon.is is.2,
    )

some_are : (types : List (List ℕ × Shape)) (is_simple : Bool) (tokens : List Lexeme)
    (found : List Parameter × List Lexeme) → some_arguments_at types is_simple tokens ≡ Some found
    → Leads (λ w. IsArguments types is_simple w found.0) tokens found.1
unfolding some_arguments_at
some_are types is_simple tokens found e =
    let (first, read, onwards) = in_two _ _ found e in
    let is = argument_is types is_simple [] tokens first read in
    let more = many_are (IsNextArgument types is_simple) (λ r. r.0) (λ r. r.1) goes_on
    (next_at types is_simple) (λ a b test stepped. next_is types is_simple a b test stepped)
    (length first.1) first found onwards in (
      is.0 ++ more.0,
      is.1 ∙ ap (λ t. is.0 ++ t) more.1 ∙ sym (append_assoc is.0 more.0 found.1),
      some_arguments is.2 more.2,
    )

pub arguments_are : (types : List (List ℕ × Shape)) (is_simple : Bool) (tokens : List Lexeme)
    (found : List Parameter × List Lexeme) → arguments_at types is_simple tokens ≡ Some found
    → Leads (λ w. IsArguments types is_simple w found.0) tokens found.1
unfolding arguments_at
arguments_are types is_simple tokens found e = by (is_closing (first_of tokens)) e
  where
    by : (closes : Bool)
        → (if closes then Some ([], tokens) else some_arguments_at types is_simple tokens)
        ≡ Some found → Leads (λ w. IsArguments types is_simple w found.0) tokens found.1
    by true f = subst (λ g. Leads (λ w. IsArguments types is_simple w g.0) tokens g.1)
        (same_Some _ _ f) ([], refl, no_argument)
    by false f = some_are types is_simple tokens found f

next_leads : (types : List (List ℕ × Shape)) (is_simple : Bool) (seen : List Parameter)
    (written : List Lexeme) (all : List Parameter) (rest : List Lexeme)
    → IsNextArgument types is_simple seen written all
    → ends_argument (first_of (written ++ rest)) ≡ true
unfolding first_of
next_leads types is_simple seen _ all rest (next_argument sign is) = rw sign.seen refl

next_read : (types : List (List ℕ × Shape)) (is_simple : Bool) (seen : List Parameter)
    (written : List Lexeme) (all : List Parameter) (rest : List Lexeme)
    → IsNextArgument types is_simple seen written all → ends_argument (first_of rest) ≡ true
    → IsRead goes_on (next_at types is_simple) written (seen, written ++ rest) (all, rest)
unfolding goes_on next_at first_of tail_of
next_read types is_simple seen _ all rest (next_argument {argument = one} sign is) ends = (
  ap is_semicolon sign.seen,
  argument_read types is_simple seen one all rest is ends,
  omega arith,
)

opens_argument : (types : List (List ℕ × Shape)) (is_simple : Bool) (seen : List Parameter)
    (written : List Lexeme) (all : List Parameter) (rest : List Lexeme)
    → IsArgument types is_simple seen written all
    → is_closing (first_of (written ++ rest)) ≡ false
unfolding first_of
opens_argument types is_simple seen _ _ rest (argument unmarked is new few sign has) =
    rw is.seen refl
opens_argument types is_simple seen _ _ rest (argument (marked word alone) is new few sign has) =
    rw word.seen refl

pub arguments_read : (types : List (List ℕ × Shape)) (is_simple : Bool) (written : List Lexeme)
    (all : List Parameter) (rest : List Lexeme) → IsArguments types is_simple written all
    → first_of rest ≡ Sign CloseParenthesis
    → arguments_at types is_simple (written ++ rest) ≡ Some (all, rest)
unfolding arguments_at some_arguments_at goes_on
arguments_read types is_simple _ _ rest no_argument closes = rw closes refl
arguments_read types is_simple _ all rest
    (some_arguments {first} {others} {seen} is are) closes =
    let ends = ap ends_argument closes in
    let behind = any_lead (λ t. ends_argument (first_of t) ≡ true)
    (λ a w b rest is. next_leads types is_simple a w b rest is) rest are ends in
    let opens = opens_argument types is_simple [] first seen (others ++ rest) is in
    let read = argument_read types is_simple [] first seen (others ++ rest) is behind in
    let count = length-append others rest in
    rw (append_assoc first others rest, opens, read)
    (many_read (IsNextArgument types is_simple) (λ a t. (a, t)) goes_on (next_at types is_simple)
    (λ t. ends_argument (first_of t) ≡ true)
    (λ a w b rest is. next_leads types is_simple a w b rest is)
    (λ a w b rest is ends. next_read types is_simple a w b rest is ends)
    (length (others ++ rest)) seen others all rest are (omega (arith, count)) ends
    (ap is_semicolon closes))
