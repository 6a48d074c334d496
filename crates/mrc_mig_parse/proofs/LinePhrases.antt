-- Lines of the preprocessor, read and spelled.
use Rattle.std.proofs.Common.{◌≡◌, false, List, [], ◌∷◌, ◌++◌, length, Option}
use Rattle.std.proofs.Common.{Some, refl, ap, ◌∙◌, subst, arith, length-append}
use Rattle.std.proofs.lemmas.Option.{same_Some}
use Rattle.mrc_mig_lex.specs.Tokens.{Lexeme}
use Rattle.mrc_mig_symbols.specs.declared.directive.Directive.{Directive as Line}
use Rattle.mrc_mig_symbols.specs.declared.directive.Directive.TheVariants.{Include, Marker, Other}
use Rattle.mrc_mig_symbols.specs.declared.symbol.Symbol.{Symbol}
use Rattle.mrc_mig_symbols.specs.declared.symbol.Symbol.TheVariants.{Directive}
use Rattle.mrc_mig_symbols.specs.Symbols.{◌>>=◌, first_of, tail_of}
use Rattle.mrc_mig_parse.specs.Files.{State, directive_by, line_by, is_line, begins_line, line_at}
use Rattle.mrc_mig_parse.specs.Files.{lines_at}
use Rattle.mrc_mig_parse.specs.Grammar.{AnyNumber, Is, IsLine, marker, include}
use Rattle.mrc_mig_parse.proofs.ManyPhrases.{Leads, IsRead, many_are, many_read}
use Rattle.mrc_mig_parse.proofs.PhraseLemmas.{in_two, front}

-- what a line of this shape does, and what follows it
abbrev pub lined : Line → State → List Lexeme → Option (State × List Lexeme)
lined line s rest = directive_by line s >>= λ next. Some (next, rest)

line_of : (line : Line) (s t : State) (token : Lexeme) → Is (Directive line) token
    → directive_by line s ≡ Some t → IsLine s (token ∷ []) t
line_of Marker s t token is e = subst (λ u. IsLine s (token ∷ []) u) (same_Some s t e) (marker is)
line_of Include s t token is e = include is e
line_of Other s t token is e = absurd cc

pub directive_is : (s : State) (tokens : List Lexeme) (found : State × List Lexeme) (line : Line)
    → first_of tokens ≡ Directive line → lined line s (tail_of tokens) ≡ Some found
    → Leads (λ w. IsLine s w found.0) tokens found.1
directive_is s tokens found line is e =
    let next = in_two (directive_by line s) _ found e in
    let token = front (Directive line) tokens refl is in
    subst (λ f. Leads (λ w. IsLine s w f.0) tokens f.1) (same_Some _ _ next.2)
    (token.token ∷ [], token.splits, line_of line s next.0 token.token token.is next.1)

line_is_by : (s : State) (tokens : List Lexeme) (found : State × List Lexeme) (symbol : Symbol)
    → first_of tokens ≡ symbol → line_by symbol s tokens ≡ Some found
    → Leads (λ w. IsLine s w found.0) tokens found.1
line_is_by s tokens found (Directive line) is e = directive_is s tokens found line is e
line_is_by s tokens found _ is e = absurd cc

line_is : (a b : State × List Lexeme) → line_at a ≡ Some b
    → Leads (λ w. IsLine a.0 w b.0) a.1 b.1
unfolding line_at
line_is a b e = line_is_by a.0 a.1 b (first_of a.1) refl e

-- a line is one token, and is read as what it does
pub directive_read : (s : State) (written : List Lexeme) (t : State) (rest : List Lexeme)
    → IsLine s written t
    → (line : Line) × (first_of (written ++ rest) ≡ Directive line)
    × (lined line s (tail_of (written ++ rest)) ≡ Some (t, rest)) × (length written ≡ 1)
unfolding first_of tail_of
directive_read s _ _ rest (marker is) = (Marker, is.seen, refl, refl)
directive_read s _ t rest (include is does) = (Include, is.seen, rw does refl, refl)

line_read : (s : State) (written : List Lexeme) (t : State) (rest : List Lexeme)
    → IsLine s written t → IsRead begins_line line_at written (s, written ++ rest) (t, rest)
unfolding begins_line line_at
line_read s written t rest is =
    let read = directive_read s written t rest is in
    let one = read.3 in (
      ap is_line read.1,
      ap (λ symbol. line_by symbol s (written ++ rest)) read.1 ∙ read.2,
      omega arith,
    )

pub lines_are : (s : State) (tokens : List Lexeme) (t : State) (rest : List Lexeme)
    → lines_at s tokens ≡ Some (t, rest) → Leads (λ w. AnyNumber IsLine s w t) tokens rest
unfolding lines_at
lines_are s tokens t rest e =
    many_are IsLine (λ r. r.0) (λ r. r.1) begins_line line_at
    (λ a b test stepped. line_is a b stepped) (length tokens) (s, tokens) (t, rest) e

pub lines_read : (s : State) (written : List Lexeme) (t : State) (rest : List Lexeme)
    → AnyNumber IsLine s written t → is_line (first_of rest) ≡ false
    → lines_at s (written ++ rest) ≡ Some (t, rest)
unfolding lines_at begins_line
lines_read s written t rest are ends =
    many_read IsLine (λ a t. (a, t)) begins_line line_at (λ _. Unit {0}) (λ a w b rest is. tt)
    (λ a w b rest is leads. line_read a w b rest is) (length (written ++ rest)) s written t rest
    are (let count = length-append written rest in omega (arith, count)) tt ends
