-- The statements of a file are read exactly where they stand.
use Rattle.std.proofs.Common.{◌≡◌, ◌<◌, true, List, [], ◌∷◌, ◌++◌, length, Some}
use Rattle.std.proofs.Common.{refl, sym, ap, ◌∙◌, subst, arith, length-append}
use Rattle.std.proofs.lemmas.List.{append-nil}
use Rattle.std.proofs.lemmas.Option.{same_Some}
use Rattle.mrc_mig_lex.specs.Tokens.{Lexeme}
use Rattle.mrc_mig_symbols.specs.Symbols.{many, no_tokens}
use Rattle.mrc_mig_parse.specs.Files.{State, statement_at, has_more, statements_at}
use Rattle.mrc_mig_parse.specs.Grammar.{AnyNumber, marker, include, IsStatement, line, declaration}
use Rattle.mrc_mig_parse.specs.Grammar.{routine, simple_routine, skip, note}
use Rattle.mrc_mig_parse.proofs.ManyPhrases.{IsRead, many_are, many_read}
use Rattle.mrc_mig_parse.proofs.PhraseLemmas.{in_two, behind_guard}
use Rattle.mrc_mig_parse.proofs.StatementPhrases.{statement_is}
use Rattle.mrc_mig_parse.proofs.StatementReadings.{statement_read}

-- a statement has a token
some_token : (s : State) (written : List Lexeme) (t : State) → IsStatement s written t
    → 0 < length written
some_token s _ _ (line (marker is)) = omega arith
some_token s _ _ (line (include is e)) = omega arith
some_token s _ _ (declaration begins is new sign has others ends) = omega arith
some_token s _ _ (routine begins few is) = omega arith
some_token s _ _ (simple_routine begins few is) = omega arith
some_token s _ _ (skip begins few ends) = omega arith
some_token s _ _ (note begins is) = omega arith

more_there : (s : State) (tokens : List Lexeme) → 0 < length tokens → has_more (s, tokens) ≡ true
unfolding has_more
more_there s [] lt = absurd (omega arith)
more_there s (token ∷ tokens) lt = refl

one_read : (s : State) (written : List Lexeme) (t : State) (rest : List Lexeme)
    → IsStatement s written t → IsRead has_more statement_at written (s, written ++ rest) (t, rest)
one_read s written t rest is =
    let some = some_token s written t is in
    let count = length-append written rest in (
      more_there s (written ++ rest) (omega (arith, some, count)),
      statement_read s written t rest is,
      some,
    )

pub all_statements_read : (s : State) (written : List Lexeme) (t : State)
    → AnyNumber IsStatement s written t → statements_at s written ≡ Some t
unfolding statements_at has_more
all_statements_read s written t are =
    let read = many_read IsStatement (λ a t. (a, t)) has_more statement_at (λ _. Unit {0})
    (λ a w b rest is. tt) (λ a w b rest is leads. one_read a w b rest is) (length written) s
    written t [] are (omega arith) tt refl in
    let whole : many has_more statement_at (length written) (s, written) ≡ Some (t, []) =
    ap (λ w. many has_more statement_at (length written) (s, w)) (sym (append-nil written))
    ∙ read in
    rw whole refl

none_left : (tokens : List Lexeme) → no_tokens tokens ≡ true → tokens ≡ []
none_left [] e = refl
none_left (token ∷ tokens) e = absurd cc

pub all_statements_are : (s : State) (tokens : List Lexeme) (t : State)
    → statements_at s tokens ≡ Some t → AnyNumber IsStatement s tokens t
unfolding statements_at
all_statements_are s tokens t e =
    let (read, all, last) = in_two _ _ t e in
    let end = behind_guard (no_tokens read.1) _ t last in
    let are = many_are IsStatement (λ r. r.0) (λ r. r.1) has_more statement_at
    (λ a b test stepped. statement_is a b stepped) (length tokens) (s, tokens) read all in
    let same : tokens ≡ are.0 = are.1 ∙ ap (λ rest. are.0 ++ rest) (none_left read.1 end.0)
    ∙ append-nil are.0 in
    subst (λ u. AnyNumber IsStatement s tokens u) (same_Some read.0 t end.1)
    (subst (λ w. AnyNumber IsStatement s w read.0) (sym same) are.2)
