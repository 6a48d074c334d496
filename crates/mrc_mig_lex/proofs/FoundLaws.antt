-- A token is found again where it begins.
use Rattle.std.proofs.Common.{◌≡◌, ◌≢◌, ℕ, zero, suc, ◌+◌, Bool, true, false, cond, ◌&&◌, ◌==◌}
use Rattle.std.proofs.Common.{List, [], ◌∷◌, ◌++◌, take, drop, Option, Some, None, option_map}
use Rattle.std.proofs.Common.{option_to_list, Result, Ok, refl, sym, ap, ◌∙◌, subst, nat_eq}
use Rattle.std.proofs.Common.{codes}
use Rattle.std.specs.Char.{is_ascii_digit}
use Rattle.std.specs.List.{starts_with}
use Rattle.std.proofs.lemmas.Bool.{eqb-true}
use Rattle.std.proofs.lemmas.List.{drop-drop}
use Rattle.mrc_base.specs.Reading.{◌>>=◌}
use Rattle.mrc_base.proofs.Steps.{bind_ok}
use Rattle.mrc_mig_lex.specs.declared.token.TokenKind.{TokenKind}
use Rattle.mrc_mig_lex.specs.declared.token.TokenKind.TheVariants.{Directive}
use Rattle.mrc_mig_lex.specs.declared.fault.LexFault.{LexFault}
use Rattle.mrc_mig_lex.specs.declared.piece.Piece.{Piece}
use Rattle.mrc_mig_lex.specs.Characters.{quote, less_than, hash, slash, is_blank}
use Rattle.mrc_mig_lex.specs.Characters.{begins_name}
use Rattle.mrc_mig_lex.specs.Pieces.{token, line_len, comment_at, sign_at, piece_at}
use Rattle.mrc_mig_lex.specs.Tokens.{Lexeme}
use Rattle.mrc_mig_lex.specs.Lexing.{lexeme_of, tokens_from, tokens_behind, tokens_of}
use Rattle.mrc_mig_lex.proofs.PieceLaws.{Yields, yields}

-- a token that is read one way is read the other way too
abbrev Alike : Result Piece LexFault → Result Piece LexFault → Type 0
Alike x y = Yields (λ piece. piece.kind ≢ None → y ≡ Ok piece) x

alike : (x : Result Piece LexFault) → Alike x x
alike x = record { ok = λ piece e _. e }

alike_choice : (b : Bool) {x y u v : Result Piece LexFault} → Alike x u → Alike y v
    → Alike (cond b x y) (cond b u v)
alike_choice true first second = first
alike_choice false first second = second

-- where no line may begin, a `#` is no token
no_line : (at first : ℕ) (rest : List ℕ) (b : Bool) (x : Result Piece LexFault) → (first == hash) ≡ b
    → Alike
    (cond (b && false) x (cond ((first == slash) && starts_with nat_eq rest (codes "*"))
    (comment_at at rest) (sign_at at first)))
    (cond (b && true) x (cond ((first == slash) && starts_with nat_eq rest (codes "*"))
    (comment_at at rest) (sign_at at first)))
no_line at first rest false x e = alike _
no_line at first rest true x e = record {
  ok = λ piece found _.
      let is : first ≡ 35 = eqb-true first 35 e in
      let none = subst (λ (c : ℕ). cond ((c == slash) && starts_with nat_eq rest (codes "*"))
      (comment_at at rest) (sign_at at c) ≡ Ok piece) is found in
      cc;
}

-- whether only blanks stand before it, a token is the same
any_line : (at : ℕ) (fresh : Bool) (first : ℕ) (rest : List ℕ)
    → Alike (piece_at at fresh first rest) (piece_at at true first rest)
unfolding piece_at
any_line at true first rest = alike _
any_line at false first rest =
    alike_choice (is_blank first) (yields _ (λ some. absurd (some refl)))
    (alike_choice (begins_name first) (alike _)
    (alike_choice (is_ascii_digit first) (alike _)
    (alike_choice (first == quote) (alike _)
    (alike_choice (first == less_than) (alike _)
    (no_line at first rest (first == hash) (Ok (token Directive (line_len rest))) refl)))))

-- from the place of each token on these are the tokens: it, and those behind it
abbrev pub AreFound : List ℕ → List Lexeme → Type 0
AreFound text [] = Unit {0}
AreFound text (token ∷ tokens) =
    (tokens_behind true token.at text ≡ Ok (token ∷ tokens)) × AreFound text tokens

found_from : (text : List ℕ) (left : ℕ) (fresh : Bool) (at : ℕ) (rest : List ℕ)
    (tokens : List Lexeme) → drop at text ≡ rest → tokens_from left fresh at rest ≡ Ok tokens
    → AreFound text tokens
found_from text left fresh at [] tokens here read =
    let none : [] ≡ tokens = cc in
    subst (AreFound text) none tt
found_from text (suc left) fresh at (c ∷ rest) tokens here read =
    let next : drop (at + 1) text ≡ rest = sym (drop-drop 1 at text) ∙ ap (drop 1) here in
    found_from text left fresh (at + 1) rest tokens next read
found_from text zero fresh at (c ∷ rest) tokens here read =
    let next : drop (at + 1) text ≡ rest = sym (drop-drop 1 at text) ∙ ap (drop 1) here in
    let one = bind_ok (piece_at at fresh c rest) _ tokens read in
    let two = bind_ok (tokens_from one.0.more one.0.fresh (at + 1) rest) _ tokens one.2 in
    let onward = found_from text one.0.more one.0.fresh (at + 1) rest two.0 next two.1 in
    let whole : lexeme_of one.0 at c rest ++ two.0 ≡ tokens = cc in
    let again : one.0.kind ≢ None → tokens_behind true at text ≡ Ok tokens =
    λ some. ap (tokens_from 0 true at) here
    ∙ ap (λ r. r >>= (λ piece. tokens_from piece.more piece.fresh (at + 1) rest
    >>= λ later. Ok (lexeme_of piece at c rest ++ later)))
    ((any_line at fresh c rest).ok one.0 one.1 some)
    ∙ one.2 in
    subst (AreFound text) whole (with_first one.0.kind one.0.more two.0
    (λ some. again some ∙ ap Ok (sym whole)) onward)
  where
    with_first : (o : Option TokenKind) (more : ℕ) (later : List Lexeme)
        → (o ≢ None → tokens_behind true at text ≡ Ok (option_to_list {X = Lexeme}
        (option_map (λ kind. record { kind = kind; at = at; bytes = c ∷ take more rest }) o)
        ++ later))
        → AreFound text later
        → AreFound text (option_to_list {X = Lexeme}
        (option_map (λ kind. record { kind = kind; at = at; bytes = c ∷ take more rest }) o)
        ++ later)
    with_first None more later first onward = onward
    with_first (Some kind) more later first onward = (first (λ none. cc), onward)

pub are_found : (text : List ℕ) (tokens : List Lexeme) → tokens_of text ≡ Ok tokens
    → AreFound text tokens
are_found text tokens read = found_from text 0 _ 0 text tokens refl read
