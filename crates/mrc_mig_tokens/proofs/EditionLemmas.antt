-- The edition of a text, one piece behind the other.
use Rattle.std.proofs.Common.{◌≡◌, ℕ, zero, suc, ◌+◌, Bool, true, false, List, [], ◌∷◌, take, drop}
use Rattle.std.proofs.Common.{◌-◌, Some, None, Ok, refl, sym, ap, ◌∙◌, arith, if◌then◌else◌}
use Rattle.std.proofs.lemmas.List.{drop-drop}
use Rattle.mrc_mig_lex.specs.declared.piece.Piece.{Piece}
use Rattle.mrc_mig_lex.specs.Pieces.{piece_at}
use Rattle.mrc_mig_tokens.specs.declared.edition.Edition.{Edition}
use Rattle.mrc_mig_tokens.specs.Editions.{edition_by, edition_at, edition_from}
use Rattle.mrc_mig_lex.specs.declared.token.TokenKind.TheVariants.{Directive}
use Rattle.mrc_mig_symbols.specs.declared.directive.Directive.TheVariants.{Include, Other}
use Rattle.mrc_mig_tokens.specs.Editions.{is_include, stronger, line_edition}

pub over_is : (b : Bool) → b ≡ is_include (if b then Include else Other)
over_is true = refl
over_is false = refl

-- the bytes that still belong to the piece before are passed over
passed_over : (left : ℕ) (fresh : Bool) (at : ℕ) (so_far : Edition) (rest : List ℕ)
    → edition_from left fresh at so_far rest
    ≡ edition_from 0 fresh (at + left) so_far (drop left rest)
passed_over zero fresh at so_far rest = let e : at ≡ at + 0 = omega arith in
    ap (λ i. edition_from 0 fresh i so_far rest) e
passed_over (suc left) fresh at so_far [] = refl
passed_over (suc left) fresh at so_far (c ∷ rest) =
    let e : at + 1 + left ≡ at + suc left = omega arith in
    passed_over left fresh (at + 1) so_far rest
    ∙ ap (λ i. edition_from 0 fresh i so_far (drop left rest)) e

read_on : (text : List ℕ) (at : ℕ) (first : ℕ) (rest : List ℕ) (n : ℕ)
    → drop at text ≡ first ∷ rest → drop n rest ≡ drop (at + 1 + n) text
read_on text at first rest n left =
    let e : at + suc n ≡ at + 1 + n = omega arith in
    sym (sym (ap (λ i. drop i text) e) ∙ sym (drop-drop (suc n) at text) ∙ ap (drop (suc n)) left)

-- what follows a piece
later_on : (text : List ℕ) (at : ℕ) (first : ℕ) (rest : List ℕ) (more : ℕ) (fresh : Bool)
    (found : Edition) → drop at text ≡ first ∷ rest
    → edition_from more fresh (at + 1) found rest
    ≡ edition_from 0 fresh (at + 1 + more) found (drop (at + 1 + more) text)
later_on text at first rest more fresh found left =
    passed_over more fresh (at + 1) found rest
    ∙ ap (edition_from 0 fresh (at + 1 + more) found) (read_on text at first rest more left)

at_piece : (text : List ℕ) (at : ℕ) (fresh : Bool) (so_far : Edition) (first : ℕ) (rest : List ℕ)
    (piece : Piece) → drop at text ≡ first ∷ rest → piece_at at fresh first rest ≡ Ok piece
    → edition_from 0 fresh at so_far (drop at text)
    ≡ edition_by piece.kind (first ∷ take piece.more rest) so_far
    (λ found. edition_from piece.more piece.fresh (at + 1) found rest)
at_piece text at fresh so_far first rest piece left found =
    ap (λ l. edition_from 0 fresh at so_far l) left
    ∙ ap (λ r. edition_at r first rest so_far
    (λ more fresh e. edition_from more fresh (at + 1) e rest)) found

-- behind a blank or a comment
pub behind_gap : (text : List ℕ) (at : ℕ) (fresh : Bool) (so_far : Edition) (first : ℕ)
    (rest : List ℕ) (piece : Piece) → drop at text ≡ first ∷ rest
    → piece_at at fresh first rest ≡ Ok piece → piece.kind ≡ None
    → edition_from 0 piece.fresh (at + 1 + piece.more) so_far (drop (at + 1 + piece.more) text)
    ≡ edition_from 0 fresh at so_far (drop at text)
behind_gap text at fresh so_far first rest piece left found none =
    sym (at_piece text at fresh so_far first rest piece left found
    ∙ ap (λ k. edition_by k (first ∷ take piece.more rest) so_far
    (λ e. edition_from piece.more piece.fresh (at + 1) e rest)) none
    ∙ later_on text at first rest piece.more piece.fresh so_far left)

-- behind a line of the preprocessor
pub behind_line : (text : List ℕ) (at : ℕ) (fresh : Bool) (so_far next : Edition) (first : ℕ)
    (rest line : List ℕ) (piece : Piece) → drop at text ≡ first ∷ rest
    → piece_at at fresh first rest ≡ Ok piece → piece.kind ≡ Some Directive
    → line ≡ take (at + 1 + piece.more - at) (drop at text)
    → next ≡ stronger so_far (line_edition line)
    → edition_from 0 piece.fresh (at + 1 + piece.more) next (drop (at + 1 + piece.more) text)
    ≡ edition_from 0 fresh at so_far (drop at text)
behind_line text at fresh so_far next first rest line piece left found some line_is next_is =
    let size : at + 1 + piece.more - at ≡ suc piece.more = omega arith in
    let cut : line ≡ first ∷ take piece.more rest = line_is
    ∙ ap (λ n. take n (drop at text)) size ∙ ap (take (suc piece.more)) left in
    sym (at_piece text at fresh so_far first rest piece left found
    ∙ ap (λ k. edition_by k (first ∷ take piece.more rest) so_far
    (λ e. edition_from piece.more piece.fresh (at + 1) e rest)) some
    ∙ ap (λ l. edition_from piece.more piece.fresh (at + 1) (stronger so_far (line_edition l)) rest)
    (sym cut)
    ∙ ap (λ e. edition_from piece.more piece.fresh (at + 1) e rest) (sym next_is)
    ∙ later_on text at first rest piece.more piece.fresh next left)
