-- The text that `mig` writes is of edition 2.
use Rattle.std.proofs.Common.{◌≡◌, ℕ, zero, suc, ◌+◌, Bool, true, false, List, [], ◌∷◌, ◌++◌, take}
use Rattle.std.proofs.Common.{Option, Some, None, Result, Ok, Err, refl}
use Rattle.mrc_mig_lex.specs.declared.fault.LexFault.{LexFault}
use Rattle.mrc_mig_lex.specs.declared.piece.Piece.{Piece}
use Rattle.std.specs.Str.{IsUtf8}
use Rattle.std.proofs.lemmas.Str.{is_utf8-from_IsUtf8}
use Rattle.mrc_mig_lex.specs.declared.token.TokenKind.{TokenKind}
use Rattle.mrc_mig_lex.specs.declared.token.TokenKind.TheVariants.{Name, Number, Text, Header}
use Rattle.mrc_mig_lex.specs.declared.token.TokenKind.TheVariants.{Sign, Directive}
use Rattle.mrc_mig_symbols.specs.Directives.{without_blanks, after_bytes, is_empty_from}
use Rattle.mrc_mig_lex.specs.Pieces.{piece_at}
use Rattle.mrc_mig_tokens.specs.Editions.{edition_of, edition_from, edition_at, edition_by}
use Rattle.mrc_mig_tokens.specs.Editions.{line_edition, is_over, stronger}
use Rattle.mrc_mig_tokens.specs.declared.edition.Edition.{Edition}
use Rattle.mrc_mig_tokens.specs.declared.edition.Edition.TheVariants.{First, Second, Received}
use Rattle.mrc_interface.specs.Left.{is_first_edition}
use Rattle.mrc_interface.specs.Written.{edition_line, in_second}

-- a later edition stays one
stays : (so_far other : Edition) → is_first_edition so_far ≡ false
    → is_first_edition (stronger so_far other) ≡ false
stays First other is = absurd cc
stays Second First is = refl
stays Second Second is = refl
stays Second Received is = refl
stays Received First is = refl
stays Received Second is = refl
stays Received Received is = refl

-- what is left of a text behind a piece leaves a later edition one
abbrev Leaves : ℕ → List ℕ → Type 0
Leaves at rest =
    (more : ℕ) (fresh : Bool) (found : Edition) → is_first_edition found ≡ false
    → is_first_edition (edition_from more fresh at found rest) ≡ false

by_kind : (kind : Option TokenKind) (bytes : List ℕ) (at more : ℕ) (fresh : Bool)
    (so_far : Edition) (rest : List ℕ)
    → is_first_edition so_far ≡ false
    → Leaves at rest
    → is_first_edition
    (edition_by kind bytes so_far (λ found. edition_from more fresh at found rest)) ≡ false
by_kind None bytes at more fresh so_far rest is leaves = leaves more fresh so_far is
by_kind (Some Directive) bytes at more fresh so_far rest is leaves =
    leaves more fresh (stronger so_far (line_edition bytes)) (stays so_far (line_edition bytes) is)
by_kind (Some Name) bytes at more fresh so_far rest is leaves = is
by_kind (Some (Number n)) bytes at more fresh so_far rest is leaves = is
by_kind (Some Text) bytes at more fresh so_far rest is leaves = is
by_kind (Some Header) bytes at more fresh so_far rest is leaves = is
by_kind (Some (Sign s)) bytes at more fresh so_far rest is leaves = is

by_piece : (r : Result Piece LexFault) (c at : ℕ) (so_far : Edition) (rest : List ℕ)
    → is_first_edition so_far ≡ false
    → Leaves at rest
    → is_first_edition
    (edition_at r c rest so_far (λ more fresh found. edition_from more fresh at found rest))
    ≡ false
by_piece (Ok piece) c at so_far rest is leaves =
    by_kind piece.kind (c ∷ take piece.more rest) at piece.more piece.fresh so_far rest is leaves
by_piece (Err fault) c at so_far rest is leaves = is

-- the same of what is left of a text
from_stays : (left : ℕ) (fresh : Bool) (at : ℕ) (so_far : Edition) (text : List ℕ)
    → is_first_edition so_far ≡ false
    → is_first_edition (edition_from left fresh at so_far text) ≡ false
from_stays left fresh at so_far [] is = is
from_stays (suc left) fresh at so_far (c ∷ rest) is =
    from_stays left fresh (at + 1) so_far rest is
from_stays zero fresh at so_far (c ∷ rest) is =
    by_piece (piece_at at fresh c rest) c (at + 1) so_far rest is
    (λ more then found later. from_stays more then (at + 1) found rest later)

-- a text with the line of edition 2 in front is of that edition
pub behind_line : (received : Bool) (text : List ℕ)
    → is_first_edition (edition_of (edition_line received ++ text)) ≡ false
unfolding piece_at line_edition is_over after_bytes without_blanks is_empty_from
behind_line false text = from_stays 0 true 20 Second text refl
behind_line true text = from_stays 0 true 29 Received text refl

-- what is written of a text is of edition 2
pub written_is_second : (received : Bool) (bytes : List ℕ) → IsUtf8 bytes
    → is_first_edition (edition_of (in_second received bytes)) ≡ false
written_is_second received bytes utf8 = by (is_first_edition (edition_of bytes)) refl
  where
    by : (b : Bool) → is_first_edition (edition_of bytes) ≡ b
        → is_first_edition (edition_of (in_second received bytes)) ≡ false
    by true is = rw (is_utf8-from_IsUtf8 bytes utf8, is) (behind_line received bytes)
    by false is = rw (is_utf8-from_IsUtf8 bytes utf8, is) is
