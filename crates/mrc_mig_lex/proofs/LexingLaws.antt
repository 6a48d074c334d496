-- The tokens of a text, piece by piece.
use Rattle.std.proofs.Common.{◌≡◌, ◌≢◌, ℕ, zero, suc, ◌+◌, ◌-◌, ◌≤◌, Bool, false, List, [], ◌∷◌}
use Rattle.std.proofs.Common.{◌++◌, length, get_or, take, drop, Option, Some, None, option_map}
use Rattle.std.proofs.Common.{option_to_list, Result, Ok, Err, IsUtf8, refl, sym, ap, ◌∙◌, subst}
use Rattle.std.proofs.Common.{⊎_elim, arith, length-drop, length-take}
use Rattle.std.specs.Str.{IsCharBoundary}
use Rattle.std.proofs.lemmas.Bool.{cases_lt}
use Rattle.std.proofs.lemmas.List.{drop-drop, take_rest, get_or-drop}
use Rattle.std.proofs.lemmas.Str.{IsCharBoundary-before_ascii, IsCharBoundary-after_ascii}
use Rattle.std.proofs.lemmas.Str.{IsCharBoundary-end}
use Rattle.mrc_base.specs.Reading.{◌>>=◌}
use Rattle.mrc_mig_lex.specs.declared.token.TokenKind.{TokenKind}
use Rattle.mrc_mig_lex.specs.declared.fault.LexFault.{LexFault}
use Rattle.mrc_mig_lex.specs.declared.piece.Piece.{Piece}
use Rattle.mrc_mig_lex.specs.Tokens.{Lexeme}
use Rattle.mrc_mig_lex.specs.Pieces.{piece_at}
use Rattle.mrc_mig_lex.specs.Lexing.{lexeme_of, tokens_from, tokens_behind, BeginsWith}
use Rattle.mrc_mig_lex.proofs.PieceLaws.{piece_is}

-- the bytes that still belong to the piece before are passed over
pub passed_over : (left : ℕ) (fresh : Bool) (at : ℕ) (rest : List ℕ)
    → tokens_from left fresh at rest ≡ tokens_from 0 fresh (at + left) (drop left rest)
passed_over zero fresh at rest = let e : at ≡ at + 0 = omega arith in
    ap (λ i. tokens_from 0 fresh i rest) e
passed_over (suc left) fresh at [] = refl
passed_over (suc left) fresh at (c ∷ rest) =
    let e : at + 1 + left ≡ at + suc left = omega arith in
    passed_over left fresh (at + 1) rest ∙ ap (λ i. tokens_from 0 fresh i (drop left rest)) e

-- what is read from this place on is all that there is to read
pub record IsReadTo (text : List ℕ) (read : Result (List Lexeme) LexFault) (at : ℕ) (fresh : Bool)
    : Type 0 where
  pub within : at ≤ length text
  pub same : tokens_behind fresh at text ≡ read

pub at_end : (text : List ℕ) (read : Result (List Lexeme) LexFault) (at : ℕ) (fresh : Bool)
    → IsReadTo text read at fresh → drop at text ≡ [] → read ≡ Ok []
at_end text read at fresh here nothing =
    sym here.same ∙ ap (λ l. tokens_from 0 fresh at l) nothing

module _ {text : List ℕ} {all : Result (List Lexeme) LexFault} {at : ℕ} {fresh : Bool} {first : ℕ}
    {rest : List ℕ} (read : IsReadTo text all at fresh) (left : drop at text ≡ first ∷ rest) where
  -- the rest, and how long it is
  rest_is : (n : ℕ) → drop n rest ≡ drop (at + 1 + n) text
  rest_is n = let e : at + suc n ≡ at + 1 + n = omega arith in
      sym (sym (ap (λ i. drop i text) e) ∙ sym (drop-drop (suc n) at text) ∙ ap (drop (suc n)) left)

  length_is : length text ≡ at + 1 + length rest
  length_is = omega (arith, read.within, length-drop at text, ap length left)

  byte_is : (n : ℕ) → get_or (first ∷ rest) n 0 ≡ get_or text (at + n) 0
  byte_is n = ap (λ l. get_or l n 0) (sym left) ∙ get_or-drop at text n 0

  pub at_fault : (fault : LexFault) → piece_at at fresh first rest ≡ Err fault → all ≡ Err fault
  at_fault fault fails =
      sym read.same ∙ ap (λ l. tokens_from 0 fresh at l) left
      ∙ ap (λ r. r >>= (λ piece. tokens_from piece.more piece.fresh (at + 1) rest
      >>= λ later. Ok (lexeme_of piece at first rest ++ later))) fails

  pub at_piece : (piece : Piece) → piece_at at fresh first rest ≡ Ok piece
      → all ≡ (tokens_behind piece.fresh (at + 1 + piece.more) text
      >>= λ later. Ok (lexeme_of piece at first rest ++ later))
  at_piece piece found =
      let onward : tokens_from piece.more piece.fresh (at + 1) rest
      ≡ tokens_behind piece.fresh (at + 1 + piece.more) text =
      passed_over piece.more piece.fresh (at + 1) rest
      ∙ ap (tokens_from 0 piece.fresh (at + 1 + piece.more)) (rest_is piece.more) in
      sym read.same ∙ ap (λ l. tokens_from 0 fresh at l) left
      ∙ ap (λ r. r >>= (λ piece. tokens_from piece.more piece.fresh (at + 1) rest
      >>= λ later. Ok (lexeme_of piece at first rest ++ later))) found
      ∙ ap (λ r. r >>= λ later. Ok (lexeme_of piece at first rest ++ later)) onward

  pub within_text : (piece : Piece) → piece_at at fresh first rest ≡ Ok piece
      → at + 1 + piece.more ≤ length text
  within_text piece found =
      let is_piece = (piece_is at fresh first rest).ok piece found in
      omega (arith, length_is, is_piece.within)

  -- a token can be cut out of the text
  pub begins_char : (piece : Piece) → piece_at at fresh first rest ≡ Ok piece → piece.kind ≢ None
      → IsCharBoundary text at
  begins_char piece found some =
      let begins = ((piece_is at fresh first rest).ok piece found).begins some in
      let here : first ≡ get_or text (at + 0) 0 = byte_is 0 in
      let same : at + 0 ≡ at = omega arith in
      let byte = rw same at here in
      IsCharBoundary-before_ascii text at (omega (arith, length_is)) (omega arith)

  pub ends_char : (piece : Piece) → IsUtf8 text → piece_at at fresh first rest ≡ Ok piece
      → piece.kind ≢ None → IsCharBoundary text (at + 1 + piece.more)
  ends_char piece utf8 found some =
      let is_piece = (piece_is at fresh first rest).ok piece found in
      let end_is : at + piece.more + 1 ≡ at + 1 + piece.more = omega arith in
      ⊎_elim
      (λ last. subst (IsCharBoundary text) end_is
      (IsCharBoundary-after_ascii text (at + piece.more) utf8
      (omega (arith, length_is, is_piece.within)) (omega (arith, byte_is piece.more))))
      (λ next.
      ⊎_elim
      (λ inside. let e : get_or rest piece.more 0 ≡ get_or text (at + suc piece.more) 0 = byte_is
      (suc piece.more) in let i : at + suc piece.more ≡ at + 1 + piece.more = omega arith in
      let byte = rw i at e in
      IsCharBoundary-before_ascii text (at + 1 + piece.more) inside (omega arith))
      (λ past. let e : length text ≡ at + 1 + piece.more = omega
      (arith, length_is, is_piece.within) in
      subst (IsCharBoundary text) e (IsCharBoundary-end text))
      (cases_lt (at + 1 + piece.more) (length text)))
      (is_piece.ends some)

  -- a token, and what is behind it
  pub at_token : (piece : Piece) (kind : TokenKind) (bytes : List ℕ)
      → piece_at at fresh first rest ≡ Ok piece → piece.kind ≡ Some kind
      → bytes ≡ take (at + 1 + piece.more - at) (drop at text)
      → all ≡ (tokens_behind piece.fresh (at + 1 + piece.more) text
      >>= λ later. Ok (record { kind = kind; at = at; bytes = bytes } ∷ later))
  at_token piece kind bytes found kind_is bytes_are =
      let size : at + 1 + piece.more - at ≡ suc piece.more = omega arith in
      let cut : bytes ≡ first ∷ take piece.more rest = bytes_are
      ∙ ap (λ n. take n (drop at text)) size ∙ ap (take (suc piece.more)) left in
      at_piece piece found
      ∙ ap (λ o. tokens_behind piece.fresh (at + 1 + piece.more) text
      >>= λ later. Ok (option_to_list
      (option_map (λ k. record { kind = k; at = at; bytes = first ∷ take piece.more rest }) o)
      ++ later)) kind_is
      ∙ ap (λ l. tokens_behind piece.fresh (at + 1 + piece.more) text
      >>= λ later. Ok (record { kind = kind; at = at; bytes = l } ∷ later)) (sym cut)

  pub begins_with : (piece : Piece) (kind : TokenKind) (bytes : List ℕ)
      → piece_at at fresh first rest ≡ Ok piece → piece.kind ≡ Some kind
      → bytes ≡ take (at + 1 + piece.more - at) (drop at text)
      → BeginsWith text (Ok (Some (record { kind = kind; at = at; bytes = bytes }))) all
  begins_with piece kind bytes found kind_is bytes_are =
      let is_piece = (piece_is at fresh first rest).ok piece found in
      let size : length bytes ≡ suc piece.more =
      omega (
        arith,
        ap length bytes_are,
        length-take (at + 1 + piece.more - at) (drop at text),
        ap length left,
        is_piece.within,
      ) in
      let end_is : at + 1 + piece.more ≡ at + length bytes = omega arith in
      at_token piece kind bytes found kind_is bytes_are
      ∙ ap (λ f. tokens_behind f (at + 1 + piece.more) text
      >>= λ later. Ok (record { kind = kind; at = at; bytes = bytes } ∷ later))
      (is_piece.stale (λ none. cc))
      ∙ ap (λ i. tokens_behind false i text
      >>= λ later. Ok (record { kind = kind; at = at; bytes = bytes } ∷ later)) end_is

  -- past a blank or a comment
  pub at_gap : (piece : Piece) → piece_at at fresh first rest ≡ Ok piece
      → ((kind : TokenKind) → piece.kind ≡ Some kind → ⊥)
      → IsReadTo text all (at + 1 + piece.more) piece.fresh
  at_gap piece found other =
      record {
        within = within_text piece found;
        same = sym (at_piece piece found ∙ none piece.kind other _);
      }
    where
      none : (o : Option TokenKind) → ((kind : TokenKind) → o ≡ Some kind → ⊥)
          → (read : Result (List Lexeme) LexFault)
          → (read >>= λ later. Ok (option_to_list {X = Lexeme}
          (option_map (λ kind. record {
            kind = kind;
            at = at;
            bytes = first ∷ take piece.more rest;
          }) o) ++ later)) ≡ read
      none None _ (Ok later) = refl
      none None _ (Err fault) = refl
      none (Some kind) not read = absurd (not kind refl)

-- what is left of a text, by its bytes
pub left_is : (text bytes : List ℕ) (at first : ℕ) (rest : List ℕ) → bytes ≡ text
    → take (length bytes - at) (drop at bytes) ≡ first ∷ rest → drop at text ≡ first ∷ rest
left_is text bytes at first rest same cut = ap (drop at) (sym same) ∙ sym (take_rest bytes at) ∙ cut
