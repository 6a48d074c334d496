-- The tokens of a text, one part behind the other.
use Rattle.std.proofs.Common.{◌≡◌, ℕ, zero, suc, ◌+◌, Bool, true, List, [], ◌∷◌, ◌++◌, map, length}
use Rattle.std.proofs.Common.{take}
use Rattle.std.proofs.Common.{drop, Option, Some, None, Result, Ok, Err, refl, sym, ap, ◌∙◌, arith}
use Rattle.std.proofs.Common.{append_assoc, subst, ◌-◌, ◌≤◌}
use Rattle.std.specs.Prelude.{All}
use Rattle.std.specs.Str.{IsCharBoundary}
use Rattle.std.proofs.lemmas.List.Elements.{All-push}
use Rattle.std.proofs.lemmas.List.{drop-drop, append-nil, length-take-le, map-append}
use Rattle.mrc_base.specs.Reading.{◌>>=◌}
use Rattle.mrc_mig_lex.specs.declared.fault.LexFault.{LexFault}
use Rattle.mrc_mig_tokens.specs.declared.piece.Front.{Front}
use Rattle.mrc_mig_tokens.specs.declared.piece.Kind.{Kind}
use Rattle.mrc_mig_tokens.specs.declared.symbol.Part.{Part}
use Rattle.mrc_mig_tokens.specs.declared.symbol.Part.TheVariants as parts
use Rattle.mrc_mig_tokens.specs.declared.tokens.LineMark.{LineMark}
use Rattle.mrc_mig_tokens.specs.declared.tokens.Mark.{Mark}
use Rattle.mrc_mig_tokens.specs.Fronts.{front_at}
use Rattle.mrc_mig_tokens.specs.Symbols.{part_by}
use Rattle.mrc_mig_tokens.specs.Tokens.{Lexed, lex, lex_from, lex_behind}
use Rattle.mrc_mig_tokens.specs.Tokens.{token_in, lexed_by, marks_of_part, lines_of_part}
use Rattle.mrc_mig_tokens.specs.Tokens.{tokens_of_part, part_before, front_before, IsCut}

-- the bytes that still belong to what stands before are passed over
pub passed_over : (left : ℕ) (fresh : Bool) (at : ℕ) (rest : List ℕ)
    → lex_from left fresh at rest ≡ lex_from 0 fresh (at + left) (drop left rest)
passed_over zero fresh at rest = let e : at ≡ at + 0 = omega arith in
    ap (λ i. lex_from 0 fresh i rest) e
passed_over (suc left) fresh at [] = refl
passed_over (suc left) fresh at (c ∷ rest) =
    let e : at + 1 + left ≡ at + suc left = omega arith in
    passed_over left fresh (at + 1) rest ∙ ap (λ i. lex_from 0 fresh i (drop left rest)) e

-- what was kept so far, before what is read behind it
abbrev pub joined : List ℕ → List Mark → List LineMark → Lexed → Lexed
joined text marks lines later = record {
  tokens = map (token_in text) marks ++ later.tokens;
  lines = lines ++ later.lines;
}

-- what is read from this place on, behind what was kept, is all
pub record IsLexedTo (text : List ℕ) (marks : List Mark) (lines : List LineMark) (at : ℕ)
    (fresh : Bool) : Type 0 where
  pub all : lex text ≡ (lex_behind fresh at text >>= λ later. Ok (joined text marks lines later))

start : (text : List ℕ) (r : Result Lexed LexFault)
    → r ≡ (r >>= λ later. Ok (joined text [] [] later))
start text (Ok later) = refl
start text (Err fault) = refl

-- at the front
pub at_start : (text : List ℕ) → IsLexedTo text [] [] 0 true
at_start text = record { all = start text (lex text) }

read_on : (text : List ℕ) (at : ℕ) (first : ℕ) (rest : List ℕ) (n : ℕ)
    → drop at text ≡ first ∷ rest → drop n rest ≡ drop (at + 1 + n) text
read_on text at first rest n left =
    let e : at + suc n ≡ at + 1 + n = omega arith in
    sym (sym (ap (λ i. drop i text) e) ∙ sym (drop-drop (suc n) at text) ∙ ap (drop (suc n)) left)

-- nothing is left
pub at_nothing : (text : List ℕ) (marks : List Mark) (lines : List LineMark) (at : ℕ) (fresh : Bool)
    → IsLexedTo text marks lines at fresh → drop at text ≡ []
    → lex text ≡ Ok (lexed_by text marks lines)
at_nothing text marks lines at fresh read nothing =
    read.all
    ∙ ap (λ l. lex_from 0 fresh at l >>= λ later. Ok (joined text marks lines later)) nothing
    ∙ ap (λ ts. Ok (record { tokens = ts; lines = lines ++ [] }))
    (append-nil (map (token_in text) marks))
    ∙ ap (λ ls. Ok (record { tokens = map (token_in text) marks; lines = ls })) (append-nil lines)

module _ {text : List ℕ} {marks : List Mark} {lines : List LineMark} {at : ℕ} {fresh : Bool}
    {first : ℕ} {rest : List ℕ} (read : IsLexedTo text marks lines at fresh)
    (left : drop at text ≡ first ∷ rest) where
  -- a comment that is not closed
  pub at_fault : (fault : LexFault) → front_at at fresh first rest ≡ Err fault
      → lex text ≡ Err fault
  at_fault fault fails =
      read.all
      ∙ ap (λ l. lex_from 0 fresh at l >>= λ later. Ok (joined text marks lines later)) left
      ∙ ap (λ r. (r >>= (λ front. lex_from front.more front.fresh (at + 1) rest
      >>= λ later. Ok (front_before front.kind at (first ∷ take front.more rest) later)))
      >>= λ later. Ok (joined text marks lines later)) fails

  at_front : (front : Front) → front_at at fresh first rest ≡ Ok front
      → lex text ≡ ((lex_behind front.fresh (at + 1 + front.more) text
      >>= λ later. Ok (front_before front.kind at (first ∷ take front.more rest) later))
      >>= λ later. Ok (joined text marks lines later))
  at_front front found =
      let onward : lex_from front.more front.fresh (at + 1) rest
      ≡ lex_behind front.fresh (at + 1 + front.more) text =
      passed_over front.more front.fresh (at + 1) rest
      ∙ ap (lex_from 0 front.fresh (at + 1 + front.more))
      (read_on text at first rest front.more left) in
      read.all
      ∙ ap (λ l. lex_from 0 fresh at l >>= λ later. Ok (joined text marks lines later)) left
      ∙ ap (λ r. (r >>= (λ front. lex_from front.more front.fresh (at + 1) rest
      >>= λ later. Ok (front_before front.kind at (first ∷ take front.more rest) later)))
      >>= λ later. Ok (joined text marks lines later)) found
      ∙ ap (λ r. (r >>= λ later. Ok (front_before front.kind at (first ∷ take front.more rest)
      later)) >>= λ later. Ok (joined text marks lines later)) onward

  -- past a blank or a comment
  pub at_gap : (front : Front) → front_at at fresh first rest ≡ Ok front
      → ((kind : Kind) → front.kind ≡ Some kind → ⊥)
      → IsLexedTo text marks lines (at + 1 + front.more) front.fresh
  at_gap front found not =
      record { all = at_front front found ∙ none front.kind not _ }
    where
      none : (o : Option Kind) → ((kind : Kind) → o ≡ Some kind → ⊥) → (r : Result Lexed LexFault)
          → ((r >>= λ later. Ok (front_before o at (first ∷ take front.more rest) later))
          >>= λ later. Ok (joined text marks lines later))
          ≡ (r >>= λ later. Ok (joined text marks lines later))
      none None _ (Ok later) = refl
      none None _ (Err fault) = refl
      none (Some kind) not r = absurd (not kind refl)

  -- past a token, or a line of the preprocessor
  pub at_part : (front : Front) (kind : Kind) (part : Part) (bytes : List ℕ)
      → front_at at fresh first rest ≡ Ok front → front.kind ≡ Some kind
      → front.more ≤ length rest
      → bytes ≡ take (at + 1 + front.more - at) (drop at text) → part ≡ part_by kind bytes
      → IsLexedTo text (marks ++ marks_of_part part at (at + 1 + front.more))
      (lines ++ lines_of_part part at (at + 1 + front.more)) (at + 1 + front.more) front.fresh
  at_part front kind part bytes found kind_is within bytes_are part_is =
      let size : at + 1 + front.more - at ≡ suc front.more = omega arith in
      let cut : bytes ≡ first ∷ take front.more rest = bytes_are
      ∙ ap (λ n. take n (drop at text)) size ∙ ap (take (suc front.more)) left in
      let count : at + suc (length (take front.more rest)) ≡ at + 1 + front.more =
      omega (arith, length-take-le front.more rest within) in
      let whole = at_front front found
      ∙ ap (λ o. ((lex_behind front.fresh (at + 1 + front.more) text
      >>= λ later. Ok (front_before o at (first ∷ take front.more rest) later))
      >>= λ later. Ok (joined text marks lines later))) kind_is
      ∙ ap (λ p. ((lex_behind front.fresh (at + 1 + front.more) text
      >>= λ later. Ok (part_before p at (first ∷ take front.more rest) later))
      >>= λ later. Ok (joined text marks lines later)))
      (ap (part_by kind) (sym cut) ∙ sym part_is)
      ∙ by (lex_behind front.fresh (at + 1 + front.more) text) part (sym cut ∙ bytes_are) count in
      record { all = whole }
    where
      tokens_are : (part : Part) (bytes : List ℕ) (end : ℕ)
          → bytes ≡ take (end - at) (drop at text)
          → tokens_of_part part at bytes ≡ map (token_in text) (marks_of_part part at end)
      tokens_are (parts.Token symbol) bytes end e =
          ap (λ b. record { symbol = symbol; at = at; bytes = b } ∷ []) e
      tokens_are parts.Mark bytes end e = refl
      tokens_are parts.Gap bytes end e = refl

      by : (r : Result Lexed LexFault) (part : Part)
          → first ∷ take front.more rest ≡ take (at + 1 + front.more - at) (drop at text)
          → at + suc (length (take front.more rest)) ≡ at + 1 + front.more
          → ((r >>= λ later. Ok (part_before part at (first ∷ take front.more rest) later))
          >>= λ later. Ok (joined text marks lines later))
          ≡ (r >>= λ later. Ok (joined text
          (marks ++ marks_of_part part at (at + 1 + front.more))
          (lines ++ lines_of_part part at (at + 1 + front.more)) later))
      by (Err fault) part bytes_are count = refl
      by (Ok later) part bytes_are count =
          let tokens : map (token_in text) marks
          ++ (tokens_of_part part at (first ∷ take front.more rest) ++ later.tokens)
          ≡ map (token_in text) (marks ++ marks_of_part part at (at + 1 + front.more))
          ++ later.tokens =
          ap (λ ts. map (token_in text) marks ++ (ts ++ later.tokens))
          (tokens_are part (first ∷ take front.more rest) (at + 1 + front.more) bytes_are)
          ∙ sym (append_assoc (map (token_in text) marks)
          (map (token_in text) (marks_of_part part at (at + 1 + front.more))) later.tokens)
          ∙ ap (λ ts. ts ++ later.tokens)
          (sym (map-append (token_in text) marks (marks_of_part part at (at + 1 + front.more)))) in
          let ends : lines ++ (lines_of_part part at (at + suc (length (take front.more rest)))
          ++ later.lines)
          ≡ (lines ++ lines_of_part part at (at + 1 + front.more)) ++ later.lines =
          ap (λ n. lines ++ (lines_of_part part at n ++ later.lines)) count
          ∙ sym (append_assoc lines (lines_of_part part at (at + 1 + front.more)) later.lines) in
          ap (λ ts. Ok (record {
            tokens = ts;
            lines = lines ++ (lines_of_part part at (at + suc (length (take front.more rest)))
                ++ later.lines);
          })) tokens
          ∙ ap (λ ls. Ok (record {
            tokens = map (token_in text) (marks ++ marks_of_part part at (at + 1 + front.more))
                ++ later.tokens;
            lines = ls;
          })) ends

one_cut : (text : List ℕ) (mark : Mark) → IsCharBoundary text mark.at
    → IsCharBoundary text mark.end → mark.at ≤ mark.end → IsCut text mark
one_cut text mark begins ends order = record { begins = begins; ends = ends; order = order }

-- and so are tokens with one more between them
pub all_cut : (text : List ℕ) (marks : List Mark) (part : Part) (at end : ℕ)
    → All (IsCut text) marks → IsCharBoundary text at → IsCharBoundary text end → at ≤ end
    → All (IsCut text) (marks ++ marks_of_part part at end)
all_cut text marks (parts.Token symbol) at end cut begins ends order =
    All-push (IsCut text) marks (record { symbol = symbol; at = at; end = end }) cut
    (one_cut text (record { symbol = symbol; at = at; end = end }) begins ends order)
all_cut text marks parts.Mark at end cut begins ends order =
    subst (All (IsCut text)) (sym (append-nil marks)) cut
all_cut text marks parts.Gap at end cut begins ends order =
    subst (All (IsCut text)) (sym (append-nil marks)) cut
