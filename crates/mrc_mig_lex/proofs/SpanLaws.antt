-- Where the tokens of a text lie.
use Rattle.std.proofs.Common.{◌≡◌, ℕ, zero, suc, ◌+◌, ◌-◌, ◌≤◌, Bool, List, [], ◌∷◌, ◌++◌, length}
use Rattle.std.proofs.Common.{take, drop, Option, Some, None, option_map, option_to_list, Ok, refl}
use Rattle.std.proofs.Common.{sym, ap, ◌∙◌, subst, arith, length-take}
use Rattle.std.specs.Prelude.{All}
use Rattle.std.specs.List.{AllByRecursion}
use Rattle.std.proofs.lemmas.List.{drop-drop, take_min}
use Rattle.std.proofs.lemmas.List.Elements.{All-from_recursion}
use Rattle.mrc_base.proofs.Steps.{bind_ok}
use Rattle.mrc_mig_lex.specs.declared.token.TokenKind.{TokenKind}
use Rattle.mrc_mig_lex.specs.Tokens.{Lexeme, end_of, IsSliceOf, AreInOrder}
use Rattle.mrc_mig_lex.specs.Pieces.{piece_at}
use Rattle.mrc_mig_lex.specs.Lexing.{lexeme_of, tokens_from, tokens_of}

-- the first token begins at this place or later
abbrev BeginFrom : ℕ → List Lexeme → Type 0
BeginFrom place [] = Unit {0}
BeginFrom place (token ∷ tokens) = place ≤ token.at

-- the tokens lie in the text, in order, from this place on
record AreSpans (text : List ℕ) (place : ℕ) (tokens : List Lexeme) : Type 0 where
  begin : BeginFrom place tokens
  order : AreInOrder tokens
  slices : AllByRecursion (IsSliceOf text) tokens

later_on : (text : List ℕ) (place next : ℕ) (tokens : List Lexeme) → place ≤ next
    → AreSpans text next tokens → AreSpans text place tokens
later_on text place next [] le spans = record { begin = tt; order = tt; slices = tt }
later_on text place next (token ∷ tokens) le spans =
    record {
      begin = let b = spans.begin in omega arith;
      order = spans.order;
      slices = spans.slices;
    }

one_more : (text : List ℕ) (token : Lexeme) (tokens : List Lexeme) → IsSliceOf text token
    → AreSpans text (end_of token) tokens → AreSpans text token.at (token ∷ tokens)
one_more text token [] slice spans = record {
  begin = omega arith;
  order = tt;
  slices = (slice, tt);
}
one_more text token (next ∷ tokens) slice spans =
    record {
      begin = omega arith;
      order = (spans.begin, spans.order);
      slices = (slice, spans.slices);
    }

-- a token that is cut at its place, within what is left of the text
cut_is : (text : List ℕ) (at : ℕ) (c : ℕ) (rest : List ℕ) (kind : TokenKind) (more : ℕ)
    → drop at text ≡ c ∷ rest
    → IsSliceOf text (record { kind = kind; at = at; bytes = c ∷ take more rest })
cut_is text at c rest kind more left =
    let size : at + suc (length (take more rest)) - at ≡ suc (length (take more rest)) =
    omega arith in
    let whole : take (length (take more rest)) rest ≡ take more rest =
    ap (λ n. take n rest) (length-take more rest) ∙ take_min more rest in
    record {
      slice = ap (λ n. take n (drop at text)) size ∙ ap (take (suc (length (take more rest)))) left
          ∙ ap (λ l. c ∷ l) whole;
      nonempty = omega arith;
    }

spans_from : (text : List ℕ) (left : ℕ) (fresh : Bool) (at : ℕ) (rest : List ℕ)
    (tokens : List Lexeme) → drop at text ≡ rest → tokens_from left fresh at rest ≡ Ok tokens
    → AreSpans text (at + left) tokens
spans_from text left fresh at [] tokens here read =
    let none : [] ≡ tokens = cc in
    subst (AreSpans text (at + left)) none (record { begin = tt; order = tt; slices = tt })
spans_from text (suc left) fresh at (c ∷ rest) tokens here read =
    let next : drop (at + 1) text ≡ rest = sym (drop-drop 1 at text) ∙ ap (drop 1) here in
    let same : at + 1 + left ≡ at + suc left = omega arith in
    subst (λ (n : ℕ). AreSpans text n tokens) same
    (spans_from text left fresh (at + 1) rest tokens next read)
spans_from text zero fresh at (c ∷ rest) tokens here read =
    let next : drop (at + 1) text ≡ rest = sym (drop-drop 1 at text) ∙ ap (drop 1) here in
    let one = bind_ok (piece_at at fresh c rest) _ tokens read in
    let two = bind_ok (tokens_from one.0.more one.0.fresh (at + 1) rest) _ tokens one.2 in
    let onward = spans_from text one.0.more one.0.fresh (at + 1) rest two.0 next two.1 in
    let whole : lexeme_of one.0 at c rest ++ two.0 ≡ tokens = cc in
    subst (AreSpans text (at + 0)) whole (with_first one.0.kind one.0.more two.0 onward)
  where
    with_first : (o : Option TokenKind) (more : ℕ) (later : List Lexeme)
        → AreSpans text (at + 1 + more) later
        → AreSpans text (at + 0)
        (option_to_list {X = Lexeme}
        (option_map (λ kind. record { kind = kind; at = at; bytes = c ∷ take more rest }) o)
        ++ later)
    with_first None more later onward = later_on text (at + 0) _ later (omega arith) onward
    with_first (Some kind) more later onward =
        let token : Lexeme = record { kind = kind; at = at; bytes = c ∷ take more rest } in
        let ends : end_of token ≤ at + 1 + more = omega (arith, length-take more rest) in
        later_on text (at + 0) at (token ∷ later) (omega arith)
        (one_more text token later (cut_is text at c rest kind more here)
        (later_on text (end_of token) _ later ends onward))

pub slices_of : (text : List ℕ) (tokens : List Lexeme) → tokens_of text ≡ Ok tokens
    → All (IsSliceOf text) tokens
slices_of text tokens read =
    All-from_recursion _ tokens (spans_from text 0 _ 0 text tokens refl read).slices

pub order_of : (text : List ℕ) (tokens : List Lexeme) → tokens_of text ≡ Ok tokens
    → AreInOrder tokens
order_of text tokens read = (spans_from text 0 _ 0 text tokens refl read).order
