-- Tokens are found again where they are said to begin.
use Rattle.std.proofs.Common.{◌≡◌, ℕ, zero, suc, true, false, List, [], ◌∷◌, ◌++◌, Option, Some}
use Rattle.std.proofs.Common.{None, Result, Ok, Err, map, option_map, refl, sym, ap, ◌∙◌, subst}
use Rattle.std.proofs.Common.{append_assoc}
use Rattle.std.specs.Prelude.{slice_get}
use Rattle.mrc_base.specs.Reading.{◌>>=◌, Refuses}
use Rattle.mrc_base.specs.declared.memory.OrMemory.{OrMemory}
use Rattle.mrc_base.specs.declared.memory.OrMemory.TheVariants.{Fault, Memory}
use Rattle.mrc_mig_lex.specs.declared.fault.LexFault.{LexFault}
use Rattle.mrc_mig_lex.specs.Tokens.{Lexeme, end_of}
use Rattle.mrc_mig_lex.specs.Lexing.{tokens_behind, tokens_of, BeginsWith}
use Rattle.mrc_mig_lex.proofs.FoundLaws.{AreFound, are_found}
use Rattle.mrc_mig_symbols.specs.declared.tokens.Mark.{Mark}
use Rattle.mrc_mig_symbols.specs.Marks.{tokens_or_none, tokens_in, mark_of, marks_of}
use Rattle.mrc_mig_symbols.specs.Marks.{AreMarks}

found_at : (text : List ℕ) (tokens : List Lexeme) (number : ℕ) (token : Lexeme)
    → AreFound text tokens → slice_get tokens number ≡ Some token
    → (later : List Lexeme) × (tokens_behind true token.at text ≡ Ok (token ∷ later))
found_at text [] number token are e = absurd cc
found_at text (first ∷ tokens) zero token are e =
    let same : first ≡ token = cc in
    (tokens, subst (λ (t : Lexeme). tokens_behind true t.at text ≡ Ok (t ∷ tokens)) same are.0)
found_at text (first ∷ tokens) (suc number) token are e =
    found_at text tokens number token are.1 e

begins : (text : List ℕ) (answer : Result (Option Lexeme) LexFault) (token : Lexeme)
    (later : List Lexeme) → BeginsWith text answer (Ok (token ∷ later)) → answer ≡ Ok (Some token)
begins text (Err fault) token later b = absurd cc
begins text (Ok None) token later b = absurd cc
begins text (Ok (Some other)) token later b =
    ap (λ t. Ok (Some t)) (by (tokens_behind false (end_of other) text) b)
  where
    by : (read : Result (List Lexeme) LexFault)
        → Ok (token ∷ later) ≡ (read >>= λ more. Ok (other ∷ more))
        → other ≡ token
    by (Ok more) e = cc
    by (Err fault) e = absurd cc

-- where a token begins it is found
pub token_again : (text : List ℕ) (tokens : List Lexeme) (number : ℕ) (mark : Mark)
    (answer : Result (Option Lexeme) LexFault) → tokens_of text ≡ Ok tokens
    → Some mark ≡ option_map mark_of (slice_get tokens number)
    → BeginsWith text answer (tokens_behind true mark.at text)
    → answer ≡ Ok (slice_get tokens number)
token_again text tokens number mark answer read kept b = by (slice_get tokens number) refl kept
  where
    by : (o : Option Lexeme) → slice_get tokens number ≡ o → Some mark ≡ option_map mark_of o
        → answer ≡ Ok o
    by None is e = absurd cc
    by (Some token) is e =
        let at_is : mark.at ≡ token.at = let same : mark ≡ mark_of token = cc in
        ap (λ m. m.at) same in
        let found = found_at text tokens number token (are_found text tokens read) is in
        let here : tokens_behind true mark.at text ≡ Ok (token ∷ found.0) =
        ap (λ at. tokens_behind true at text) at_is ∙ found.1 in
        begins text answer token found.0
        (subst (λ (r : Result (List Lexeme) LexFault). BeginsWith text answer r) here b)

-- what is kept of the tokens so far and of those behind a token is what is kept of all
pub mark_on : (text : List ℕ) (token : Lexeme) (marks : List Mark)
    (read later : Result (List Lexeme) LexFault)
    → marks_of text ≡ (read >>= λ tokens. Ok (marks ++ map mark_of tokens))
    → read ≡ (later >>= λ tokens. Ok (token ∷ tokens))
    → marks_of text ≡ (later >>= λ tokens. Ok ((marks ++ mark_of token ∷ []) ++ map mark_of tokens))
mark_on text token marks read later all is =
    all ∙ ap (λ r. r >>= λ tokens. Ok (marks ++ map mark_of tokens)) is ∙ by later
  where
    by : (r : Result (List Lexeme) LexFault)
        → ((r >>= λ tokens. Ok (token ∷ tokens)) >>= λ tokens. Ok (marks ++ map mark_of tokens))
        ≡ (r >>= λ tokens. Ok ((marks ++ mark_of token ∷ []) ++ map mark_of tokens))
    by (Ok tokens) = ap Ok (sym (append_assoc marks (mark_of token ∷ []) (map mark_of tokens)))
    by (Err fault) = refl

-- the tokens of a text that has them
pub tokens_are : (text : List ℕ) (tokens : List Lexeme) → tokens_of text ≡ Ok tokens
    → tokens_in text ≡ tokens
unfolding tokens_in
tokens_are text tokens is = ap (λ r. tokens_or_none r) is

-- what was kept of each token, of all of them
pub are_marks : (text : List ℕ) (marks : List Mark) → marks_of text ≡ Ok marks
    → AreMarks text marks
unfolding marks_of
are_marks text marks kept = by (tokens_of text) refl kept
  where
    by : (read : Result (List Lexeme) LexFault) → tokens_of text ≡ read
        → (read >>= λ tokens. Ok (map mark_of tokens)) ≡ Ok marks → AreMarks text marks
    by (Err fault) is e = absurd cc
    by (Ok tokens) is e = record {
      read = is ∙ ap Ok (sym (tokens_are text tokens is));
      marks_are = let same : map mark_of tokens ≡ marks = cc in
          sym same ∙ ap (map mark_of) (sym (tokens_are text tokens is));
    }

-- what refuses to keep them refuses to read them
pub refused : (refusal : OrMemory LexFault) (read : Result (List Lexeme) LexFault)
    → Refuses refusal (read >>= λ tokens. Ok (map mark_of tokens)) → Refuses refusal read
refused Memory read h = tt
refused (Fault fault) (Ok tokens) h = absurd cc
refused (Fault fault) (Err other) h = cc
