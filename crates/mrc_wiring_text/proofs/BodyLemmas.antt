-- Reading lines one after the other, as a loop does.
use Rattle.std.proofs.Common.{◌≡◌, ℕ, ◌+◌, List, [], ◌∷◌, ◌++◌, Option, Some, None, Result, Ok, Err}
use Rattle.std.proofs.Common.{refl, sym, ap, ◌∙◌, append_assoc}
use Rattle.std.proofs.lemmas.List.{append-nil}
use Rattle.mrc_base.specs.declared.memory.OrMemory.{OrMemory}
use Rattle.mrc_base.specs.Reading.{◌>>=◌, Refuses}
use Rattle.mrc_base.proofs.Steps.{refuses_then, refuses_same}
use Rattle.mrc_wiring_text.specs.declared.faults.TextFault.{TextFault}
use Rattle.mrc_wiring_text.specs.declared.reading.Line.{Line}
use Rattle.mrc_wiring_text.specs.Reading.{line_of, onto, body}

-- what was said before, and what is still said
abbrev pub with_front : {S : Type 0} → List (Line S) → Result (List (Line S)) TextFault
    → Result (List (Line S)) TextFault
with_front front read = read >>= λ others. Ok (front ++ others)

-- what was said, and what this line says
abbrev pub more : {S : Type 0} → ℕ → Option S → List (Line S) → List (Line S)
more n None front = front
more n (Some says) front = front ++ record { number = n; says = says } ∷ []

regroup : {S : Type 0} (front : List (Line S)) (n : ℕ) (says : Option S)
    (read : Result (List (Line S)) TextFault)
    → with_front front (read >>= λ others. Ok (onto n says others)) ≡ with_front (more n says front)
    read
regroup front n None (Ok others) = refl
regroup front n (Some says) (Ok others) = ap (λ lines. Ok lines) (simp append_assoc)
regroup front n says (Err e) = refl

body_at : {S : Type 0} (meaning : List (List ℕ) → Option S) (n : ℕ) (line : List ℕ)
    (rest : List (List ℕ)) (says : Option S)
    → line_of meaning n line ≡ Ok says
    → body meaning n (line ∷ rest) ≡ (body meaning (n + 1) rest >>= λ others. Ok
    (onto n says others))
unfolding body
body_at meaning n line rest says is =
    ap (λ r. r >>= λ s. body meaning (n + 1) rest >>= λ others. Ok (onto n s others)) is

pub body_goes_on : {S : Type 0} (meaning : List (List ℕ) → Option S) (front : List (Line S)) (n : ℕ)
    (text : List (List ℕ)) (line : List ℕ) (rest : List (List ℕ)) (says : Option S)
    (total : Result (List (Line S)) TextFault)
    → with_front front (body meaning n text) ≡ total
    → text ≡ line ∷ rest
    → line_of meaning n line ≡ Ok says
    → with_front (more n says front) (body meaning (n + 1) rest) ≡ total
body_goes_on meaning front n text line rest says total same cut is =
    sym (regroup front n says (body meaning (n + 1) rest))
    ∙ ap (with_front front) (sym (body_at meaning n line rest says is)
    ∙ ap (body meaning n) (sym cut)) ∙ same

pub body_same : {S : Type 0} (a b : List (Line S)) (read total : Result (List (Line S)) TextFault)
    → a ≡ b
    → with_front b read ≡ total
    → with_front a read ≡ total
body_same a b read total same h = ap (λ front. with_front front read) same ∙ h

pub body_fails : {S : Type 0} (e : OrMemory TextFault) (meaning : List (List ℕ) → Option S)
    (front : List (Line S)) (n : ℕ) (text : List (List ℕ)) (line : List ℕ) (rest : List (List ℕ))
    (total : Result (List (Line S)) TextFault)
    → with_front front (body meaning n text) ≡ total
    → text ≡ line ∷ rest
    → Refuses e (line_of meaning n line)
    → Refuses e total
unfolding body
body_fails e meaning front n text line rest total same cut is =
    let whole = refuses_then e (line_of meaning n line)
    (λ s. body meaning (n + 1) rest >>= λ others. Ok (onto n s others)) is in
    refuses_same e _ _ (ap (λ ls. with_front front (body meaning n ls)) (sym cut) ∙ same)
    (refuses_then e _ (λ others. Ok (front ++ others)) whole)

pub body_ends : {S : Type 0} (meaning : List (List ℕ) → Option S) (front : List (Line S)) (n : ℕ)
    (total : Result (List (Line S)) TextFault)
    → with_front front (body meaning n []) ≡ total → total ≡ Ok front
unfolding body
body_ends meaning front n total same = sym same ∙ ap (λ lines. Ok lines) (append-nil front)
