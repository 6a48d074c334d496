-- Looking for the first line with words, as a loop does.
use Rattle.std.proofs.Common.{◌≡◌, ℕ, ◌+◌, Bool, true, false, eqb, List, [], ◌∷◌, length, Result}
use Rattle.std.proofs.Common.{Ok, Err, refl, sym, ap, ◌∙◌}
use Rattle.std.specs.List.{before_first}
use Rattle.std.proofs.lemmas.Bool.{eqb-true}
use Rattle.std.proofs.lemmas.List.{nil_from_length}
use Rattle.mrc_base.specs.declared.memory.OrMemory.{OrMemory}
use Rattle.mrc_base.specs.Reading.{◌>>=◌, Refuses}
use Rattle.mrc_base.proofs.Steps.{refuses_then, refuses_same}
use Rattle.mrc_wiring_text.specs.declared.faults.TextFault.{TextFault}
use Rattle.mrc_wiring_text.specs.declared.faults.TextFault.TheVariants.{BadLine}
use Rattle.mrc_wiring_text.specs.declared.reading.Edition.{Edition}
use Rattle.mrc_wiring_text.specs.declared.reading.TextKind.{TextKind}
use Rattle.mrc_wiring_text.specs.Lexis.{is_hash, spaced, between_blanks, words}
use Rattle.mrc_wiring_text.specs.Reading.{after_heading, heading}

-- what a test of a count says of the count itself
pub tells : (test : Bool) (count n : ℕ) (b : Bool)
    → test ≡ eqb count 0
    → count ≡ n
    → test ≡ b
    → eqb n 0 ≡ b
tells test count n b is same said = sym (is ∙ ap (λ k. eqb k 0) same) ∙ said

-- the words of a line, of the spaced text that was made of it
pub said_words : (line text view : List ℕ)
    → view ≡ text
    → text ≡ spaced (before_first is_hash line)
    → between_blanks view ≡ words line
unfolding words
said_words line text view seen made = ap between_blanks (seen ∙ made)

-- a list of no elements
pub is_nil : {X : Type 0} (xs : List X) (test : Bool)
    → test ≡ eqb (length xs) 0
    → test ≡ true
    → xs ≡ []
is_nil xs test is said = nil_from_length xs (eqb-true _ _ (sym is ∙ said))

heading_at : (kind : TextKind) (n : ℕ) (line : List ℕ) (rest : List (List ℕ))
    → eqb (length (words line)) 0 ≡ false
    → heading kind n (line ∷ rest) ≡ (after_heading kind n (words line) >>= λ next. Ok (next, rest))
unfolding heading
heading_at kind n line rest e = rw e refl

pub heading_passes : (kind : TextKind) (n : ℕ) (text : List (List ℕ)) (line : List ℕ)
    (rest : List (List ℕ)) (total : Result ((Edition × ℕ) × List (List ℕ)) TextFault)
    → heading kind n text ≡ total
    → text ≡ line ∷ rest
    → eqb (length (words line)) 0 ≡ true
    → heading kind (n + 1) rest ≡ total
unfolding heading
heading_passes kind n text line rest total same cut e =
    let one : heading kind n (line ∷ rest) ≡ heading kind (n + 1) rest = rw e refl in
    sym one ∙ ap (heading kind n) (sym cut) ∙ same

pub heading_starts : (kind : TextKind) (n : ℕ) (text : List (List ℕ)) (line : List ℕ)
    (rest : List (List ℕ)) (total : Result ((Edition × ℕ) × List (List ℕ)) TextFault)
    (next : Edition × ℕ)
    → heading kind n text ≡ total
    → text ≡ line ∷ rest
    → eqb (length (words line)) 0 ≡ false
    → after_heading kind n (words line) ≡ Ok next
    → total ≡ Ok (next, rest)
heading_starts kind n text line rest total next same cut e is =
    sym same ∙ ap (heading kind n) cut ∙ heading_at kind n line rest e
    ∙ ap (λ r. r >>= λ next. Ok (next, rest)) is

pub heading_fails : (e : OrMemory TextFault) (kind : TextKind) (n : ℕ) (text : List (List ℕ))
    (line : List ℕ) (rest : List (List ℕ)) (total : Result ((Edition × ℕ) × List (List ℕ))
    TextFault)
    → heading kind n text ≡ total
    → text ≡ line ∷ rest
    → eqb (length (words line)) 0 ≡ false
    → Refuses e (after_heading kind n (words line))
    → Refuses e total
heading_fails e kind n text line rest total same cut filled is =
    refuses_same e _ _ (sym (heading_at kind n line rest filled) ∙ ap (heading kind n) (sym cut)
    ∙ same) (refuses_then e (after_heading kind n (words line)) (λ next. Ok (next, rest)) is)

pub heading_ends : (kind : TextKind) (n : ℕ) (total : Result ((Edition × ℕ) × List (List ℕ))
    TextFault)
    → heading kind n [] ≡ total
    → total ≡ Err (BadLine 1)
unfolding heading
heading_ends kind n total same = sym same
