-- Any number of phrases are read exactly where they stand.
use Rattle.std.proofs.Common.{◌≡◌, ℕ, ◌-◌, ◌<◌, ◌≤◌, Bool, true, false, List, [], ◌++◌, length}
use Rattle.std.proofs.Common.{Option, Some, refl, sym, ap, ◌∙◌, subst, arith, append_assoc}
use Rattle.std.proofs.Common.{length-append}
use Rattle.mrc_mig_lex.specs.Tokens.{Lexeme}
use Rattle.mrc_mig_symbols.specs.Symbols.{many}
use Rattle.mrc_mig_symbols.proofs.LoopLemmas.{many_ends}
use Rattle.mrc_mig_parse.specs.Grammar.{AnyNumber, none, more}
use Rattle.mrc_mig_parse.proofs.PhraseLemmas.{many_step, many_holds}

-- such a phrase stands in front of the rest
abbrev pub Leads : (List Lexeme → Type 0) → List Lexeme → List Lexeme → Type 0
Leads Phrase tokens rest = (written : List Lexeme) × (tokens ≡ written ++ rest) × Phrase written

-- what many steps read are any number of what one step reads
pub many_are : {A R : Type 0} (Phrase : A → List Lexeme → A → Type 0) (known : R → A)
    (left : R → List Lexeme) (goes : R → Bool) (step : R → Option R)
    → ((r s : R) → goes r ≡ true → step r ≡ Some s
    → Leads (λ w. Phrase (known r) w (known s)) (left r) (left s))
    → (n : ℕ) (r s : R) → many goes step n r ≡ Some s
    → Leads (λ w. AnyNumber Phrase (known r) w (known s)) (left r) (left s)
many_are Phrase known left goes step one n r s e =
    many_holds goes step
    (λ r s. Leads (λ w. AnyNumber Phrase (known r) w (known s)) (left r) (left s))
    (λ r. ([], refl, none))
    (λ r s t test stepped others.
    let first = one r s test stepped in (
      first.0 ++ others.0,
      first.1 ∙ ap (λ l. first.0 ++ l) others.1 ∙ sym (append_assoc first.0 others.0 (left t)),
      more first.2 others.2,
    )) n r s e

-- what stands in front of any number of phrases, as each of them and the rest begin so
pub any_lead : {A : Type 0} {Phrase : A → List Lexeme → A → Type 0} (Leading : List Lexeme → Type 0)
    → ((a : A) (written : List Lexeme) (b : A) (rest : List Lexeme) → Phrase a written b
    → Leading (written ++ rest))
    → {a c : A} {written : List Lexeme} (rest : List Lexeme) → AnyNumber Phrase a written c
    → Leading rest → Leading (written ++ rest)
any_lead Leading one rest none leads = leads
any_lead Leading one rest (more {a} {b} {phrase = phrase} {others = others} is are) leads =
    subst Leading (sym (append_assoc phrase others rest)) (one a phrase b (others ++ rest) is)

-- one step reads a phrase that is not empty
abbrev pub IsRead : {R : Type 0} → (R → Bool) → (R → Option R) → List Lexeme → R → R → Type 0
IsRead goes step written r s = (goes r ≡ true) × (step r ≡ Some s) × (0 < length written)

-- any number of what one step reads are read by as many steps as there are tokens, where each of
-- them has in front of it what it needs, and no step is made behind them
pub many_read : {A R : Type 0} (Phrase : A → List Lexeme → A → Type 0) (at : A → List Lexeme → R)
    (goes : R → Bool) (step : R → Option R) (Leading : List Lexeme → Type 0)
    → ((a : A) (written : List Lexeme) (b : A) (rest : List Lexeme) → Phrase a written b
    → Leading (written ++ rest))
    → ((a : A) (written : List Lexeme) (b : A) (rest : List Lexeme) → Phrase a written b
    → Leading rest → IsRead goes step written (at a (written ++ rest)) (at b rest))
    → (n : ℕ) (a : A) (written : List Lexeme) (c : A) (rest : List Lexeme)
    → AnyNumber Phrase a written c → length written ≤ n → Leading rest
    → goes (at c rest) ≡ false → many goes step n (at a (written ++ rest)) ≡ Some (at c rest)
many_read Phrase at goes step Leading lead one n a _ _ rest none le leads ends =
    many_ends goes step n (at a rest) ends
many_read Phrase at goes step Leading lead one n a _ c rest
    (more {b = b} {phrase = phrase} {others = others} is are) le leads ends =
    let count = length-append phrase others in
    let (begins, reads, some) =
    one a phrase b (others ++ rest) is (any_lead Leading lead rest are leads) in
    rw (append_assoc phrase others rest)
    (many_step goes step n 0 (at a (phrase ++ (others ++ rest))) (at b (others ++ rest))
    (omega (arith, count, some)) begins reads
    ∙ many_read Phrase at goes step Leading lead one (n - 1) b others c rest are
    (omega (arith, count, some)) leads ends)

-- what holds before any number of phrases holds behind them, as it does of each
pub any_keep : {A : Type 0} {Phrase : A → List Lexeme → A → Type 0} (Holds : A → Type 0)
    → ((a : A) (written : List Lexeme) (b : A) → Phrase a written b → Holds a → Holds b)
    → {a c : A} {written : List Lexeme} → AnyNumber Phrase a written c → Holds a → Holds c
any_keep Holds one none holds = holds
any_keep Holds one (more {a} {b} {phrase = phrase} is are) holds =
    any_keep Holds one are (one a phrase b is holds)
