-- Steps over a list as a loop takes them: what is left, and the first refusal.
use Rattle.std.proofs.Common.{◌≡◌, ◌+◌, ◌<◌, ◌≤◌, ℕ, List, ◌∷◌, Result, Ok}
use Rattle.std.proofs.Common.{length, get_or, drop, ap, sym, ◌∙◌, drop-cons, add-one}
use Rattle.std.proofs.Math.ListN.{drop_of_length-le}
use Rattle.mrc_base.specs.declared.memory.OrMemory.{OrMemory}
use Rattle.mrc_base.specs.Reading.{◌>>=◌, Refuses}
use Rattle.mrc_base.proofs.Steps.{refuses_then, refuses_same}
use Rattle.mrc_stand_for.specs.Steps.{each}

-- what is left of a list, from a place that is in it
pub next_is : {X : Type 0} (xs : List X) (i : ℕ) (d : X) → i < length xs
    → drop i xs ≡ get_or xs i d ∷ drop (i + 1) xs
next_is xs i d less =
    drop-cons xs i d less ∙ ap (λ n. get_or xs i d ∷ drop n xs) (sym (add-one i))

-- one step of those that are left
pub each_next : {S A F : Type 0} (step : S → A → Result S F) (s : S) (xs : List A) (i : ℕ) (x : A)
    → i < length xs → x ≡ get_or xs i x
    → each step s (drop i xs) ≡ (step s x >>= λ more. each step more (drop (i + 1) xs))
each_next step s xs i x less is =
    ap (each step s) (next_is xs i x less)
    ∙ ap (λ y. step s y >>= λ more. each step more (drop (i + 1) xs)) (sym is)

-- a step that goes on
pub each_goes : {S A F : Type 0} (step : S → A → Result S F) (s more : S) (total : Result S F)
    (xs : List A) (i : ℕ) (x : A)
    → i < length xs → x ≡ get_or xs i x
    → total ≡ each step s (drop i xs) → step s x ≡ Ok more
    → total ≡ each step more (drop (i + 1) xs)
each_goes step s more total xs i x less is told goes =
    told ∙ each_next step s xs i x less is
    ∙ ap (λ r. r >>= λ more. each step more (drop (i + 1) xs)) goes

-- a step that is refused
pub each_refused : {S A F : Type 0} (e : OrMemory F) (step : S → A → Result S F) (s : S)
    (total : Result S F) (xs : List A) (i : ℕ) (x : A)
    → i < length xs → x ≡ get_or xs i x
    → total ≡ each step s (drop i xs) → Refuses e (step s x)
    → Refuses e total
each_refused e step s total xs i x less is told refused =
    refuses_same e _ _ (sym (told ∙ each_next step s xs i x less is))
    (refuses_then e (step s x) (λ more. each step more (drop (i + 1) xs)) refused)

-- no step is left
pub each_done : {S A F : Type 0} (step : S → A → Result S F) (s : S) (total : Result S F)
    (xs : List A) (i : ℕ)
    → length xs ≤ i → total ≡ each step s (drop i xs) → total ≡ Ok s
each_done step s total xs i all told = told ∙ ap (each step s) (drop_of_length-le xs all)
