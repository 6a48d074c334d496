-- The sums of all runs, where the last run comes or goes.
use Rattle.std.proofs.Common.{◌≡◌, ℕ, zero, suc, ◌+◌, ◌<◌, ◌==◌, List, [], ◌∷◌, ◌++◌, length, refl}
use Rattle.std.proofs.Common.{sym, ap, ◌∙◌, arith, append_assoc, length-append}
use Rattle.std.proofs.lemmas.Bool.Decides.{nat_tests}
use Rattle.std.proofs.lemmas.List.{append-nil}
use Rattle.mrc_mig_symbols.specs.declared.outer.Run.{Run}
use Rattle.mrc_mig_symbols.specs.ExpressionStops.{Placed}
use Rattle.mrc_mig_symbols.specs.Outer.{placed_of, inner, opened, unrolled}

unrolled_last : (runs : List Run) (run : Run)
    → unrolled (runs ++ run ∷ []) ≡ opened (placed_of run.sum) run.more ++ unrolled runs
unrolled_last [] run = sym (append-nil (opened (placed_of run.sum) run.more))
unrolled_last (first ∷ runs) run =
    ap (λ l. l ++ opened (placed_of first.sum) first.more) (unrolled_last runs run)
    ∙ append_assoc (opened (placed_of run.sum) run.more) (unrolled runs)
    (opened (placed_of first.sum) first.more)

-- a run of one sum
pub one_alone : (old new : List Run) (run : Run) → new ≡ old ++ run ∷ [] → run.more ≡ 0
    → unrolled new ≡ placed_of run.sum ∷ unrolled old
one_alone old new run is none =
    ap unrolled is ∙ unrolled_last old run
    ∙ ap (λ n. opened (placed_of run.sum) n ++ unrolled old) none

-- a run with one more
pub one_inner : (front old new : List Run) (run longer : Run) → old ≡ front ++ run ∷ []
    → new ≡ front ++ longer ∷ [] → longer.sum ≡ run.sum → longer.more ≡ run.more + 1
    → unrolled new ≡ inner run.sum.left run.more ∷ unrolled old
one_inner front old new run longer was is same more =
    let more_is : longer.more ≡ suc run.more = omega arith in
    ap unrolled is ∙ unrolled_last front longer
    ∙ ap (λ n. opened (placed_of longer.sum) n ++ unrolled front) more_is
    ∙ ap (λ s. opened (placed_of s) (suc run.more) ++ unrolled front) same
    ∙ ap (λ l. inner run.sum.left run.more ∷ l) (sym (ap unrolled was ∙ unrolled_last front run))

opened_some : (p : Placed) (more : ℕ) → 0 < length (opened p more)
opened_some p zero = omega arith
opened_some p (suc more) = omega arith

pub unrolled_none : (runs : List Run) → (length (unrolled runs) == 0) ≡ (length runs == 0)
unrolled_none [] = refl
unrolled_none (run ∷ runs) =
    let some = opened_some (placed_of run.sum) run.more in
    let size = length-append (unrolled runs) (opened (placed_of run.sum) run.more) in
    grind (arith, nat_tests)
