-- Numbers below a bound that pass a test.
use Rattle.std.proofs.Common.{◌≡◌, ◌⊎◌, inl, inr, ℕ, zero, suc, ◌+◌, ◌<◌, Bool, true, false}
use Rattle.std.proofs.Common.{◌++◌, List, refl, ap, sym, ◌∙◌, arith, add-one}
use Rattle.std.specs.Prelude.{◌||◌, ◌&&◌}
use Rattle.std.proofs.lemmas.Bool.{or_right}
use Rattle.mrc_dead.specs.Asking.{any_below, number_if, those_below}

-- one number more
pub any_next : (test : ℕ → Bool) (n : ℕ)
    → any_below test (n + 1) ≡ (any_below test n || test n)
any_next test n = rw add-one refl

-- no number that was looked at passes, nor does this one
pub any_none : (test : ℕ → Bool) (n : ℕ) → any_below test n ≡ false → test n ≡ false
    → any_below test (n + 1) ≡ false
any_none test n none is = any_next test n ∙ (ap (λ b. b || test n) none ∙ is)

-- a number below the next one is this one, or below it
parted : (k n : ℕ) → k < suc n → (k < n) ⊎ (k ≡ n)
parted k zero less = inr (omega arith)
parted zero (suc n) less = inl (omega arith)
parted (suc k) (suc n) less =
    let below : k < suc n = omega arith in
    elim (parted k n below) [ inl l ↦ inl (omega arith) | inr e ↦ inr (ap suc e) ]

-- one that passes is enough
pub any_at : (test : ℕ → Bool) (n k : ℕ) → k < n → test k ≡ true → any_below test n ≡ true
any_at test zero k less is = absurd (omega arith)
any_at test (suc n) k less is =
    elim (parted k n less) [
      | inl below ↦ ap (λ b. b || test n) (any_at test n k below is)
      | inr e ↦ or_right (any_below test n) (test n) (ap test (sym e) ∙ is)
    ]

-- if none passes, there is none
pub any_never : (test : ℕ → Bool) (n : ℕ) → ((k : ℕ) → k < n → test k ≡ false)
    → any_below test n ≡ false
any_never test zero none = refl
any_never test (suc n) none =
    ap (λ b. b || test n) (any_never test n (λ k less. none k (omega arith))) ∙ none n (omega arith)

-- one number more
pub those_next : (test : ℕ → Bool) (n : ℕ) (numbers more : List ℕ)
    → numbers ≡ those_below test n
    → more ≡ numbers ++ number_if (test n) n
    → more ≡ those_below test (n + 1)
those_next test n numbers more so added =
    rw add-one (added ∙ ap (λ ns. ns ++ number_if (test n) n) so)

-- both tests pass
pub both : (a b : Bool) → a ≡ true → b ≡ true → (a && b) ≡ true
both true b e f = f
both false b e f = e
