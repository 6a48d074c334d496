-- Steps that follow each other, as a loop makes them.
use Rattle.std.proofs.Common.{◌≡◌, ℕ, zero, suc, ◌+◌, ◌-◌, ◌<◌, ◌≤◌, Bool, true, false, Result, Ok}
use Rattle.std.proofs.Common.{refl, arith}
use Rattle.mrc_base.specs.Reading.{◌>>=◌}
use Rattle.mrc_mig_symbols.specs.declared.fault.Stop.{Stop}
use Rattle.mrc_mig_tokens.specs.Reading.{many}

-- no step is made where the test fails
pub many_ends : {A : Type 0} (goes : A → Bool) (step : A → Result A Stop) (n : ℕ) (a : A)
    → goes a ≡ false → many goes step n a ≡ Ok a
unfolding many
many_ends goes step zero a e = refl
many_ends goes step (suc n) a e = rw e refl

-- one step, and those that are left
pub many_goes_on : {A : Type 0} (goes : A → Bool) (step : A → Result A Stop) (count i : ℕ) (a : A)
    → i < count → goes a ≡ true
    → many goes step (count - i) a ≡ (step a >>= λ b. many goes step (count - (i + 1)) b)
unfolding many
many_goes_on goes step count i a lt e = let k : count - i ≡ suc (count - (i + 1)) = omega arith in
    rw (k, e) refl

-- no step is left
pub many_done : {A : Type 0} (goes : A → Bool) (step : A → Result A Stop) (count i : ℕ) (a : A)
    → count ≤ i → many goes step (count - i) a ≡ Ok a
unfolding many
many_done goes step count i a le = let k : count - i ≡ 0 = omega arith in rw k refl
