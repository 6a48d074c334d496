-- Steps of a reader, and which way a test went.
use Rattle.std.proofs.Common.{◌≡◌, Bool, true, false, cond, Result, Ok, Err, refl, ap, ◌∙◌, inl}
use Rattle.std.proofs.Common.{inr, ◌⊎◌}
use Rattle.std.specs.Result.{result_map_both}
use Rattle.mrc_base.specs.Reading.{◌>>=◌}

-- a step that did not fail, and what follows it
pub bind_again : {A B F : Type 0} (r : Result A F) (f : A → Result B F) (x : A)
    → r ≡ Ok x
    → (r >>= f) ≡ f x
bind_again (Ok a) f x e = let same : a ≡ x = cc in rw same refl
bind_again (Err fault) f x e = absurd cc

-- which way a test went
pub chosen : {A : Type 0} (b : Bool) (x y z : A)
    → cond b x y ≡ z
    → ((b ≡ true) × (x ≡ z)) ⊎ ((b ≡ false) × (y ≡ z))
chosen true x y z e = inl (refl, e)
chosen false x y z e = inr (refl, e)

-- a pair whose first part is another name of the same
pub first_same : {A B : Type 0} (a a' : A) (b : B) (x : A × B)
    → a ≡ a'
    → ◌≡◌ {A = A × B} (a', b) x
    → ◌≡◌ {A = A × B} (a, b) x
first_same {A} {B} a a' b x e h = ap (λ (y : A). (y, b)) e ∙ h

-- a view of the same is the same
pub seen : {A B F : Type 0} (view : A → B) (r s : Result A F)
    → r ≡ s
    → result_map_both view (λ fault. fault) r ≡ result_map_both view (λ fault. fault) s
seen view r s e = ap (result_map_both view (λ fault. fault)) e

-- where a view of it is a value, there is a value
pub seen_ok : {A B F : Type 0} (view : A → B) (r : Result A F) (y : B)
    → Ok y ≡ result_map_both view (λ fault. fault) r
    → (x : A) × (r ≡ Ok x) × (view x ≡ y)
seen_ok view (Ok x) y e = (x, refl, cc)
seen_ok view (Err fault) y e = absurd cc
