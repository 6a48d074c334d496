-- One step after another: what the answer of the whole tells of each step, and how a refusal goes
-- through the steps behind it.
use Rattle.std.proofs.Common.{◌≡◌, Bool, true, false, cond, Option, Some, None, Result, Ok, Err}
use Rattle.std.proofs.Common.{refl, ap, subst, ◌∙◌}
use Rattle.std.specs.Prelude.{IfOk}
use Rattle.std.specs.Option.{ok_or}
use Rattle.mrc_base.specs.declared.memory.OrMemory.{OrMemory}
use Rattle.mrc_base.specs.declared.memory.OrMemory.TheVariants.{Fault, Memory}
use Rattle.mrc_base.specs.Reading.{◌>>=◌, Refuses, Gives}

-- where the whole has a value, the first step has one, and the others go on from it
pub bind_ok : {A B F : Type 0} (r : Result A F) (f : A → Result B F) (y : B)
    → (r >>= f) ≡ Ok y
    → (x : A) × (r ≡ Ok x) × (f x ≡ Ok y)
bind_ok (Ok x) f y e = (x, refl, e)
bind_ok (Err fault) f y e = absurd cc

-- a step that has a value goes on from it
pub bind_to : {A B F : Type 0} (r : Result A F) (x : A) (f : A → Result B F) (y : Result B F)
    → r ≡ Ok x
    → f x ≡ y
    → (r >>= f) ≡ y
bind_to {A = A} {F = F} r x f y e h = ap (λ (s : Result A F). s >>= f) e ∙ h

-- a test that lets pass, where the whole has a value
pub passed : {A F : Type 0} (b : Bool) (fault : F) (r : Result A F) (y : A)
    → cond b r (Err fault) ≡ Ok y
    → (b ≡ true) × (r ≡ Ok y)
passed true fault r y e = (refl, e)
passed false fault r y e = absurd cc

-- a test that stops, where the whole has a value
pub not_stopped : {A F : Type 0} (b : Bool) (fault : F) (r : Result A F) (y : A)
    → cond b (Err fault) r ≡ Ok y
    → (b ≡ false) × (r ≡ Ok y)
not_stopped true fault r y e = absurd cc
not_stopped false fault r y e = (refl, e)

-- what there is, where its want would have been the fault
pub ok_or_is : {A F : Type 0} (o : Option A) (fault : F) (x : A) → ok_or o fault ≡ Ok x → o ≡ Some x
ok_or_is None fault x e = absurd cc
ok_or_is (Some y) fault x e = cc

-- a value as an answer that may be a fault
abbrev done : {A F : Type 0} → A → Result A F
done x = Ok x

-- one answer is one value
pub ok_is : {A F : Type 0} (x y : A) → done {A = A} {F = F} x ≡ done y → x ≡ y
ok_is x y e = cc

-- and no answer is a fault and a value
pub err_is_ok : {A F P : Type 0} (fault : F) (x : A) → Err fault ≡ done x → P
err_is_ok fault x e = absurd cc

-- a refusal of a step is one of the whole
pub refuses_then : {A B F : Type 0} (refusal : OrMemory F) (r : Result A F) (f : A → Result B F)
    → Refuses refusal r
    → Refuses refusal (r >>= f)
refuses_then (Fault fault) r f h = ap (λ s. s >>= f) h
refuses_then Memory r f h = tt

-- and of whatever is the same
pub refuses_same : {B F : Type 0} (refusal : OrMemory F) (r s : Result B F)
    → r ≡ s
    → Refuses refusal r
    → Refuses refusal s
refuses_same refusal r s same h = subst (Refuses refusal) same h

-- what holds of what is given holds of what is answered
pub gives_ok : {A B F : Type 0} (P : B → Type 0) (view : A → B)
    (r : Result A (OrMemory F)) (given : Result B F)
    → ((y : B) → given ≡ Ok y → P y)
    → Gives view r given
    → IfOk r (λ x. P (view x))
gives_ok P view (Ok x) given holds gives = holds (view x) gives
gives_ok P view (Err refusal) given holds gives = tt

-- what is given is given by whatever is the same
pub gives_same : {A B F : Type 0} (view : A → B)
    (r : Result A (OrMemory F)) (given other : Result B F)
    → given ≡ other
    → Gives view r given
    → Gives view r other
gives_same view r given other same gives = subst (Gives view r) same gives
