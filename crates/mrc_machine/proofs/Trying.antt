-- Steps that may be refused, one after the other: in whichever way they stand together.
use Rattle.std.proofs.Common.{◌≡◌, Result, Ok, Err, refl, sym, ap, ◌∙◌, subst}
use Rattle.std.specs.Prelude.{IsOk, IfOk, IfErr, OnErr, IsErrAnd}
use Rattle.std.specs.Result.{result_unwrap_or}
use Rattle.mrc_base.specs.declared.memory.OrMemory.{OrMemory}
use Rattle.mrc_base.specs.declared.memory.OrMemory.TheVariants.{Fault, Memory}
use Rattle.mrc_model.specs.declared.Code.{Code}
use Rattle.mrc_names.specs.Refusals.{IsRefusal}
use Rattle.mrc_machine.specs.declared.refusal.Refusal.{Refusal}
use Rattle.mrc_machine.specs.Calls.{IsRefusedBy, refusal_reply}
use Rattle.mrc_machine.specs.Starts.{IsFaultOf}
use Rattle.mrc_model.specs.Reply.{Reply, Refused, Try, ◌>>=◌, ◌>>◌}

-- three steps, each with what the one before gives
pub bind_bind : {A B C : Type 0} (m : Try A) (f : A → Try B) (g : B → Try C)
    → (m >>= f >>= g) ≡ (m >>= λ a. f a >>= g)
unfolding ◌>>=◌
bind_bind (Ok a) f g = refl
bind_bind (Err e) f g = refl

-- a test, and then two steps
pub then_bind : {A B C : Type 0} (m : Try A) (r : Try B) (g : B → Try C)
    → (m >> r >>= g) ≡ (m >> (r >>= g))
unfolding ◌>>=◌ ◌>>◌
then_bind (Ok a) r g = refl
then_bind (Err e) r g = refl

-- a step that is done
pub ok_bind : {A B : Type 0} (m : Try A) (a : A) (f : A → Try B) → m ≡ Ok a → (m >>= f) ≡ f a
unfolding ◌>>=◌
ok_bind m a f is = rw is refl

-- a step that is refused
pub err_bind : {A B : Type 0} (m : Try A) (f : A → Try B) (e : Reply) → m ≡ Err e → (m
    >>= f) ≡ Err e
unfolding ◌>>=◌
err_bind m f e is = rw is refl

-- a step that is not refused, and then one that never is
pub ok_goes : {A B : Type 0} (m : Try A) (f : A → Try B)
    → ((a : A) → IsOk (f a))
    → IsOk m
    → IsOk (m >>= f)
unfolding ◌>>=◌
ok_goes (Ok a) f total ok = total a
ok_goes (Err e) f total ok = ok

-- what code answers for a call of which a step is the definition's

-- the call goes on with what the step gives
pub goes_on : {A B C E : Type 0} (r : Result A E) (call : Try C) (step : Try B)
    (k : B → Try C) (f : A → B)
    → call ≡ (step >>= k)
    → IfOk r (λ a. step ≡ Ok (f a))
    → IfOk r (λ a. call ≡ k (f a))
goes_on (Ok a) call step k f is done = is ∙ ok_bind step (f a) k done
goes_on (Err e) call step k f is done = tt

-- and is refused where the step is
pub is_refused : {A B C : Type 0} (r : Result A (OrMemory Code)) (call : Try C) (step : Try B)
    (k : B → Try C)
    → ((b : B) → IsOk (k b))
    → call ≡ (step >>= k)
    → IfErr r (λ e. IsRefusal e step)
    → IfErr r (λ e. IsRefusal e call)
is_refused (Ok a) call step k total is refuses = tt
is_refused (Err (Fault code)) call step k total is refuses =
    is ∙ err_bind step k (Refused code) refuses
is_refused (Err Memory) call step k total is refuses =
    subst IsOk (sym is) (ok_goes step k total refuses)

-- the same of calls that are not refused by codes alone
pub is_turned : {A B C : Type 0} (r : Result A (OrMemory Refusal)) (call : Try C) (step : Try B)
    (k : B → Try C)
    → ((b : B) → IsOk (k b))
    → call ≡ (step >>= k)
    → IfErr r (λ e. IsRefusedBy e step)
    → IfErr r (λ e. IsRefusedBy e call)
is_turned (Ok a) call step k total is refuses = tt
is_turned (Err (Fault why)) call step k total is refuses =
    is ∙ err_bind step k (refusal_reply why) refuses
is_turned (Err Memory) call step k total is refuses =
    subst IsOk (sym is) (ok_goes step k total refuses)

-- the same where of memory nothing is said
pub is_fault : {B C : Type 0} (e : OrMemory Code) (call : Try C) (step : Try B) (k : B → Try C)
    → call ≡ (step >>= k)
    → IsFaultOf e step
    → IsFaultOf e call
is_fault (Fault code) call step k is refuses = is ∙ err_bind step k (Refused code) refuses
is_fault Memory call step k is refuses = tt

-- which is less
pub faulty : {A : Type 0} (e : OrMemory Code) (m : Try A) → IsRefusal e m → IsFaultOf e m
faulty (Fault code) m refuses = refuses
faulty Memory m refuses = tt

-- so where memory has no part in it
pub is_refused_by : {A B C : Type 0} (r : Result A Code) (call : Try C) (step : Try B)
    (k : B → Try C)
    → call ≡ (step >>= k)
    → IfErr r (λ code. step ≡ Err (Refused code))
    → IfErr r (λ code. call ≡ Err (Refused code))
is_refused_by (Ok a) call step k is refuses = tt
is_refused_by (Err code) call step k is refuses = is ∙ err_bind step k (Refused code) refuses

-- what is answered is seen another way
pub seen_as : {A B E : Type 0} (r : Result A E) (call : Try B) (f g : A → B)
    → ((a : A) → f a ≡ g a)
    → IfOk r (λ a. call ≡ Ok (f a))
    → IfOk r (λ a. call ≡ Ok (g a))
seen_as (Ok a) call f g same is = is ∙ ap Ok (same a)
seen_as (Err e) call f g same is = tt

-- what follows where all went well
pub if_ok_all : {A E : Type 0} (r : Result A E) (P Q R S : A → Type 0)
    → ((a : A) → P a → Q a → R a → S a)
    → IfOk r P
    → IfOk r Q
    → IfOk r R
    → IfOk r S
if_ok_all (Ok a) P Q R S go p q k = go a p q k
if_ok_all (Err e) P Q R S go p q k = tt

-- memory may run out in a step that is not refused
pub wanting_by : {A T : Type 0} (r : Result T (OrMemory Refusal)) (m : Try A)
    → IsErrAnd r (λ e. e ≡ Memory)
    → IsOk m
    → IfErr r (λ e. IsRefusedBy e m)
wanting_by (Ok t) m is ok = tt
wanting_by (Err e) m is ok = subst (λ k. IsRefusedBy k m) (sym is) ok

-- what holds anyway holds at an error
pub always : {A E P : Type 0} (r : Result A E) → P → OnErr r P
always (Ok a) p = tt
always (Err e) p = p

pub same_Ok : {A E : Type 0} (a b : A) → ◌≡◌ {A = Result A E} (Ok a) (Ok b) → a ≡ b
same_Ok a b is = ap (λ r. result_unwrap_or r a) is

pub not_Err : {A E : Type 0} (a : A) (e : E) → ◌≡◌ {A = Result A E} (Ok a) (Err e) → ⊥
not_Err a e is = cc
