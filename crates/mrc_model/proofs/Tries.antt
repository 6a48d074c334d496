-- What a step that may be refused gives where it is not.
use Rattle.std.proofs.Common.{◌≡◌, Bool, true, false, Option, Some, None, Ok, Err, refl}
use Rattle.mrc_model.specs.Reply.{Try, Reply, ◌>>=◌, ◌>>◌, check, refuse_if, or_refuse}

-- where the step is not refused, P holds of what it gives
pub record Gives {A : Type 0} (P : A → Type 0) (r : Try A) : Type 0 where
  pub holds : (a : A) → r ≡ Ok a → P a

pub gives_ok : {A : Type 0} {P : A → Type 0} {a : A} → P a → Gives P (Ok a)
gives_ok {A} {P} {a} h = record { holds = λ b e. let is : a ≡ b = cc in rw is at h }

pub gives_err : {A : Type 0} (P : A → Type 0) (e : Reply) → Gives P (Err e)
gives_err P e = record { holds = λ b is. cc }

pub bind : {A B : Type 0} {Q : A → Type 0} {P : B → Type 0} (m : Try A) (f : A → Try B) → Gives Q m
    → ((a : A) → Q a → Gives P (f a)) → Gives P (m >>= f)
unfolding ◌>>=◌
bind (Ok a) f q k = k a (q.holds a refl)
bind (Err e) f q k = gives_err _ e

pub bind_ : {A B : Type 0} {Q : A → Type 0} {P : B → Type 0} (m : Try A) (r : Try B) → Gives Q m
    → ((a : A) → Q a → Gives P r) → Gives P (m >> r)
unfolding ◌>>◌
bind_ (Ok a) f q k = k a (q.holds a refl)
bind_ (Err e) f q k = gives_err _ e

pub checked : (b : Bool) (e : Reply) → Gives (λ _. b ≡ true) (check b e)
unfolding check
checked true e = gives_ok refl
checked false e = gives_err _ e

pub not_refused : (b : Bool) (e : Reply) → Gives (λ _. b ≡ false) (refuse_if b e)
unfolding refuse_if
not_refused true e = gives_err _ e
not_refused false e = gives_ok refl

pub found : {A : Type 0} (o : Option A) (e : Reply) → Gives (λ a. o ≡ Some a) (or_refuse o e)
unfolding or_refuse
found None e = gives_err _ e
found (Some a) e = gives_ok refl

-- of what a step gives nothing need be known
pub any_of : {A : Type 0} (m : Try A) → Gives (λ _. Unit {0}) m
any_of m = record { holds = λ a e. tt }

pub past : {A B : Type 0} {P : B → Type 0} (m : Try A) (f : A → Try B) → ((a : A) → Gives P (f a))
    → Gives P (m >>= f)
past m f next = bind m f (any_of m) (λ a _. next a)

pub past_ : {A B : Type 0} {P : B → Type 0} (m : Try A) (r : Try B) → Gives P r → Gives P (m >> r)
past_ m r next = bind_ m r (any_of m) (λ a _. next)
