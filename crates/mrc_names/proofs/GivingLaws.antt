-- What giving a right to a space comes to, exit by exit.
use Rattle.std.proofs.Common.{◌≡◌, ℕ, ◌+◌, Bool, true, false, Option, Some, None, Ok, Err}
use Rattle.std.proofs.Common.{inl, inr, refl, sym, ◌∙◌, ap, arith}
use Rattle.std.specs.Prelude.{IfSome, IfNone}
use Rattle.std.proofs.lemmas.Bool.{leb-true, leb-false, lt-ltb, le-ltb, cases_Bool}
use Rattle.mrc_base.specs.declared.PortRight.{PortRight}
use Rattle.mrc_base.specs.declared.PortRight.TheVariants.{Send, Receive, SendOnce}
use Rattle.mrc_model.specs.declared.Entry.{Entry}
use Rattle.mrc_model.specs.declared.Code.TheVariants.{KernNoSpace}
use Rattle.mrc_model.specs.Map.{get, insert, len}
use Rattle.mrc_model.specs.World.{Space}
use Rattle.mrc_model.specs.Reply.{Try, Refused, ◌>>◌, refuse_if}
use Rattle.mrc_model.specs.Space.{is_full, is_over_full, unused, new_entry, joined, entry_of}
use Rattle.mrc_model.specs.Space.{place_at, place_new, Placed}
use Rattle.mrc_model.proofs.Maps.{at_or_0, len-insert}
use Rattle.mrc_model.proofs.Spaces.{get-unused}
use Rattle.mrc_names.specs.Bounds.{IsBounded}
use Rattle.mrc_names.specs.Takes.{add_entry, give_new, give_right}
use Rattle.mrc_names.proofs.BoundLaws.{same_len, found_used}

-- a full space takes no new name
pub new_refused : (x : Space) (p : ℕ) (r : PortRight)
    → is_full x ≡ true
    → give_new x p r ≡ Err (Refused KernNoSpace)
unfolding give_new ◌>>◌ refuse_if
new_refused x p r full = rw full refl

-- one that is not full does
pub new_given : (x : Space) (p : ℕ) (r : PortRight)
    → is_full x ≡ false
    → give_new x p r ≡ Ok (insert x (unused x) (new_entry p r), unused x)
unfolding give_new ◌>>◌ refuse_if
new_given x p r room = rw room refl

-- a new name makes a full space too large, and no other
pub over_full : (x : Space) (e : Entry) → is_over_full (insert x (unused x) e) ≡ is_full x
over_full x e =
    let none : at_or_0 (λ q (y : Entry). 1) (unused x) (get x (unused x)) ≡ 0 =
    ap (at_or_0 (λ q y. 1) (unused x)) (get-unused x) in
    let grown : len (insert x (unused x) e) ≡ len x + 1 =
    omega (arith, none, len-insert x (unused x) e) in
    elim (cases_Bool (is_full x)) [
      | inl full ↦
          lt-ltb 4096 (len (insert x (unused x) e)) (omega (arith, leb-true 4096 (len x) full))
          ∙ sym full
      | inr room ↦
          le-ltb 4096 (len (insert x (unused x) e)) (omega (arith, leb-false 4096 (len x) room))
          ∙ sym room
    ]

-- the space and the name, unless the space has too many entries
unfoldable placed : Placed → Try (Space × ℕ)
placed y = do
  refuse_if (is_over_full y.space) (Refused KernNoSpace)
  Ok (y.space, y.name)

-- a right that takes a new name
at_new : (x : Space) (p : ℕ) (r : PortRight) → placed (place_new x p r) ≡ give_new x p r
unfolding give_new placed
at_new x p r =
    let go : Bool → Try (Space × ℕ) = λ b.
    refuse_if b (Refused KernNoSpace) >> Ok ((place_new x p r).space, (place_new x p r).name) in
    ap go (over_full x (new_entry p r))

-- a send-once right takes a new name
pub given_once : (x : Space) (p : ℕ) (r : PortRight)
    → r ≡ SendOnce
    → give_right x p r ≡ give_new x p r
unfolding give_right placed
given_once x p r is = rw is (at_new x p SendOnce)

-- so does a right on a port that has no entry
pub given_unknown : (x : Space) (p : ℕ) (r : PortRight)
    → (r ≡ SendOnce → ⊥)
    → entry_of x p ≡ None
    → give_right x p r ≡ give_new x p r
unfolding give_right placed
given_unknown x p Send other none = rw none (at_new x p Send)
given_unknown x p Receive other none = rw none (at_new x p Receive)
given_unknown x p SendOnce other none = absurd (other refl)

-- a right that joins an entry leaves the space's size
joins : (x : Space) (p : ℕ) (r : PortRight) (f : ℕ × Entry)
    → IsBounded x
    → entry_of x p ≡ Some f
    → is_over_full (insert x f.0 (joined f.1 r)) ≡ false
joins x p r f b is =
    let same = same_len x f.0 (joined f.1 r) (get x f.0) refl (found_used x p f is) in
    let few = b.few in
    le-ltb 4096 (len (insert x f.0 (joined f.1 r))) (omega arith)

-- where the port has an entry the right joins it
at_join : (x : Space) (p : ℕ) (r : PortRight) (f : ℕ × Entry) (o : Option (ℕ × Entry))
    → IsBounded x
    → entry_of x p ≡ Some f
    → o ≡ Some f
    → placed (place_at x p r o) ≡ Ok (insert x f.0 (joined f.1 r), f.0)
unfolding placed ◌>>◌ refuse_if
at_join x p r f o b is found = rw found (rw (joins x p r f b is) refl)

-- so a send or receive right is given under the entry's name
pub given_joined : (x : Space) (p : ℕ) (r : PortRight) (f : ℕ × Entry)
    → IsBounded x
    → (r ≡ SendOnce → ⊥)
    → entry_of x p ≡ Some f
    → give_right x p r ≡ Ok (insert x f.0 (joined f.1 r), f.0)
unfolding give_right placed
given_joined x p Send f b other is = at_join x p Send f (entry_of x p) b is is
given_joined x p Receive f b other is = at_join x p Receive f (entry_of x p) b is is
given_joined x p SendOnce f b other is = absurd (other refl)

-- the entry that a right joins, as code finds it
pub join_cases : (o : Option (ℕ × Entry)) (x : Space) (p : ℕ) (r : PortRight)
    → o ≡ entry_of x p
    → (r ≡ SendOnce → ⊥)
    → IfSome o (λ held. (r ≡ SendOnce → ⊥) × (entry_of x p ≡ Some held))
    × IfNone o (give_right x p r ≡ give_new x p r)
join_cases None x p r is other = (tt, given_unknown x p r other (sym is))
join_cases (Some f) x p r is other = ((other, sym is), tt)

-- a new name, from what each step of code tells
pub given_as_new : (x y : Space) (p : ℕ) (r : PortRight) (name : ℕ) (e : Entry)
    → is_full x ≡ false
    → name ≡ unused x
    → e ≡ new_entry p r
    → y ≡ insert x name e
    → give_new x p r ≡ Ok (y, name)
given_as_new x y p r name e room least entry put =
    let kept : insert x name e ≡ insert x (unused x) (new_entry p r) =
    ap (λ k. insert x k e) least ∙ ap (insert x (unused x)) entry in
    new_given x p r room ∙ ap (λ z. Ok (z, unused x)) (sym (put ∙ kept))
    ∙ ap (λ n. Ok (y, n)) (sym least)

-- an entry that is added, from what each step of code tells
pub add_refused : (x : Space) (e : Entry)
    → is_full x ≡ true
    → add_entry x e ≡ Err (Refused KernNoSpace)
unfolding add_entry ◌>>◌ refuse_if
add_refused x e full = rw full refl

pub added : (x y : Space) (name : ℕ) (e : Entry)
    → is_full x ≡ false
    → name ≡ unused x
    → y ≡ insert x name e
    → add_entry x e ≡ Ok (y, name)
unfolding add_entry ◌>>◌ refuse_if
added x y name e room least put =
    let done : add_entry x e ≡ Ok (insert x (unused x) e, unused x) = rw room refl in
    done ∙ ap (λ n. Ok (insert x n e, n)) (sym least) ∙ ap (λ z. Ok (z, name)) (sym put)
