-- What the model's steps on a space give, exit by exit.
use Rattle.std.proofs.Common.{◌≡◌, ℕ, true, false, Option, Some, None, Ok, Err, refl, sym, ap, ◌∙◌}
use Rattle.std.specs.Option.{is_some, option_map}
use Rattle.std.specs.Result.{result_unwrap_or}
use Rattle.mrc_base.specs.declared.PortRight.{PortRight}
use Rattle.mrc_base.specs.declared.PortRight.TheVariants.{Send, Receive, SendOnce}
use Rattle.mrc_base.specs.declared.Disp.{Disp}
use Rattle.mrc_model.specs.declared.Entry.{Entry}
use Rattle.mrc_model.specs.declared.Code.TheVariants.{KernNameExists, KernRightExists}
use Rattle.mrc_model.specs.declared.Code.TheVariants.{KernUrefsOverflow, KernNoSpace}
use Rattle.mrc_model.specs.Map.{get, insert}
use Rattle.mrc_model.specs.World.{Space}
use Rattle.mrc_model.specs.Reply.{Try, Refused, ◌>>=◌, ◌>>◌, check, refuse_if, or_refuse}
use Rattle.mrc_model.specs.Space.{Taken, taken, take_from, put_entry, insert_new, insert_joined}
use Rattle.mrc_model.specs.Space.{insert_known, insert_at, is_full, is_other, is_entry_of}
use Rattle.mrc_model.specs.Space.{overflows, joined, new_entry, entry_of}
use Rattle.mrc_model.specs.Target.{bad_name, wrong_right}
use Rattle.mrc_names.specs.Takes.{take_right, taken_port}

-- taking: the name has no entry
pub take_no_name : (x : Space) (n : ℕ) (d : Disp) → get x n ≡ None → take_right x n d ≡ Err bad_name
unfolding take_right ◌>>=◌ or_refuse
take_no_name x n d a = rw a refl

-- the entry lacks the right
pub take_no_right : (x : Space) (n : ℕ) (d : Disp) (e : Entry)
    → get x n ≡ Some e
    → take_from e d ≡ None
    → take_right x n d ≡ Err wrong_right
unfolding take_right ◌>>=◌ or_refuse
take_no_right x n d e a b = rw (a, b) refl

-- the right is taken
pub take_done : (x : Space) (n : ℕ) (d : Disp) (e : Entry) (t : Taken)
    → get x n ≡ Some e
    → take_from e d ≡ Some t
    → take_right x n d ≡ Ok (put_entry x n t.rest, t.port)
unfolding take_right ◌>>=◌ or_refuse
take_done x n d e t a b = rw (a, b) refl

-- putting under an unused name: the space is full
pub new_full : (x : Space) (n p : ℕ) (r : PortRight) (o : Option Entry)
    → is_some o ≡ false
    → is_full x ≡ true
    → insert_new x n p r o ≡ Err (Refused KernNoSpace)
unfolding ◌>>◌ refuse_if
new_full x n p r None a b = rw b refl
new_full x n p r (Some e) a b = cc

-- there is room
pub new_put : (x : Space) (n p : ℕ) (r : PortRight) (o : Option Entry)
    → is_some o ≡ false
    → is_full x ≡ false
    → insert_new x n p r o ≡ Ok (insert x n (new_entry p r))
unfolding ◌>>◌ refuse_if
new_put x n p r None a b = rw b refl
new_put x n p r (Some e) a b = cc

-- joining: the entry is not the port's
pub join_other : (x : Space) (n p : ℕ) (r : PortRight) (e : Entry)
    → is_entry_of p e ≡ false
    → insert_joined x n p r (Some e) ≡ Err (Refused KernNameExists)
unfolding ◌>>◌ refuse_if check
join_other x n p r e a = rw a refl

-- the references would be too many
pub join_over : (x : Space) (n p : ℕ) (r : PortRight) (e : Entry)
    → is_entry_of p e ≡ true
    → overflows e r ≡ true
    → insert_joined x n p r (Some e) ≡ Err (Refused KernUrefsOverflow)
unfolding ◌>>◌ refuse_if check
join_over x n p r e a b = rw (a, b) refl

-- the space is full
pub join_full : (x : Space) (n p : ℕ) (r : PortRight) (e : Entry)
    → is_entry_of p e ≡ true
    → overflows e r ≡ false
    → is_full x ≡ true
    → insert_joined x n p r (Some e) ≡ Err (Refused KernNoSpace)
unfolding ◌>>◌ refuse_if check
join_full x n p r e a b f = rw (a, b, f) refl

-- the right joins
pub join_done : (x : Space) (n p : ℕ) (r : PortRight) (e : Entry)
    → is_entry_of p e ≡ true
    → overflows e r ≡ false
    → is_full x ≡ false
    → insert_joined x n p r (Some e) ≡ Ok (insert x n (joined e r))
unfolding ◌>>◌ refuse_if check
join_done x n p r e a b f = rw (a, b, f) refl

-- putting under a chosen name: a send-once right wants an unused one
pub at_once : (x : Space) (n p : ℕ) → insert_at x n p SendOnce ≡ insert_new x n p SendOnce (get x n)
unfolding insert_at
at_once x n p = refl

-- the port has another name
known_other : (x : Space) (n p : ℕ) (r : PortRight)
    → is_other n (entry_of x p) ≡ true
    → insert_known x n p r ≡ Err (Refused KernRightExists)
unfolding ◌>>◌ refuse_if
known_other x n p r a = rw a refl

-- the port has no other name
known_same : (x : Space) (n p : ℕ) (r : PortRight)
    → is_other n (entry_of x p) ≡ false
    → insert_known x n p r ≡ insert_joined x n p r (get x n)
unfolding ◌>>◌ refuse_if
known_same x n p r a = rw a refl

-- the same for a right that is not send-once: another name refuses it
pub at_other : (x : Space) (n p : ℕ) (r : PortRight)
    → (r ≡ SendOnce → ⊥)
    → is_other n (entry_of x p) ≡ true
    → insert_at x n p r ≡ Err (Refused KernRightExists)
unfolding insert_at
at_other x n p Send u a = known_other x n p Send a
at_other x n p Receive u a = known_other x n p Receive a
at_other x n p SendOnce u a = absurd (u refl)

-- and else it may join
pub at_known : (x : Space) (n p : ℕ) (r : PortRight)
    → (r ≡ SendOnce → ⊥)
    → is_other n (entry_of x p) ≡ false
    → insert_at x n p r ≡ insert_joined x n p r (get x n)
unfolding insert_at
at_known x n p Send u a = known_same x n p Send a
at_known x n p Receive u a = known_same x n p Receive a
at_known x n p SendOnce u a = absurd (u refl)

-- what a disposition takes, from what code tells
pub taken_none : (o : Option (ℕ × Option Entry)) (m : Option Taken)
    → option_map (λ (t : ℕ × Option Entry). taken t.0 t.1) o ≡ m
    → o ≡ None
    → m ≡ None
taken_none o m h e = sym h ∙ ap (option_map (λ (t : ℕ × Option Entry). taken t.0 t.1)) e

-- what code took is what the definition takes
pub taken_some : (o : Option (ℕ × Option Entry)) (m : Option Taken) (p : ℕ) (left : Option Entry)
    → option_map (λ (t : ℕ × Option Entry). taken t.0 t.1) o ≡ m
    → o ≡ Some (p, left)
    → m ≡ Some (taken p left)
taken_some o m p left h e = sym h ∙ ap (option_map (λ (t : ℕ × Option Entry). taken t.0 t.1)) e

-- the same for a right that is known to be send-once
pub at_sent_once : (x : Space) (n p : ℕ) (r : PortRight)
    → r ≡ SendOnce
    → insert_at x n p r ≡ insert_new x n p r (get x n)
at_sent_once x n p r e = rw e (at_once x n p)

-- a right and what is left of its entry, from what each step of code tells
pub parted : (x : Space) (n q : ℕ) (d : Disp) (e : Entry) (o : Option (ℕ × Option Entry))
    (left : Option Entry)
    → get x n ≡ Some e
    → option_map (λ (t : ℕ × Option Entry). taken t.0 t.1) o ≡ take_from e d
    → o ≡ Some (q, left)
    → take_right x n d ≡ Ok (put_entry x n left, q)
parted x n q d e o left has what is =
    take_done x n d e (taken q left) has (taken_some o _ q left what is)

-- its port alone
pub port_parted : (x : Space) (n : ℕ) (d : Disp) (y : Space) (p : ℕ)
    → take_right x n d ≡ Ok (y, p)
    → taken_port x n d ≡ Ok p
unfolding taken_port ◌>>=◌
port_parted x n d y p is = rw is refl

-- a right whose port is told can be taken
pub port_of_taken : (x : Space) (n p : ℕ) (d : Disp)
    → taken_port x n d ≡ Ok p
    → (y : Space) × (take_right x n d ≡ Ok (y, p))
unfolding taken_port ◌>>=◌
port_of_taken x n p d told = go (take_right x n d) told
  where
    go : (m : Try (Space × ℕ)) → (m >>= λ (y, q). Ok q) ≡ Ok p → (y : Space) × (m ≡ Ok (y, p))
    go (Ok got) is = (got.0, ap (λ r. Ok (got.0, result_unwrap_or r 0)) is)
    go (Err e) is = cc

-- it is the port of the right that is taken
pub same_port : (x y : Space) (n p q : ℕ) (d : Disp)
    → taken_port x n d ≡ Ok p
    → take_right x n d ≡ Ok (y, q)
    → take_right x n d ≡ Ok (y, p)
same_port x y n p q d told took =
    took ∙ ap (λ r. Ok (y, result_unwrap_or r 0)) (sym (port_parted x n d y q took) ∙ told)
