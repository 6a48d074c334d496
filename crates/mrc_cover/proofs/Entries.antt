-- What is left of an entry from which a right was taken or dropped.
use Rattle.std.proofs.Common.{Bool, List, None, Option, Some, [], arith, false, if◌then◌else◌}
use Rattle.std.proofs.Common.{nat_lt, refl, subst, sym, true, ℕ, ◌+◌, ◌-◌, ◌<◌, ◌==◌, ◌∷◌, ◌≡◌}
use Rattle.std.proofs.lemmas.Bool.{lt-ltb, ltb-true}
use Rattle.mrc_base.specs.Disposition.{given, needed}
use Rattle.mrc_base.specs.declared.Disp.{Disp}
use Rattle.mrc_base.specs.declared.Disp.TheVariants.{CopySend, MakeSend, MakeSendOnce, MoveReceive}
use Rattle.mrc_base.specs.declared.Disp.TheVariants.{MoveSend, MoveSendOnce}
use Rattle.mrc_base.specs.declared.PortRight.{PortRight}
use Rattle.mrc_base.specs.declared.PortRight.TheVariants.{Receive, Send}
use Rattle.mrc_model.proofs.Maps.{not_None, same_Some}
use Rattle.mrc_model.specs.Covers.{Known, KnownAt}
use Rattle.mrc_model.specs.Death.{has}
use Rattle.mrc_model.specs.Space.{Taken, dead_entry, is_entry_of, send_entry, take_from}
use Rattle.mrc_model.specs.World.{Held, entry_rights, if_sends, receives}
use Rattle.mrc_model.specs.declared.Entry.{Entry}
use Rattle.mrc_model.specs.declared.Entry.TheVariants.{DeadName as DeadEntry, SendOnce as OnceEntry}
use Rattle.mrc_model.specs.declared.Entry.TheVariants.{Receive as ReceiveEntry, Send as SendEntry}
use Rattle.mrc_model.specs.declared.Entry.TheVariants.{PortSet as SetEntry}
use Rattle.mrc_cover.proofs.Rights.{Known-append, Known-first, Known-second, right_on}

-- the rights of a name that may have nothing left
abbrev pub rights_left : Option Entry → List Held
rights_left None = []
rights_left (Some e) = entry_rights e

-- send references that are left show a send right, as long as there is one
pub rights-send_entry : (p k : ℕ) → rights_left (send_entry p k) ≡ if_sends k p
rights-send_entry p k =
    elim (nat_lt 0 k) as (λ b. rights_left (if b then Some (SendEntry p k) else None)
    ≡ (if b then right_on p Send ∷ [] else [])) [
      | true ↦ refl
      | false ↦ refl
    ]

-- what is left of a dead name shows no right
pub rights-dead_entry : (k : ℕ) → rights_left (dead_entry k) ≡ []
rights-dead_entry k =
    elim (nat_lt 0 k) as (λ b. rights_left (if b then Some (DeadEntry k) else None) ≡ []) [
      | true ↦ refl
      | false ↦ refl
    ]

-- send rights are no receive right
pub receives-if_sends : (q k p : ℕ) → receives q (if_sends k p) ≡ 0
receives-if_sends q k p =
    elim (nat_lt 0 k) as (λ b. receives q (if b then right_on p Send ∷ [] else []) ≡ 0) [
      | true ↦ refl
      | false ↦ refl
    ]

-- what is left of an entry shows none but its rights, and names none but its port
pub record IsLeft (k : ℕ → Option ℕ) (F : ℕ → PortRight
    → Type 0) (e : Entry) (rest : Option Entry) : Type 0 where
  pub known : Known k F (entry_rights e) → Known k F (rights_left rest)
  pub names : (f : Entry) → rest ≡ Some f → (p : ℕ) → is_entry_of p f ≡ true
      → is_entry_of p e ≡ true

-- what is left of an entry and what was taken are together the entry, and it had the right that the
-- disposition needs
pub record IsTaken (k : ℕ → Option ℕ) (F : ℕ → PortRight
    → Type 0) (e : Entry) (x : Disp) (got : Taken) : Type 0 where
  pub part : IsLeft k F e got.rest
  pub count : (q : ℕ)
      → receives q (rights_left got.rest) + receives q (right_on got.port (given x) ∷ [])
      ≡ receives q (entry_rights e)
  pub had : Known k F (entry_rights e) → KnownAt k F (right_on got.port (needed x))

-- what a guarded value says of its guard
pub if_some : {A : Type 0} (b : Bool) (a x : A) → (if b then Some a else None) ≡ Some x
    → (b ≡ true) × (a ≡ x)
if_some true a x e = (refl, same_Some a x e)
if_some false a x e = absurd (not_None x (sym e))

-- a number is above 0 where one less than it is
pub positive_if_less_is : (n : ℕ) → nat_lt 0 (n - 1) ≡ true → nat_lt 0 n ≡ true
positive_if_less_is n e = let a : 0 < n - 1 = ltb-true 0 (n - 1) e in lt-ltb 0 n (omega arith)

module _ (k : ℕ → Option ℕ) (F : ℕ → PortRight → Type 0) where
  -- a send right is known where the entry had it
  sends_known : (p n m : ℕ) → (nat_lt 0 m ≡ true → nat_lt 0 n ≡ true) → Known k F (if_sends n p)
      → Known k F (if_sends m p)
  sends_known p n m h known =
      let go : (b : Bool) → nat_lt 0 m ≡ b
      → Known k F (if b then right_on p Send ∷ [] else []) = elim [
        | true ↦ λ e. rw (h e) at known
        | false ↦ λ e. record { all = tt }
      ] in
      go (nat_lt 0 m) refl

  -- the receive right, with no send reference where there was none
  pub receive_is_left : (p n m : ℕ) (i j : Option ℕ) → (nat_lt 0 m ≡ true → nat_lt 0 n ≡ true)
      → IsLeft k F (ReceiveEntry p n i) (Some (ReceiveEntry p m j))
  receive_is_left p n m i j h = record {
    known = λ known. Known-append (Known-first (right_on p Receive ∷ []) (if_sends n p) known)
        (sends_known p n m h (Known-second (right_on p Receive ∷ []) (if_sends n p) known));
    names = λ f is q e. rw (sym (same_Some (ReceiveEntry p m j) f is)) at e;
  }

  -- what is left with send references alone names the port
  names_send : (p m : ℕ) (f : Entry) → send_entry p m ≡ Some f → (q : ℕ) → is_entry_of q f ≡ true
      → (p == q) ≡ true
  names_send p m f is q e =
      let (has, same) = if_some (nat_lt 0 m) (SendEntry p m) f is in rw (sym same) at e

  -- the send references alone
  pub sends_are_left : (p n m : ℕ) (i : Option ℕ) → (nat_lt 0 m ≡ true → nat_lt 0 n ≡ true)
      → IsLeft k F (ReceiveEntry p n i) (send_entry p m)
  sends_are_left p n m i h = record {
    known =
        λ known. rw rights-send_entry
        (sends_known p n m h (Known-second (right_on p Receive ∷ []) (if_sends n p) known));
    names = λ f is q e. names_send p m f is q e;
  }

  -- some of the send references
  pub send_is_left : (p n m : ℕ) → IsLeft k F (SendEntry p n) (send_entry p m)
  send_is_left p n m = record {
    known = λ known.
        let go : (b : Bool) → Known k F (if b then right_on p Send ∷ [] else []) =
        elim [ true ↦ known | false ↦ record { all = tt } ] in
        rw rights-send_entry (go (nat_lt 0 m));
    names = λ f is q e. names_send p m f is q e;
  }

  -- the whole entry
  pub all_is_left : (e : Entry) → IsLeft k F e (Some e)
  all_is_left e =
      record { known = λ h. h; names = λ f is p g. let same : f ≡ e = cc in rw same at g }

  -- nothing at all
  pub nothing_is_left : (e : Entry) → IsLeft k F e None
  nothing_is_left e =
      record { known = λ h. record { all = tt }; names = λ f is p g. absurd (not_None f (sym is)) }

  -- a receive entry with a send reference has a send right
  pub had_send : (p n : ℕ) (i : Option ℕ) → nat_lt 0 n ≡ true
      → Known k F (entry_rights (ReceiveEntry p n i))
      → KnownAt k F (right_on p Send)
  had_send p n i has known =
      (rw has at (Known-second (right_on p Receive ∷ []) (if_sends n p) known)).all.0

  -- each of the six dispositions, at each kind of entry
  pub take_from_takes : (e : Entry) (x : Disp) (got : Taken) → take_from e x ≡ Some got
      → IsTaken k F e x got
  take_from_takes (ReceiveEntry p n i) MoveReceive got is =
      subst (IsTaken k F (ReceiveEntry p n i) MoveReceive)
      (same_Some _ _ is) record {
        part = sends_are_left p n n i (λ z. z);
        count = λ q. rw rights-send_entry (omega arith);
        had = λ h. h.all.0;
      }
  take_from_takes (ReceiveEntry p n i) MoveSend got is =
      let (has, same) = if_some (nat_lt 0 n) _ got is in
      subst (IsTaken k F (ReceiveEntry p n i) MoveSend) same record {
        part = receive_is_left p n (n - 1) i i (positive_if_less_is n);
        count =
            λ q. let a = receives-if_sends q
            (n - 1) p in let b = receives-if_sends q n p in omega arith;
        had = had_send p n i has;
      }
  take_from_takes (ReceiveEntry p n i) MoveSendOnce got is = absurd (not_None got (sym is))
  take_from_takes (ReceiveEntry p n i) CopySend got is =
      let (has, same) = if_some (nat_lt 0 n) _ got is in
      subst (IsTaken k F (ReceiveEntry p n i) CopySend) same record {
        part = all_is_left (ReceiveEntry p n i);
        count = λ q. omega arith;
        had = had_send p n i has;
      }
  take_from_takes (ReceiveEntry p n i) MakeSend got is =
      subst (IsTaken k F (ReceiveEntry p n i) MakeSend) (same_Some _ _ is) record {
        part = all_is_left (ReceiveEntry p n i);
        count = λ q. omega arith;
        had = λ h. h.all.0;
      }
  take_from_takes (ReceiveEntry p n i) MakeSendOnce got is =
      subst (IsTaken k F (ReceiveEntry p n i) MakeSendOnce)
      (same_Some _ _ is) record {
        part = all_is_left (ReceiveEntry p n i);
        count = λ q. omega arith;
        had = λ h. h.all.0;
      }
  take_from_takes (SendEntry p n) MoveReceive got is = absurd (not_None got (sym is))
  take_from_takes (SendEntry p n) MoveSend got is =
      subst (IsTaken k F (SendEntry p n) MoveSend) (same_Some _ _ is) record {
        part = send_is_left p n (n - 1);
        count = λ q. rw rights-send_entry (let a = receives-if_sends q (n - 1) p in omega arith);
        had = λ h. h.all.0;
      }
  take_from_takes (SendEntry p n) MoveSendOnce got is = absurd (not_None got (sym is))
  take_from_takes (SendEntry p n) CopySend got is =
      subst (IsTaken k F (SendEntry p n) CopySend) (same_Some _ _ is) record {
        part = all_is_left (SendEntry p n);
        count = λ q. omega arith;
        had = λ h. h.all.0;
      }
  take_from_takes (SendEntry p n) MakeSend got is = absurd (not_None got (sym is))
  take_from_takes (SendEntry p n) MakeSendOnce got is = absurd (not_None got (sym is))
  take_from_takes (OnceEntry p) MoveReceive got is = absurd (not_None got (sym is))
  take_from_takes (OnceEntry p) MoveSend got is = absurd (not_None got (sym is))
  take_from_takes (OnceEntry p) MoveSendOnce got is =
      subst (IsTaken k F (OnceEntry p) MoveSendOnce) (same_Some _ _ is) record {
        part = nothing_is_left (OnceEntry p);
        count = λ q. refl;
        had = λ h. h.all.0;
      }
  take_from_takes (OnceEntry p) CopySend got is = absurd (not_None got (sym is))
  take_from_takes (OnceEntry p) MakeSend got is = absurd (not_None got (sym is))
  take_from_takes (OnceEntry p) MakeSendOnce got is = absurd (not_None got (sym is))
  take_from_takes SetEntry x got is = absurd (not_None got (sym is))
  take_from_takes (DeadEntry n) x got is = absurd (not_None got (sym is))

-- fewer references to a dead port
pub dead_is_left : (k : ℕ → Option ℕ) (F : ℕ → PortRight → Type 0) (n m : ℕ)
    → IsLeft k F (DeadEntry n) (dead_entry m)
dead_is_left k F n m = record {
  known = λ h. rw rights-dead_entry h;
  names =
      λ f is p g. let (has, same) = if_some (nat_lt 0 m) (DeadEntry m) f is in rw (sym same) at g;
}
