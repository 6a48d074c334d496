-- deallocate, destroy and mod_refs keep a world well formed and covered. Rights are destroyed, and
-- with them ports may die. New are only the notices on queues, of which those of a destroyed
-- receive right carry it (Noticing).
use Rattle.std.proofs.Common.{Bool, Err, None, Ok, Option, Some, [], ap, arith, false}
use Rattle.std.proofs.Common.{if◌then◌else◌, inl, inr, nat_lt, negsuc, pos, refl, subst, sym, true}
use Rattle.std.proofs.Common.{List, ◌∷◌, ◌∙◌, ℕ, ℤ, ◌+◌, ◌-◌, ◌==◌, ◌≡◌, ◌≤◌}
use Rattle.std.proofs.Math.Nat.{le_trans}
use Rattle.std.proofs.lemmas.Bool.{cases_eq}
use Rattle.mrc_base.specs.declared.Fact.TheVariants.{Hold}
use Rattle.mrc_base.specs.declared.PortRight.{PortRight}
use Rattle.mrc_base.specs.declared.PortRight.TheVariants.{Receive}
use Rattle.mrc_base.specs.declared.Right.{Right}
use Rattle.mrc_model.proofs.KeptCalls.{same_entry}
use Rattle.mrc_model.proofs.Maps.{len-alter_all, not_None, same_Some}
use Rattle.mrc_model.proofs.Spaces.{space-set_other, space-set_same}
use Rattle.mrc_model.proofs.Tries.{Gives, bind, bind_, checked, found, gives_err, gives_ok}
use Rattle.mrc_model.specs.CallDeallocate.{Change, DestroysEntry, DestroysReceive, Remains}
use Rattle.mrc_model.specs.CallDeallocate.{call_deallocate, call_destroy, changed, drop_one}
use Rattle.mrc_model.specs.CallModRefs.{by_one, call_mod_refs, change_refs, new_refs, plus}
use Rattle.mrc_model.specs.Covers.{HasOneName, Known}
use Rattle.mrc_model.specs.Death.{destroy}
use Rattle.mrc_model.specs.Destroyed.{EntryOf, ReceiveOf, destroyed, entry_out, destroy_out}
use Rattle.mrc_model.specs.Destroyed.{receive_out}
use Rattle.mrc_model.specs.Map.{get, len}
use Rattle.mrc_model.specs.Reply.{Refused}
use Rattle.mrc_model.specs.Rules.{FactSet}
use Rattle.mrc_model.specs.Space.{dead_entry, is_entry_of, is_set, members_leave, outside}
use Rattle.mrc_model.specs.Space.{put_entry, send_entry}
use Rattle.mrc_model.specs.Target.{with_store}
use Rattle.mrc_model.specs.Wiring.{Wiring}
use Rattle.mrc_model.specs.World.{Held, Space, World, class_of, entry_rights, receives, set_space}
use Rattle.mrc_model.specs.World.{space, space_receives, task_class}
use Rattle.mrc_model.specs.declared.Code.TheVariants.{KernInvalidValue}
use Rattle.mrc_model.specs.declared.Entry.{Entry}
use Rattle.mrc_model.specs.declared.Entry.TheVariants.{DeadName as DeadEntry, SendOnce as OnceEntry}
use Rattle.mrc_model.specs.declared.Entry.TheVariants.{Receive as ReceiveEntry, Send as SendEntry}
use Rattle.mrc_model.specs.declared.Entry.TheVariants.{PortSet as SetEntry}
use Rattle.mrc_cover.proofs.Altering.{KeepsRights, known-alter, one_name-alter}
use Rattle.mrc_cover.proofs.Altering.{space_receives-alter}
use Rattle.mrc_cover.proofs.Destroying.{destruction_keeps}
use Rattle.mrc_cover.proofs.Entries.{IsLeft, all_is_left, dead_is_left, if_some, nothing_is_left}
use Rattle.mrc_cover.proofs.Entries.{receive_is_left, receives-if_sends, rights-dead_entry}
use Rattle.mrc_cover.proofs.Entries.{rights-send_entry, rights_left, send_is_left, sends_are_left}
use Rattle.mrc_cover.proofs.Kept.{IsAlive, Keeps, Kept, keeps_with, manned_along}
use Rattle.mrc_cover.proofs.Kept.{target_is}
use Rattle.mrc_cover.proofs.Obeyed.{Obeys}
use Rattle.mrc_cover.proofs.Rights.{MayHold}
use Rattle.mrc_cover.proofs.Sound.{set_space_changes, set_space_sound}
use Rattle.mrc_cover.proofs.Taking.{len-put_entry, one_name-put_entry, origin-put_entry}
use Rattle.mrc_cover.proofs.Taking.{put_entry_adds_no_name, put_entry_leaves}
use Rattle.mrc_cover.proofs.Taking.{space_receives-put_entry}
use Rattle.mrc_base.specs.declared.Right.TheVariants as named

-- the members of a set that goes keep their rights
outside_keeps_rights : (n : ℕ) → KeepsRights (outside n)
outside_keeps_rights n = record { rights = rights; names = names }
  where
    rights : (k : ℕ) (e : Entry) → rights_left (outside n k e) ≡ entry_rights e
    rights k (ReceiveEntry p s i) = refl
    rights k (SendEntry p s) = refl
    rights k (OnceEntry p) = refl
    rights k SetEntry = refl
    rights k (DeadEntry s) = refl

    names : (k : ℕ) (e f : Entry) → outside n k e ≡ Some f → (p : ℕ) → is_entry_of p f ≡ true
        → is_entry_of p e ≡ true
    names k (ReceiveEntry q s i) f is p e = rw (sym (same_Some _ f is)) at e
    names k (SendEntry q s) f is p e = rw (sym (same_Some _ f is)) at e
    names k (OnceEntry q) f is p e = rw (sym (same_Some _ f is)) at e
    names k SetEntry f is p e = rw (sym (same_Some _ f is)) at e
    names k (DeadEntry s) f is p e = rw (sym (same_Some _ f is)) at e

-- what goes of an entry, and what is left of it
record IsDropped (k : ℕ → Option ℕ) (F : ℕ → PortRight → Type 0) (e : Entry) (rest : Option Entry)
    (gone : List Held) : Type 0 where
  part : IsLeft k F e rest
  count : (q : ℕ) → receives q (rights_left rest) + receives q gone ≡ receives q (entry_rights e)

-- what a call may do with an entry
data MayChange (k : ℕ → Option ℕ) (F : ℕ → PortRight → Type 0) (e : Entry) : Change → Type 0 where
  may_leave : {rest : Option Entry} → IsDropped k F e rest [] → MayChange k F e (Remains rest)
  may_destroy_receive : (p n : ℕ) (i : Option ℕ) → e ≡ ReceiveEntry p n i
      → MayChange k F e DestroysReceive
  may_destroy : MayChange k F e DestroysEntry

module _ (k : ℕ → Option ℕ) (F : ℕ → PortRight → Type 0) where
  -- send references of a receive entry go with no trace
  drop_beside : (p n m : ℕ) (i : Option ℕ) → nat_lt 0 n ≡ true
      → IsDropped k F (ReceiveEntry p n i) (Some (ReceiveEntry p m i)) []
  drop_beside p n m i has = record {
    part = receive_is_left k F p n m i i (λ z. has);
    count = λ q. let a = receives-if_sends q n p in let b = receives-if_sends q m p in omega arith;
  }

  -- so do those of a send entry
  drop_sends : (p n m : ℕ) → IsDropped k F (SendEntry p n) (send_entry p m) []
  drop_sends p n m = record {
    part = send_is_left k F p n m;
    count = λ q. rw rights-send_entry (let a = receives-if_sends q m p in omega arith);
  }

  -- the receive right, beside send references
  drop_receive : (p n : ℕ) (i : Option ℕ)
      → IsDropped k F (ReceiveEntry p n i) (send_entry p n)
      (record { port = p; right = Receive } ∷ [])
  drop_receive p n i = record {
    part = sends_are_left k F p n n i (λ z. z);
    count = λ q. rw rights-send_entry (omega arith);
  }

  -- the whole entry
  drop_all : (e : Entry) → IsDropped k F e None (entry_rights e)
  drop_all e = record { part = nothing_is_left k F e; count = λ q. omega arith }

  -- nothing of it
  drop_none : (e : Entry) → IsDropped k F e (Some e) []
  drop_none e = record { part = all_is_left k F e; count = λ q. omega arith }

  -- references to a dead port
  drop_dead : (n m : ℕ) → IsDropped k F (DeadEntry n) (dead_entry m) []
  drop_dead n m = record {
    part = dead_is_left k F n m;
    count = λ q.
        let a = ap (receives q) (rights-dead_entry m) in
        omega arith;
  }

  -- what deallocate does
  drop_one_may : (e : Entry) (c : Change) → drop_one e ≡ Some c → MayChange k F e c
  drop_one_may (ReceiveEntry p n i) c is =
      let (has, same) = if_some (nat_lt 0 n) _ c is in
      subst (MayChange k F (ReceiveEntry p n i)) same (may_leave (drop_beside p n (n - 1) i has))
  drop_one_may (SendEntry p n) c is =
      subst (MayChange k F (SendEntry p n)) (same_Some _ c is) (may_leave (drop_sends p n (n - 1)))
  drop_one_may (OnceEntry p) c is =
      subst (MayChange k F (OnceEntry p)) (same_Some _ c is) may_destroy
  drop_one_may SetEntry c is = absurd (not_None c (sym is))
  drop_one_may (DeadEntry n) c is =
      subst (MayChange k F (DeadEntry n)) (same_Some _ c is) (may_leave (drop_dead n (n - 1)))

  -- a right that is there once is kept or destroyed
  by_one_may : (e : Entry) (delta : ℤ) (c : Change) → MayChange k F e c
      → Gives (MayChange k F e) (by_one delta e c)
  by_one_may e (pos n) c may = elim (n == 0) as (λ b. Gives (MayChange k F e)
      (if b then Ok (Remains (Some e)) else Err (Refused KernInvalidValue))) [
        | true ↦ gives_ok (may_leave (drop_none e))
        | false ↦ gives_err _ _
      ]
  by_one_may e (negsuc n) c may = elim (n == 0) as (λ b. Gives (MayChange k F e)
      (if b then Ok c else Err (Refused KernInvalidValue))) [
        | true ↦ gives_ok may
        | false ↦ gives_err _ _
      ]

  -- a number of references
  any_refs : (o : Option ℕ) → Gives (λ _. Unit {0}) (new_refs o)
  any_refs o = record { holds = λ a e. tt }

  -- what mod_refs does
  change_refs_may : (e : Entry) (right : Right) (delta : ℤ)
      → Gives (MayChange k F e) (change_refs e right delta)
  change_refs_may (ReceiveEntry p n i) named.Send delta = bind_ _ _ (checked (nat_lt 0 n) _)
      (λ _ has. bind _ _ (any_refs (plus n delta))
      (λ m _. gives_ok (may_leave (drop_beside p n m i has))))
  change_refs_may (ReceiveEntry p n i) named.Receive delta =
      by_one_may (ReceiveEntry p n i) delta DestroysReceive (may_destroy_receive p n i refl)
  change_refs_may (ReceiveEntry p n i) named.SendOnce delta = gives_err _ _
  change_refs_may (ReceiveEntry p n i) named.PortSet delta = gives_err _ _
  change_refs_may (ReceiveEntry p n i) named.DeadName delta = gives_err _ _
  change_refs_may (SendEntry p n) named.Send delta =
      bind _ _ (any_refs (plus n delta)) (λ m _. gives_ok (may_leave (drop_sends p n m)))
  change_refs_may (SendEntry p n) named.Receive delta = gives_err _ _
  change_refs_may (SendEntry p n) named.SendOnce delta = gives_err _ _
  change_refs_may (SendEntry p n) named.PortSet delta = gives_err _ _
  change_refs_may (SendEntry p n) named.DeadName delta = gives_err _ _
  change_refs_may (OnceEntry p) named.Send delta = gives_err _ _
  change_refs_may (OnceEntry p) named.Receive delta = gives_err _ _
  change_refs_may (OnceEntry p) named.SendOnce delta =
      by_one_may (OnceEntry p) delta DestroysEntry may_destroy
  change_refs_may (OnceEntry p) named.PortSet delta = gives_err _ _
  change_refs_may (OnceEntry p) named.DeadName delta = gives_err _ _
  change_refs_may SetEntry named.Send delta = gives_err _ _
  change_refs_may SetEntry named.Receive delta = gives_err _ _
  change_refs_may SetEntry named.SendOnce delta = gives_err _ _
  change_refs_may SetEntry named.PortSet delta = by_one_may SetEntry delta DestroysEntry may_destroy
  change_refs_may SetEntry named.DeadName delta = gives_err _ _
  change_refs_may (DeadEntry n) named.Send delta = gives_err _ _
  change_refs_may (DeadEntry n) named.Receive delta = gives_err _ _
  change_refs_may (DeadEntry n) named.SendOnce delta = gives_err _ _
  change_refs_may (DeadEntry n) named.PortSet delta = gives_err _ _
  change_refs_may (DeadEntry n) named.DeadName delta =
      bind _ _ (any_refs (plus n delta)) (λ m _. gives_ok (may_leave (drop_dead n m)))

module _ (W : Wiring) (G : FactSet) (obeys : Obeys W G) (w : World) (u n : ℕ) (alive : IsAlive w u)
    (kept : Kept W G w) where
  its_space : Space
  its_space = space w.store u

  abbrev May : ℕ → PortRight → Type 0
  May c r = G (Hold (task_class w u) c r)

  -- an entry loses rights, and these are destroyed
  drop_keeps : (b : Bool) (e : Entry) (rest : Option Entry) (gone : List Held)
      → get (space w.store u) n ≡ Some e
      → IsDropped (class_of w.store) May e rest gone
      → Kept W G (with_store w (destroy
      (set_space w.store u (members_leave b n (put_entry (space w.store u) n rest)))
      (record { rights = gone; kernel = None })))
  unfolding its_space
  drop_keeps b e rest gone is drop =
      let y = members_leave b n (put_entry its_space n rest) in
      let changes = set_space_changes w.store u y alive in
      destruction_keeps W G obeys w (set_space w.store u y) gone kept
      (set_space_sound W G (task_class w) w.store [] gone u y kept.sound
      (λ p c at.
      let a = counted b p in
      let c = space_receives-put_entry p its_space n e rest is in let g = drop.count p in omega
      arith)
      (known b) (one b))
      changes
      (λ v. elim (cases_eq v u) [
        | inl z ↦ rw z (rw (space-set_same w.store u y) (le_trans (small b) (kept.few u)))
        | inr z ↦ rw (space-set_other w.store u v y z) (kept.few v)
      ])
      (manned_along W G w (set_space w.store u y) kept.tasks changes)
    where
      plain : (m : ℕ) (f : Entry) → get (put_entry its_space n rest) m ≡ Some f
          → Known (class_of w.store) May (entry_rights f)
      plain m f at = elim (origin-put_entry its_space n rest m f at) [
        | inl h ↦ rw h.1 at (drop.part.known (kept.sound.covers.held u n e is))
        | inr h ↦ kept.sound.covers.held u m f h
      ]

      plain_one : HasOneName (put_entry its_space n rest)
      plain_one =
          one_name-put_entry (class_of w.store) May its_space n e rest
          (kept.sound.one_name u) is drop.part

      known : (b : Bool) (m : ℕ) (f : Entry)
          → get (members_leave b n (put_entry its_space n rest)) m ≡ Some f
          → Known (class_of w.store) May (entry_rights f)
      known true =
          known-alter (class_of w.store) May (outside n) (put_entry its_space n rest)
          (outside_keeps_rights n) plain
      known false = plain

      one : (b : Bool) → HasOneName (members_leave b n (put_entry its_space n rest))
      one true =
          one_name-alter (outside n) (put_entry its_space n rest) (outside_keeps_rights n) plain_one
      one false = plain_one

      counted : (b : Bool) (p : ℕ)
          → space_receives p (members_leave b n (put_entry its_space n rest))
          ≡ space_receives p (put_entry its_space n rest)
      counted true p =
          space_receives-alter (outside n) (put_entry its_space n rest) p (outside_keeps_rights n)
      counted false p = refl

      small : (b : Bool) → len (members_leave b n (put_entry its_space n rest)) ≤ len its_space
      small true = le_trans (len-alter_all (outside n) (put_entry its_space n rest))
          (len-put_entry its_space n e rest is)
      small false = len-put_entry its_space n e rest is

  -- so the receive right of an entry
  receive_destroyed_keeps : (p k : ℕ) (i : Option ℕ)
      → get (space w.store u) n ≡ Some (ReceiveEntry p k i)
      → Kept W G (with_store w (destroyed w.store (ReceiveOf u n)))
  unfolding destroyed
  receive_destroyed_keeps p k i is =
      subst (λ o. Kept W G (with_store w (destroy_out w.store (receive_out w.store u n o))))
      (sym is)
      (drop_keeps false (ReceiveEntry p k i) (send_entry p k) _ is
      (drop_receive (class_of w.store) May p k i))

  -- and a whole entry
  entry_destroyed_keeps : (e : Entry) → get (space w.store u) n ≡ Some e
      → Kept W G (with_store w (destroyed w.store (EntryOf u n)))
  unfolding destroyed
  entry_destroyed_keeps e is =
      subst (λ o. Kept W G (with_store w (destroy_out w.store (entry_out w.store u n o)))) (sym is)
      (drop_keeps (is_set e) e None (entry_rights e) is (drop_all (class_of w.store) May e))

  -- each change that a call may make
  change_keeps : (e : Entry) (c : Change) → get (space w.store u) n ≡ Some e
      → MayChange (class_of w.store) May e c → Kept W G (with_store w (changed w.store u n c))
  change_keeps e c is (may_leave {rest} drop) =
      keeps_with W G w _ kept
      (put_entry_leaves W G (task_class w)
      (IsAlive w) w.store [] [] u n e rest alive kept.sound is drop.part
      (λ q. let a = drop.count q in omega arith))
      (λ t. le_trans (put_entry_adds_no_name w.store u n e rest is t) (kept.few t))
  change_keeps e c is (may_destroy_receive p k i same) =
      receive_destroyed_keeps p k i (is ∙ ap Some same)
  change_keeps e c is (may_destroy) = entry_destroyed_keeps e is

module _ (W : Wiring) (G : FactSet) (obeys : Obeys W G) where
  -- deallocate
  pub deallocate_keeps : (w : World) (t task name : ℕ) → Kept W G w
      → Keeps W G (call_deallocate w t task name)
  unfolding call_deallocate
  deallocate_keeps w t task name kept =
      bind _ _ (target_is W G w t task _ kept) (λ u is.
      bind _ _ (same_entry w u name) (λ e at.
      bind _ _ (found (drop_one e) _) (λ c got.
      gives_ok (change_keeps W G obeys w u name is.alive kept e c at
      (drop_one_may (class_of w.store) (MayHold G (task_class w u)) e c got)))))

  -- destroy
  pub destroy_keeps : (w : World) (t task name : ℕ) → Kept W G w
      → Keeps W G (call_destroy w t task name)
  unfolding call_destroy
  destroy_keeps w t task name kept =
      bind _ _ (target_is W G w t task _ kept) (λ u is.
      bind _ _ (same_entry w u name) (λ e at.
      gives_ok (entry_destroyed_keeps W G obeys w u name is.alive kept e at)))

  -- mod_refs
  pub mod_refs_keeps : (w : World) (t task name : ℕ) (right : Right) (delta : ℤ) → Kept W G w
      → Keeps W G (call_mod_refs w t task name right delta)
  unfolding call_mod_refs
  mod_refs_keeps w t task name right delta kept =
      bind _ _ (target_is W G w t task _ kept) (λ u is.
      bind _ _ (same_entry w u name) (λ e at.
      bind _ _ (change_refs_may (class_of w.store) (MayHold G (task_class w u)) e right delta)
      (λ c may.
      gives_ok (change_keeps W G obeys w u name is.alive kept e c at may))))
