-- What making something in a space comes to, exit by exit.
use Rattle.std.proofs.Common.{◌≡◌, ℕ, Bool, true, false, Option, Some, None, Ok, Err, refl}
use Rattle.std.proofs.Common.{sym, ◌∙◌, ap, Result}
use Rattle.std.specs.Prelude.{OnOk, OnErr}
use Rattle.std.proofs.lemmas.Bool.{ne_eqb}
use Rattle.mrc_model.specs.declared.Entry.{Entry}
use Rattle.mrc_model.specs.declared.Entry.TheVariants.{Receive as ReceiveEntry}
use Rattle.mrc_model.specs.declared.Code.TheVariants.{KernInvalidValue, KernNoSpace}
use Rattle.mrc_model.specs.declared.Code.TheVariants.{KernResourceShortage, KernInvalidTask}
use Rattle.mrc_base.specs.declared.Right.{Right}
use Rattle.mrc_model.specs.Wiring.{Wiring}
use Rattle.mrc_model.specs.Map.{empty, get, insert, len}
use Rattle.mrc_model.proofs.Maps.{get-insert_same}
use Rattle.mrc_model.proofs.Spaces.{get-unused}
use Rattle.mrc_index.proofs.UndoLaws.{took_back}
use Rattle.mrc_model.specs.World.{Space, World, space}
use Rattle.mrc_model.specs.Reply.{Reply, Name, Refused, Try, ◌>>=◌, ◌>>◌}
use Rattle.mrc_model.specs.Reply.{check, refuse_if, or_refuse}
use Rattle.mrc_model.specs.Space.{is_full, unused}
use Rattle.mrc_model.specs.Target.{with_store, with_space}
use Rattle.mrc_model.specs.CallAllocate.{allocate_port, allocate_entry, allocate_in, call_allocate}
use Rattle.mrc_model.specs.CallAllocate.{birth}
use Rattle.mrc_names.specs.Changes.{without}
use Rattle.mrc_names.specs.Takes.{add_entry}
use Rattle.mrc_names.proofs.GivingLaws.{added}
use Rattle.mrc_ports.specs.Tables.{table_of, store_of, with_birth, is_short}
use Rattle.mrc_machine.specs.Housing.{target_of}
use Rattle.mrc_machine.proofs.HousingLaws.{space_twice}
use Rattle.mrc_machine.proofs.TargetLaws.{target_none, target_some}
use Rattle.mrc_machine.proofs.Trying.{same_Ok, not_Err}

-- a space that is changed while it is taken out
pub put_after : (w z y : World) (t : ℕ) (x a : Space)
    → z ≡ with_space w t x
    → y ≡ with_space z t a
    → y ≡ with_space w t a
put_after w z y t x a out back =
    back ∙ ap (λ (v : World). with_space v t a) out ∙ space_twice w t x a

-- an entry that is no port's

pub entry_no_kind : (w : World) (u kind : ℕ) (e : Entry)
    → (kind ≡ 0 → ⊥)
    → allocate_entry w u kind e ≡ Err (Refused KernInvalidValue)
unfolding ◌>>◌ check
entry_no_kind w u kind e other = rw (ne_eqb kind 0 other) refl

-- what is answered for an entry that was added
abbrev pub on_entry : World → ℕ → Space × ℕ → Try (World × Reply)
on_entry w u y = Ok (with_space w u y.0, Name y.1)

entry_by_space : (w : World) (u : ℕ) (e : Entry)
    → allocate_entry w u 0 e ≡ (add_entry (space w.store u) e >>= on_entry w u)
unfolding add_entry ◌>>=◌ ◌>>◌ check refuse_if
entry_by_space w u e =
    let x = space w.store u in
    let go : Bool → Try (World × Reply) = λ b.
    refuse_if b (Refused KernNoSpace) >> on_entry w u (insert x (unused x) e, unused x) in
    let by : Bool → Try (World × Reply) = λ b.
    (refuse_if b (Refused KernNoSpace) >> Ok (insert x (unused x) e, unused x)) >>= on_entry w u in
    elim (is_full x) as (λ b. go b ≡ by b) [ true ↦ refl | false ↦ refl ]

pub entry_as_added : (w : World) (u kind : ℕ) (e : Entry)
    → kind ≡ 0
    → allocate_entry w u kind e ≡ (add_entry (space w.store u) e >>= on_entry w u)
entry_as_added w u kind e zeroth =
    ap (λ k. allocate_entry w u k e) zeroth ∙ entry_by_space w u e

-- a new port

module _ (w : World) (u : ℕ) (o : Option ℕ) where
  pub port_no_class : o ≡ None → allocate_port w u o ≡ Err (Refused KernInvalidValue)
  unfolding ◌>>=◌ or_refuse
  port_no_class a = rw a refl

  pub port_full : (c : ℕ)
      → o ≡ Some c
      → is_full (space w.store u) ≡ true
      → allocate_port w u o ≡ Err (Refused KernNoSpace)
  unfolding ◌>>=◌ ◌>>◌ or_refuse refuse_if
  port_full c a b = rw (a, b) refl

  pub port_short : (c : ℕ)
      → o ≡ Some c
      → is_full (space w.store u) ≡ false
      → is_short (table_of w.store) ≡ true
      → allocate_port w u o ≡ Err (Refused KernResourceShortage)
  unfolding ◌>>=◌ ◌>>◌ or_refuse refuse_if
  port_short c a b d = rw (a, b, d) refl

  pub port_born : (c n : ℕ) (z : World)
      → o ≡ Some c
      → is_full (space w.store u) ≡ false
      → is_short (table_of w.store) ≡ false
      → z ≡ with_store w (birth w.store u c)
      → n ≡ unused (space w.store u)
      → allocate_port w u o ≡ Ok (z, Name n)
  unfolding ◌>>=◌ ◌>>◌ or_refuse refuse_if
  port_born c n z a b d e f = rw (a, b, d, e, f) refl

-- an entry that is added to a space with room
added_parts : (x y : Space) (e : Entry) (name : ℕ)
    → is_full x ≡ false
    → add_entry x e ≡ Ok (y, name)
    → (y ≡ insert x (unused x) e) × (name ≡ unused x)
added_parts x y e name room is =
    let done = added x (insert x (unused x) e) (unused x) e room refl refl in
    let both = same_Ok _ _ (sym is ∙ done) in
    (ap (λ z. z.0) both, ap (λ z. z.1) both)

pub room_for_one : (x : Space) (e : Entry) (reply : Reply)
    → is_full x ≡ false
    → add_entry x e ≡ Err reply
    → ⊥
room_for_one x e reply room is =
    not_Err _ _ (sym (added x (insert x (unused x) e) (unused x) e room refl refl) ∙ is)

-- what stands in a space after the receive right of a new port was added to it
pub right_added : (x a : Space) (e : Entry) (next p name : ℕ)
    → p ≡ next
    → e ≡ ReceiveEntry p 0 None
    → is_full x ≡ false
    → add_entry x e ≡ Ok (a, name)
    → (a ≡ insert x (unused x) (ReceiveEntry next 0 None)) × (name ≡ unused x)
right_added x a e next p name is entry room add =
    let received : e ≡ ReceiveEntry next 0 None = entry ∙ ap (λ q. ReceiveEntry q 0 None) is in
    let parts = added_parts x a e name room add in
    (parts.0 ∙ ap (insert x (unused x)) received, parts.1)

-- and after it was taken back
pub right_taken_back : (x a y : Space) (e : Entry) (p name : ℕ)
    → e ≡ ReceiveEntry p 0 None
    → is_full x ≡ false
    → add_entry x e ≡ Ok (a, name)
    → y ≡ without a name (get a name)
    → y ≡ x
right_taken_back x a y e p name entry room add out =
    let parts = right_added x a e p p name refl entry room add in
    let right = ReceiveEntry p 0 None in
    let there : get (insert x (unused x) right) (unused x) ≡ Some right =
    get-insert_same x (unused x) right in
    out
    ∙ ap (λ n. without a n (get a n)) parts.1
    ∙ ap (λ z. without z (unused x) (get z (unused x))) parts.0
    ∙ ap (without (insert x (unused x) right) (unused x)) there
    ∙ took_back x (unused x) right (get-unused x)

-- the world where a space is put back into which a port was born
pub born : (w v z y : World) (t class : ℕ) (x a : Space)
    → x ≡ space w.store t
    → v ≡ with_space w t empty
    → z ≡ with_store v (store_of v.store.spaces (with_birth (table_of v.store) class))
    → a ≡ insert x (unused x) (ReceiveEntry v.store.next 0 None)
    → y ≡ with_space z t a
    → y ≡ with_store w (birth w.store t class)
born w v z y t class x a out left port right put =
    put
    ∙ ap (λ k. with_space z t k) (right
    ∙ ap (λ k. insert k (unused k) (ReceiveEntry v.store.next 0 None)) out
    ∙ ap (λ (k : World). insert (space w.store t) (unused (space w.store t))
    (ReceiveEntry k.store.next 0 None)) left)
    ∙ ap (λ (k : World). with_space k t here) (port
    ∙ ap (λ (k : World). with_store k
    (store_of k.store.spaces (with_birth (table_of k.store) class))) left)
    ∙ space_twice (with_store w (store_of w.store.spaces (with_birth (table_of w.store) class)))
    t empty here
  where
    here : Space
    here = insert (space w.store t) (unused (space w.store t)) (ReceiveEntry w.store.next 0 None)

-- what two facts of an answer give
pub on_two : {T E A B C : Type 0} (r : Result T E) → (A → B → C) → OnOk r A → OnOk r B → OnOk r C
on_two (Ok x) f a b = f a b
on_two (Err e) f a b = tt

pub on_two_errs : {T E A B C : Type 0} (r : Result T E)
    → (A → B → C)
    → OnErr r A
    → OnErr r B
    → OnErr r C
on_two_errs (Ok x) f a b = tt
on_two_errs (Err e) f a b = f a b

-- the call

pub allocate_no_task : (W : Wiring) (w : World) (t task : ℕ) (right : Right) (kind : ℕ)
    → target_of w t task ≡ None
    → call_allocate W w t task right kind ≡ Err (Refused KernInvalidTask)
unfolding call_allocate ◌>>=◌
allocate_no_task W w t task right kind none = rw (target_none w t task KernInvalidTask none) refl

pub allocate_there : (W : Wiring) (w : World) (t task : ℕ) (right given : Right) (kind u : ℕ)
    → target_of w t task ≡ Some u
    → right ≡ given
    → call_allocate W w t task right kind ≡ allocate_in W w u given kind
unfolding call_allocate ◌>>=◌
allocate_there W w t task right given kind u task_is is =
    rw (target_some w t task u KernInvalidTask task_is) (ap (λ r. allocate_in W w u r kind) is)

-- an entry that is added to an empty space

first_entry_is : (e : Entry) → add_entry empty e ≡ Ok (insert empty 1 e, 1)
unfolding add_entry ◌>>◌ refuse_if len unused empty insert
first_entry_is e = refl

pub first_added : (x y : Space) (e : Entry) (name : ℕ)
    → x ≡ empty
    → add_entry x e ≡ Ok (y, name)
    → y ≡ insert empty 1 e
first_added x y e name none is =
    ap (λ z. z.0) (same_Ok _ _ (sym is ∙ ap (λ z. add_entry z e) none ∙ first_entry_is e))

pub first_refused : (x : Space) (e : Entry) (reply : Reply)
    → x ≡ empty
    → add_entry x e ≡ Err reply
    → ⊥
first_refused x e reply none is =
    not_Err _ _ (sym (ap (λ z. add_entry z e) none ∙ first_entry_is e) ∙ is)
