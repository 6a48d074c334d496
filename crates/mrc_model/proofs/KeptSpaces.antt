-- Each space is one: taking, giving, destruction and each call keep it so.
use Rattle.std.proofs.Common.{◌≡◌, ℕ, ◌+◌, ◌-◌, ◌<◌, ◌≤◌, ◌⊎◌, inl, inr, Bool, true, false}
use Rattle.std.proofs.Common.{List}
use Rattle.std.proofs.Common.{Option, Some, None, refl, sym, ◌∙◌, ap, subst, arith, nat_lt}
use Rattle.std.proofs.Common.{◌==◌, if◌then◌else◌}
use Rattle.std.specs.Option.{option_and_then}
use Rattle.std.proofs.lemmas.Bool.{ltb-true, eqb-true, eqb-false}
use Rattle.mrc_base.specs.declared.PortRight.{PortRight}
use Rattle.mrc_base.specs.declared.PortRight.TheVariants.{Send, Receive, SendOnce}
use Rattle.mrc_base.specs.declared.Disp.{Disp}
use Rattle.mrc_base.specs.declared.Disp.TheVariants.{MoveReceive, MoveSend, MoveSendOnce, CopySend}
use Rattle.mrc_base.specs.declared.Disp.TheVariants.{MakeSend, MakeSendOnce}
use Rattle.mrc_base.specs.Limits.{limit_of_references}
use Rattle.mrc_model.specs.declared.Entry.{Entry}
use Rattle.mrc_model.specs.declared.Entry.TheVariants.{Receive as ReceiveEntry, Send as SendEntry}
use Rattle.mrc_model.specs.declared.Entry.TheVariants.{SendOnce as OnceEntry, PortSet as SetEntry}
use Rattle.mrc_model.specs.declared.Entry.TheVariants.{DeadName as DeadEntry}
use Rattle.mrc_model.specs.Map.{empty, get, insert, remove, alter_all}
use Rattle.mrc_model.specs.World.{Space}
use Rattle.mrc_model.specs.Space.{send_entry, dead_entry, Taken, take_from, put_entry, unused}
use Rattle.mrc_model.specs.Space.{is_entry_of, entry_of}
use Rattle.mrc_model.specs.Space.{new_entry, one_more, joined, place_at, place, is_full}
use Rattle.mrc_model.specs.Space.{is_other, overflows}
use Rattle.mrc_model.specs.Space.{insert_new, insert_joined, insert_known, insert_at, is_set}
use Rattle.mrc_model.specs.Space.{without_set, outside}
use Rattle.mrc_model.specs.Space.{members_leave, renamed_set, in_renamed, members_follow, IsEntry}
use Rattle.mrc_model.specs.Space.{set_of, IsSpace}
use Rattle.mrc_model.specs.Death.{has, perished_entry}
use Rattle.mrc_model.proofs.Maps.{same_Some, not_None, get-insert_same, get-insert_other}
use Rattle.mrc_model.proofs.Maps.{get-remove_other, get-empty}
use Rattle.mrc_model.proofs.Maps.{get-alter_all, origin-insert, origin-remove, origin-alter_all}
use Rattle.mrc_model.proofs.Tries.{Gives, gives_ok, gives_err, bind_, checked, not_refused}
use Rattle.mrc_model.proofs.Spaces.{get-unused, entry_of-some}

-- an entry that may stand where e stood: it is one, in no other set
pub record IsPart (e f : Entry) : Type 0 where
  pub entry : IsEntry f
  pub set : (m : ℕ) → set_of f ≡ Some m → set_of e ≡ Some m

-- a set stays one
pub set_is : (e : Entry) → is_set e ≡ true → e ≡ SetEntry
set_is (ReceiveEntry p k i) z = cc
set_is (SendEntry p k) z = cc
set_is (OnceEntry p) z = cc
set_is SetEntry z = refl
set_is (DeadEntry k) z = cc

pub no_set : (m : ℕ) (P : Type 0) → ◌≡◌ {A = Option ℕ} None (Some m) → P
no_set m P e = absurd (not_None m (sym e))

-- no entry is there
pub empty_is_space : IsSpace empty
empty_is_space = record {
  entries = λ n e is. absurd (not_None e (sym is ∙ get-empty n));
  sets = λ n m e is. absurd (not_None e (sym is ∙ get-empty n));
}

-- an entry is written over one that is no set, or over none
pub insert_is_space : (x : Space) (n : ℕ) (f : Entry) → IsSpace x → (get x n ≡ Some SetEntry → ⊥)
    → IsEntry f
    → ((m : ℕ) → set_of f ≡ Some m → get x m ≡ Some SetEntry) → IsSpace (insert x n f)
insert_is_space x n f is plain entry sets = record { entries = entries; sets = stays }
  where
    kept : (m : ℕ) → get x m ≡ Some SetEntry → get (insert x n f) m ≡ Some SetEntry
    kept m at = get-insert_other x n f m (λ z. plain (sym (ap (get x) z) ∙ at)) ∙ at

    entries : (q : ℕ) (e : Entry) → get (insert x n f) q ≡ Some e → IsEntry e
    entries q e at = elim (origin-insert x n f q e at) [
      | inl h ↦ subst IsEntry h.1 entry
      | inr h ↦ is.entries q e h.1
    ]

    stays : (q m : ℕ) (e : Entry) → get (insert x n f) q ≡ Some e → set_of e ≡ Some m
        → get (insert x n f) m ≡ Some SetEntry
    stays q m e at in_set = elim (origin-insert x n f q e at) [
      | inl h ↦ kept m (sets m (ap set_of h.1 ∙ in_set))
      | inr h ↦ kept m (is.sets q m e h.1 in_set)
    ]

-- an entry that is no set leaves
remove_is_space : (x : Space) (n : ℕ) → IsSpace x → (get x n ≡ Some SetEntry → ⊥)
    → IsSpace (remove x n)
remove_is_space x n is plain = record {
  entries = λ q e at. is.entries q e (origin-remove x n q e at).1;
  sets = λ q m e at in_set.
      let there = is.sets q m e (origin-remove x n q e at).1 in_set in
      get-remove_other x n m (λ z. plain (sym (ap (get x) z) ∙ there)) ∙ there;
}

-- no set stands where another entry does
pub not_set : (x : Space) (n : ℕ) (e : Entry) → get x n ≡ Some e → is_set e ≡ false
    → get x n ≡ Some SetEntry → ⊥
not_set x n e is plain at =
    let same : e ≡ SetEntry = same_Some e SetEntry (sym is ∙ at) in
    let z : true ≡ false = sym (ap is_set same) ∙ plain in cc

pub free_of_set : (x : Space) (n : ℕ) → get x n ≡ None → get x n ≡ Some SetEntry → ⊥
free_of_set x n free at = not_None SetEntry (sym at ∙ free)

-- an entry, but no set, becomes a part of itself
pub put_is_space : (x : Space) (n : ℕ) (e : Entry) (rest : Option Entry) → IsSpace x
    → get x n ≡ Some e
    → is_set e ≡ false → ((f : Entry) → rest ≡ Some f → IsPart e f) → IsSpace (put_entry x n rest)
put_is_space x n e None is at plain part = remove_is_space x n is (not_set x n e at plain)
put_is_space x n e (Some f) is at plain part =
    let p = part f refl in
    insert_is_space x n f is (not_set x n e at plain) p.entry
    (λ m in_set. is.sets n m e at (p.set m in_set))

-- parts of entries

pub itself : (e : Entry) → IsEntry e → IsPart e e
itself e h = record { entry = h; set = λ m z. z }

-- an entry in no set
pub outside_sets : (e f : Entry) → IsEntry f → set_of f ≡ None → IsPart e f
outside_sets e f h none = record { entry = h; set = λ m z. no_set m _ (sym none ∙ z) }

pub sends_part : (e : Entry) (p k : ℕ) → k ≤ limit_of_references → (f : Entry)
    → send_entry p k ≡ Some f → IsPart e f
sends_part e p k few f is =
    let go : (b : Bool) → nat_lt 0 k ≡ b → (if b then Some (SendEntry p k) else None) ≡ Some f
    → IsPart e f = elim [
      | true ↦ λ t z. subst (IsPart e) (same_Some (SendEntry p k) f z)
          (outside_sets e (SendEntry p k) (ltb-true 0 k t, few) refl)
      | false ↦ λ t z. absurd (not_None f (sym z))
    ] in
    go (nat_lt 0 k) refl is

pub dead_part : (e : Entry) (k : ℕ) → k ≤ limit_of_references → (f : Entry) → dead_entry k ≡ Some f
    → IsPart e f
dead_part e k few f is =
    let go : (b : Bool) → nat_lt 0 k ≡ b → (if b then Some (DeadEntry k) else None) ≡ Some f
    → IsPart e f = elim [
      | true ↦ λ t z. subst (IsPart e) (same_Some (DeadEntry k) f z)
          (outside_sets e (DeadEntry k) (ltb-true 0 k t, few) refl)
      | false ↦ λ t z. absurd (not_None f (sym z))
    ] in
    go (nat_lt 0 k) refl is

pub part_is : (e f g : Entry) → IsPart e f → Some f ≡ Some g → IsPart e g
part_is e f g h z = subst (IsPart e) (same_Some f g z) h

-- what a disposition leaves of an entry
pub record IsLeftOf (e : Entry) (rest : Option Entry) : Type 0 where
  pub plain : is_set e ≡ false
  pub part : (f : Entry) → rest ≡ Some f → IsPart e f

if_taken : (b : Bool) (t got : Taken) → (if b then Some t else None) ≡ Some got
    → (b ≡ true) × (t ≡ got)
if_taken true t got z = (refl, same_Some t got z)
if_taken false t got z = absurd (not_None got (sym z))

took : (e : Entry) (p : ℕ) (rest : Option Entry) (got : Taken) → is_set e ≡ false
    → ((f : Entry) → rest ≡ Some f → IsPart e f)
    → Some (record { port = p; rest = rest }) ≡ Some got → IsLeftOf e got.rest
took e p rest got plain part z =
    subst (λ (t : Taken). IsLeftOf e t.rest) (same_Some (record { port = p; rest = rest }) got z)
    record { plain = plain; part = part }

pub take_leaves : (e : Entry) (x : Disp) (got : Taken) → IsEntry e → take_from e x ≡ Some got
    → IsLeftOf e got.rest
take_leaves (ReceiveEntry p k i) MoveReceive got h z =
    took (ReceiveEntry p k i) p (send_entry p k) got refl (sends_part _ p k h) z
take_leaves (ReceiveEntry p k i) MoveSend got h z =
    let (some, is) = if_taken (nat_lt 0 k) _ got z in
    took (ReceiveEntry p k i) p (Some (ReceiveEntry p (k - 1) i)) got refl
    (λ f w. part_is _ (ReceiveEntry p (k - 1) i) f record { entry = omega arith; set = λ m v. v } w)
    (ap Some is)
take_leaves (ReceiveEntry p k i) MoveSendOnce got h z = absurd (not_None got (sym z))
take_leaves (ReceiveEntry p k i) CopySend got h z =
    let (some, is) = if_taken (nat_lt 0 k) _ got z in
    took (ReceiveEntry p k i) p (Some (ReceiveEntry p k i)) got refl
    (λ f w. part_is _ _ f (itself _ h) w) (ap Some is)
take_leaves (ReceiveEntry p k i) MakeSend got h z =
    took (ReceiveEntry p k i) p _ got refl
    (λ f w. part_is _ _ f (itself (ReceiveEntry p k i) h) w) z
take_leaves (ReceiveEntry p k i) MakeSendOnce got h z =
    took (ReceiveEntry p k i) p _ got refl
    (λ f w. part_is _ _ f (itself (ReceiveEntry p k i) h) w) z
take_leaves (SendEntry p k) MoveReceive got h z = absurd (not_None got (sym z))
take_leaves (SendEntry p k) MoveSend got h z =
    let few = h.1 in
    took (SendEntry p k) p (send_entry p (k - 1)) got refl (sends_part _ p (k - 1) (omega arith)) z
take_leaves (SendEntry p k) MoveSendOnce got h z = absurd (not_None got (sym z))
take_leaves (SendEntry p k) CopySend got h z =
    took (SendEntry p k) p _ got refl (λ f w. part_is _ _ f (itself (SendEntry p k) h) w) z
take_leaves (SendEntry p k) MakeSend got h z = absurd (not_None got (sym z))
take_leaves (SendEntry p k) MakeSendOnce got h z = absurd (not_None got (sym z))
take_leaves (OnceEntry p) MoveReceive got h z = absurd (not_None got (sym z))
take_leaves (OnceEntry p) MoveSend got h z = absurd (not_None got (sym z))
take_leaves (OnceEntry p) MoveSendOnce got h z =
    took (OnceEntry p) p None got refl (λ f w. absurd (not_None f (sym w))) z
take_leaves (OnceEntry p) CopySend got h z = absurd (not_None got (sym z))
take_leaves (OnceEntry p) MakeSend got h z = absurd (not_None got (sym z))
take_leaves (OnceEntry p) MakeSendOnce got h z = absurd (not_None got (sym z))
take_leaves SetEntry x got h z = absurd (not_None got (sym z))
take_leaves (DeadEntry k) x got h z = absurd (not_None got (sym z))

-- a right is given

new_is_entry : (p : ℕ) (r : PortRight) → IsEntry (new_entry p r)
new_is_entry p Send = (omega arith, omega arith)
new_is_entry p Receive = omega arith
new_is_entry p SendOnce = tt

new_in_no_set : (p : ℕ) (r : PortRight) → set_of (new_entry p r) ≡ None
new_in_no_set p Send = refl
new_in_no_set p Receive = refl
new_in_no_set p SendOnce = refl

-- a new right under a name that is not used
pub new_is_space : (x : Space) (n p : ℕ) (r : PortRight) → IsSpace x → get x n ≡ None
    → IsSpace (insert x n (new_entry p r))
new_is_space x n p r is free =
    insert_is_space x n (new_entry p r) is (free_of_set x n free) (new_is_entry p r)
    (λ m z. no_set m _ (sym (new_in_no_set p r) ∙ z))

more_is_few : (k : ℕ) → k ≤ limit_of_references → one_more k ≤ limit_of_references
more_is_few k few =
    let go : (b : Bool) → nat_lt k limit_of_references ≡ b
    → (if b then k + 1 else k) ≤ limit_of_references = elim [
      | true ↦ λ t. let l = ltb-true k limit_of_references t in omega arith
      | false ↦ λ t. few
    ] in
    go (nat_lt k limit_of_references) refl

more_is_some : (k : ℕ) → 0 < k → 0 < one_more k
more_is_some k some =
    let go : (b : Bool)
    → 0 < (if b then k + 1 else k) = elim [ true ↦ omega arith | false ↦ some ] in
    go (nat_lt k limit_of_references)

joined_part : (e : Entry) (r : PortRight) → IsEntry e → IsPart e (joined e r)
joined_part (ReceiveEntry p k i) Send h = record { entry = more_is_few k h; set = λ m z. z }
joined_part (ReceiveEntry p k i) Receive h = outside_sets _ (ReceiveEntry p k None) h refl
joined_part (ReceiveEntry p k i) SendOnce h = itself (ReceiveEntry p k i) h
joined_part (SendEntry p k) Send h =
    outside_sets _ (SendEntry p (one_more k)) (more_is_some k h.0, more_is_few k h.1) refl
joined_part (SendEntry p k) Receive h = outside_sets _ (ReceiveEntry p k None) h.1 refl
joined_part (SendEntry p k) SendOnce h = itself (SendEntry p k) h
joined_part (OnceEntry p) r h = itself (OnceEntry p) h
joined_part SetEntry r h = itself SetEntry h
joined_part (DeadEntry k) r h = itself (DeadEntry k) h

own_is_no_set : (p : ℕ) (e : Entry) → is_entry_of p e ≡ true → is_set e ≡ false
own_is_no_set p (ReceiveEntry q k i) z = refl
own_is_no_set p (SendEntry q k) z = refl
own_is_no_set p (OnceEntry q) z = refl
own_is_no_set p SetEntry z = cc
own_is_no_set p (DeadEntry k) z = refl

-- a right joins the entry of its port
pub joined_is_space : (x : Space) (n p : ℕ) (e : Entry) (r : PortRight) → IsSpace x
    → get x n ≡ Some e
    → is_entry_of p e ≡ true → IsSpace (insert x n (joined e r))
joined_is_space x n p e r is at own =
    let part = joined_part e r (is.entries n e at) in
    put_is_space x n e (Some (joined e r)) is at (own_is_no_set p e own)
    (λ f z. part_is e (joined e r) f part z)

place_at_is_space : (x : Space) (p : ℕ) (r : PortRight) (o : Option (ℕ × Entry)) → entry_of x p ≡ o
    → IsSpace x
    → IsSpace (place_at x p r o).space
place_at_is_space x p r None z is = new_is_space x (unused x) p r is (get-unused x)
place_at_is_space x p r (Some e) z is =
    let at = entry_of-some x p e z in joined_is_space x e.0 p e.1 r is at.0 at.1

-- a right is given under a name of the space's choice
pub place_is_space : (x : Space) (p : ℕ) (r : PortRight) → IsSpace x → IsSpace (place x p r).space
place_is_space x p Send is = place_at_is_space x p Send (entry_of x p) refl is
place_is_space x p Receive is = place_at_is_space x p Receive (entry_of x p) refl is
place_is_space x p SendOnce is = new_is_space x (unused x) p SendOnce is (get-unused x)

insert_new_is_space : (x : Space) (n p : ℕ) (r : PortRight) (o : Option Entry) → get x n ≡ o
    → IsSpace x
    → Gives IsSpace (insert_new x n p r o)
insert_new_is_space x n p r None free is =
    bind_ _ _ (not_refused (is_full x) _) (λ _ _. gives_ok (new_is_space x n p r is free))
insert_new_is_space x n p r (Some e) at is = gives_err _ _

insert_joined_is_space : (x : Space) (n p : ℕ) (r : PortRight) (o : Option Entry) → get x n ≡ o
    → IsSpace x
    → Gives IsSpace (insert_joined x n p r o)
insert_joined_is_space x n p r None free is = insert_new_is_space x n p r None free is
insert_joined_is_space x n p r (Some e) at is =
    bind_ _ _ (checked (is_entry_of p e) _) (λ _ own.
    bind_ _ _ (not_refused (overflows e r) _) (λ _ _.
    bind_ _ _ (not_refused (is_full x) _) (λ _ _. gives_ok (joined_is_space x n p e r is at own))))

insert_known_is_space : (x : Space) (n p : ℕ) (r : PortRight) → IsSpace x
    → Gives IsSpace (insert_known x n p r)
insert_known_is_space x n p r is =
    bind_ _ _ (not_refused (is_other n (entry_of x p)) _)
    (λ _ _. insert_joined_is_space x n p r (get x n) refl is)

-- a right is put under a name of the caller's choice
pub insert_at_is_space : (x : Space) (n p : ℕ) (r : PortRight) → IsSpace x
    → Gives IsSpace (insert_at x n p r)
unfolding insert_at
insert_at_is_space x n p Send is = insert_known_is_space x n p Send is
insert_at_is_space x n p Receive is = insert_known_is_space x n p Receive is
insert_at_is_space x n p SendOnce is = insert_new_is_space x n p SendOnce (get x n) refl is

-- sets go, and get new names

outside_entry : (n k : ℕ) (e f : Entry) → outside n k e ≡ Some f → IsEntry e → IsEntry f
outside_entry n k (ReceiveEntry p s i) f z h =
    subst IsEntry (same_Some (ReceiveEntry p s (without_set n i)) f z) h
outside_entry n k (SendEntry p s) f z h = subst IsEntry (same_Some (SendEntry p s) f z) h
outside_entry n k (OnceEntry p) f z h = subst IsEntry (same_Some (OnceEntry p) f z) h
outside_entry n k SetEntry f z h = subst IsEntry (same_Some SetEntry f z) h
outside_entry n k (DeadEntry s) f z h = subst IsEntry (same_Some (DeadEntry s) f z) h

without_is : (n m : ℕ) (i : Option ℕ) → without_set n i ≡ Some m → (i ≡ Some m) × (m ≡ n → ⊥)
without_is n m None z = no_set m _ z
without_is n m (Some q) z =
    let go : (b : Bool) → (q == n) ≡ b → (if b then None else Some q) ≡ Some m
    → (Some q ≡ Some m) × (m ≡ n → ⊥) = elim [
      | true ↦ λ t w. no_set m _ w
      | false ↦ λ t w. (w, λ v. eqb-false q n t (same_Some q m w ∙ v))
    ] in
    go (q == n) refl z

outside_set : (n k m : ℕ) (e f : Entry) → outside n k e ≡ Some f → set_of f ≡ Some m
    → (set_of e ≡ Some m) × (m ≡ n → ⊥)
outside_set n k m (ReceiveEntry p s i) f z w =
    without_is n m i (ap set_of (same_Some (ReceiveEntry p s (without_set n i)) f z) ∙ w)
outside_set n k m (SendEntry p s) f z w = no_set m _ (ap set_of (same_Some (SendEntry p s) f z) ∙ w)
outside_set n k m (OnceEntry p) f z w = no_set m _ (ap set_of (same_Some (OnceEntry p) f z) ∙ w)
outside_set n k m SetEntry f z w = no_set m _ (ap set_of (same_Some SetEntry f z) ∙ w)
outside_set n k m (DeadEntry s) f z w = no_set m _ (ap set_of (same_Some (DeadEntry s) f z) ∙ w)

-- an entry leaves, with its members where it is a set
pub left_is_space : (x : Space) (n : ℕ) (e : Entry) → IsSpace x → get x n ≡ Some e
    → IsSpace (members_leave (is_set e) n (remove x n))
left_is_space x n e is at = go (is_set e) refl
  where
    leave : IsSpace (alter_all (outside n) (remove x n))
    leave = record {
      entries = λ q f h.
          let (g, there, changed) = origin-alter_all (outside n) (remove x n) q f h in
          outside_entry n q g f changed (is.entries q g (origin-remove x n q g there).1);
      sets = λ q m f h in_set.
          let (g, there, changed) = origin-alter_all (outside n) (remove x n) q f h in
          let was = outside_set n q m g f changed in_set in
          let set = is.sets q m g (origin-remove x n q g there).1 was.0 in
          get-alter_all (outside n) (remove x n) m
          ∙ ap (option_and_then (outside n m)) (get-remove_other x n m was.1 ∙ set);
    }

    go : (b : Bool) → is_set e ≡ b → IsSpace (members_leave b n (remove x n))
    go true z = leave
    go false z = remove_is_space x n is (not_set x n e at z)

renamed_entry : (old new k : ℕ) (e f : Entry) → in_renamed old new k e ≡ Some f → IsEntry e
    → IsEntry f
renamed_entry old new k (ReceiveEntry p s i) f z h =
    subst IsEntry (same_Some (ReceiveEntry p s (renamed_set old new i)) f z) h
renamed_entry old new k (SendEntry p s) f z h = subst IsEntry (same_Some (SendEntry p s) f z) h
renamed_entry old new k (OnceEntry p) f z h = subst IsEntry (same_Some (OnceEntry p) f z) h
renamed_entry old new k SetEntry f z h = subst IsEntry (same_Some SetEntry f z) h
renamed_entry old new k (DeadEntry s) f z h = subst IsEntry (same_Some (DeadEntry s) f z) h

renamed_is : (old new m : ℕ) (i : Option ℕ) → renamed_set old new i ≡ Some m
    → ((i ≡ Some old) × (m ≡ new)) ⊎ ((i ≡ Some m) × (m ≡ old → ⊥))
renamed_is old new m None z = no_set m _ z
renamed_is old new m (Some q) z =
    let go : (b : Bool) → (q == old) ≡ b → (if b then Some new else Some q) ≡ Some m
    → ((Some q ≡ Some old) × (m ≡ new)) ⊎ ((Some q ≡ Some m) × (m ≡ old → ⊥)) = elim [
      | true ↦ λ t w. inl (ap Some (eqb-true q old t), sym (same_Some new m w))
      | false ↦ λ t w. inr (w, λ v. eqb-false q old t (same_Some q m w ∙ v))
    ] in
    go (q == old) refl z

in_renamed_set : (old new k m : ℕ) (e f : Entry) → in_renamed old new k e ≡ Some f
    → set_of f ≡ Some m
    → ((set_of e ≡ Some old) × (m ≡ new)) ⊎ ((set_of e ≡ Some m) × (m ≡ old → ⊥))
in_renamed_set old new k m (ReceiveEntry p s i) f z w =
    renamed_is old new m i (ap set_of (same_Some (ReceiveEntry p s (renamed_set old new i)) f z)
    ∙ w)
in_renamed_set old new k m (SendEntry p s) f z w =
    no_set m _ (ap set_of (same_Some (SendEntry p s) f z) ∙ w)
in_renamed_set old new k m (OnceEntry p) f z w =
    no_set m _ (ap set_of (same_Some (OnceEntry p) f z) ∙ w)
in_renamed_set old new k m SetEntry f z w = no_set m _ (ap set_of (same_Some SetEntry f z) ∙ w)
in_renamed_set old new k m (DeadEntry s) f z w =
    no_set m _ (ap set_of (same_Some (DeadEntry s) f z) ∙ w)

-- an entry moves to an unused name, and the members of a set follow it
pub renamed_is_space : (x : Space) (old new : ℕ) (e : Entry) → IsSpace x → get x old ≡ Some e
    → get x new ≡ None
    → IsSpace (members_follow (is_set e) old new (insert (remove x old) new e))
renamed_is_space x old new e is at free = go (is_set e) refl
  where
    apart : new ≡ old → ⊥
    apart z = not_None e (sym at ∙ ap (get x) (sym z) ∙ free)

    free_still : get (remove x old) new ≡ None
    free_still = get-remove_other x old new apart ∙ free

    moved_entry : (q : ℕ) (f : Entry) → get (insert (remove x old) new e) q ≡ Some f → IsEntry f
    moved_entry q f h = elim (origin-insert (remove x old) new e q f h) [
      | inl z ↦ subst IsEntry z.1 (is.entries old e at)
      | inr z ↦ is.entries q f (origin-remove x old q f z.1).1
    ]

    stays : (m : ℕ) → (m ≡ old → ⊥) → get x m ≡ Some SetEntry
        → get (insert (remove x old) new e) m ≡ Some SetEntry
    stays m other set =
        get-insert_other (remove x old) new e m (λ z. free_of_set x new free (sym (ap (get x) z)
        ∙ set))
        ∙ get-remove_other x old m other ∙ set

    was_in : (q m : ℕ) (f : Entry) → get (insert (remove x old) new e) q ≡ Some f
        → set_of f ≡ Some m
        → get x m ≡ Some SetEntry
    was_in q m f h in_set = elim (origin-insert (remove x old) new e q f h) [
      | inl z ↦ is.sets old m e at (ap set_of z.1 ∙ in_set)
      | inr z ↦ is.sets q m f (origin-remove x old q f z.1).1 in_set
    ]

    follow : is_set e ≡ true
        → IsSpace (alter_all (in_renamed old new) (insert (remove x old) new e))
    follow set = record {
      entries = λ q f h.
          let (g, there, changed) = origin-alter_all (in_renamed old new)
          (insert (remove x old) new e) q f h in
          renamed_entry old new q g f changed (moved_entry q g there);
      sets = λ q m f h in_set.
          let (g, there, changed) = origin-alter_all (in_renamed old new)
          (insert (remove x old) new e) q f h in
          get-alter_all (in_renamed old new) (insert (remove x old) new e) m
          ∙ ap (option_and_then (in_renamed old new m))
          (elim (in_renamed_set old new q m g f changed in_set) [
            | inl z ↦ ap (get (insert (remove x old) new e)) z.1
                ∙ get-insert_same (remove x old) new e
                ∙ ap Some (set_is e set)
            | inr z ↦ stays m z.1 (was_in q m g there z.0)
          ]);
    }

    go : (b : Bool) → is_set e ≡ b
        → IsSpace (members_follow b old new (insert (remove x old) new e))
    go true z = follow z
    go false z =
        insert_is_space (remove x old) new e (remove_is_space x old is (not_set x old e at z))
        (free_of_set (remove x old) new free_still) (is.entries old e at)
        (λ m in_set.
        let set = is.sets old m e at in_set in
        get-remove_other x old m (λ v. not_set x old e at z (sym (ap (get x) v) ∙ set)) ∙ set)

-- ports die

perished_part : (dead : List ℕ) (e f : Entry) → IsEntry e → perished_entry dead e ≡ Some f
    → IsPart e f
perished_part dead (ReceiveEntry p k i) f h z =
    let go : (b : Bool) → (if b then dead_entry k else Some (ReceiveEntry p k i)) ≡ Some f
    → IsPart (ReceiveEntry p k i) f =
    elim [
      | true ↦ λ w. dead_part _ k h f w
      | false ↦ λ w. part_is _ _ f
          (itself (ReceiveEntry p k i) h) w
    ] in
    go (has dead p) z
perished_part dead (SendEntry p k) f h z =
    let go : (b : Bool) → (if b then dead_entry k else Some (SendEntry p k)) ≡ Some f
    → IsPart (SendEntry p k) f =
    elim [
      | true ↦ λ w. dead_part _ k h.1 f w
      | false ↦ λ w. part_is _ _ f
          (itself (SendEntry p k) h) w
    ] in
    go (has dead p) z
perished_part dead (OnceEntry p) f h z =
    let go : (b : Bool) → (if b then Some (DeadEntry 1) else Some (OnceEntry p)) ≡ Some f
    → IsPart (OnceEntry p) f = elim [
      | true ↦ λ w. part_is _ _ f (outside_sets _ (DeadEntry 1) (omega arith, omega arith) refl) w
      | false ↦ λ w. part_is _ _ f (itself (OnceEntry p) h) w
    ] in
    go (has dead p) z
perished_part dead SetEntry f h z = part_is _ _ f (itself SetEntry h) z
perished_part dead (DeadEntry k) f h z = part_is _ _ f (itself (DeadEntry k) h) z

-- what dead ports leave of a space
pub perished_is_space : (x : Space) (dead : List ℕ) → IsSpace x
    → IsSpace (alter_all (λ n e. perished_entry dead e) x)
perished_is_space x dead is = record {
  entries = λ q f h.
      let (g, there, changed) = origin-alter_all (λ n e. perished_entry dead e) x q f h in
      (perished_part dead g f (is.entries q g there) changed).entry;
  sets = λ q m f h in_set.
      let (g, there, changed) = origin-alter_all (λ n e. perished_entry dead e) x q f h in
      let was = (perished_part dead g f (is.entries q g there) changed).set m in_set in
      get-alter_all (λ n e. perished_entry dead e) x m
      ∙ ap (option_and_then (λ e. perished_entry dead e)) (is.sets q m g there was);
}
