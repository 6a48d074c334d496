-- rename keeps a world well formed and covered: no right is new.
use Rattle.std.proofs.Common.{Bool, None, Option, Some, [], ap, arith, false, inl, inr, refl, sym}
use Rattle.std.proofs.Common.{true, ℕ, ◌∙◌, ◌≡◌, ◌≤◌, ◌⊎◌}
use Rattle.std.proofs.Math.Nat.{le_trans}
use Rattle.std.proofs.lemmas.Bool.{cases_eq}
use Rattle.mrc_base.specs.declared.PortRight.{PortRight}
use Rattle.mrc_model.proofs.KeptCalls.{not_used, same_entry}
use Rattle.mrc_model.proofs.Maps.{at_or_0, get-remove_other, len-alter_all, len-insert, len-remove}
use Rattle.mrc_model.proofs.Maps.{not_None, origin-insert, origin-remove, same_Some, total-insert}
use Rattle.mrc_model.proofs.Maps.{total-remove}
use Rattle.mrc_model.proofs.Spaces.{space-set_other, space-set_same}
use Rattle.mrc_model.proofs.Tries.{bind, bind_, gives_ok, not_refused}
use Rattle.mrc_model.specs.CallRename.{call_rename, is_used}
use Rattle.mrc_model.specs.Space.{in_renamed, is_entry_of, is_set, members_follow}
use Rattle.mrc_model.specs.Covers.{HasOneName, Known}
use Rattle.mrc_model.specs.Map.{get, insert, len, remove}
use Rattle.mrc_model.specs.Rules.{FactSet}
use Rattle.mrc_model.specs.Target.{is_reserved}
use Rattle.mrc_model.specs.Wiring.{Wiring}
use Rattle.mrc_model.specs.World.{Space, World, class_of, entry_rights, set_space, space}
use Rattle.mrc_model.specs.World.{space_receives, task_class}
use Rattle.mrc_model.specs.declared.Entry.{Entry}
use Rattle.mrc_model.specs.declared.Entry.TheVariants.{DeadName as DeadEntry, SendOnce as OnceEntry}
use Rattle.mrc_model.specs.declared.Entry.TheVariants.{Receive as ReceiveEntry, Send as SendEntry}
use Rattle.mrc_model.specs.declared.Entry.TheVariants.{PortSet as SetEntry}
use Rattle.mrc_cover.proofs.Altering.{KeepsRights, known-alter, one_name-alter}
use Rattle.mrc_cover.proofs.Altering.{space_receives-alter}
use Rattle.mrc_cover.proofs.Entries.{rights_left}
use Rattle.mrc_cover.proofs.Kept.{Keeps, Kept, keeps_with, target_is}
use Rattle.mrc_cover.proofs.Rights.{MayHold, entry_receives}
use Rattle.mrc_cover.proofs.Sound.{set_space_changes, set_space_sound}

-- the members of a set that is renamed keep their rights
pub renamed_keeps_rights : (old new : ℕ) → KeepsRights (in_renamed old new)
renamed_keeps_rights old new = record { rights = rights; names = names }
  where
    rights : (k : ℕ) (e : Entry) → rights_left (in_renamed old new k e) ≡ entry_rights e
    rights k (ReceiveEntry p s i) = refl
    rights k (SendEntry p s) = refl
    rights k (OnceEntry p) = refl
    rights k SetEntry = refl
    rights k (DeadEntry s) = refl

    names : (k : ℕ) (e f : Entry) → in_renamed old new k e ≡ Some f → (p : ℕ)
        → is_entry_of p f ≡ true
        → is_entry_of p e ≡ true
    names k (ReceiveEntry q s i) f is p e = rw (sym (same_Some _ f is)) at e
    names k (SendEntry q s) f is p e = rw (sym (same_Some _ f is)) at e
    names k (OnceEntry q) f is p e = rw (sym (same_Some _ f is)) at e
    names k SetEntry f is p e = rw (sym (same_Some _ f is)) at e
    names k (DeadEntry s) f is p e = rw (sym (same_Some _ f is)) at e

-- an entry under another name
moved : Space → ℕ → ℕ → Entry → Space
moved x old new e = insert (remove x old) new e

module _ (x : Space) (old new : ℕ) (e : Entry) (is : get x old ≡ Some e)
    (free : get x new ≡ None) where
  -- the two names are not the same
  apart : new ≡ old → ⊥
  apart z = not_None e (sym is ∙ ap (get x) (sym z) ∙ free)

  -- the space has the same receive rights
  moved_receives : (q : ℕ) → space_receives q (moved x old new e) ≡ space_receives q x
  unfolding space_receives moved
  moved_receives q =
      let a = total-insert (entry_receives q) (remove x old) new e in
      let b = ap (at_or_0 (entry_receives q) new) (get-remove_other x old new apart ∙ free) in
      let c = total-remove (entry_receives q) x old in
      let d = ap (at_or_0 (entry_receives q) old) is in omega arith

  -- where an entry of the changed space comes from
  moved_origin : (n : ℕ) (f : Entry) → get (moved x old new e) n ≡ Some f
      → ((n ≡ new) × (e ≡ f)) ⊎ ((n ≡ old → ⊥) × (get x n ≡ Some f))
  unfolding moved
  moved_origin n f at = elim (origin-insert (remove x old) new e n f at) [
    | inl h ↦ inl h
    | inr h ↦ inr (origin-remove x old n f h.1)
  ]

  -- its rights stay known
  moved_known : (k : ℕ → Option ℕ) (F : ℕ → PortRight → Type 0)
      → ((n : ℕ) (e : Entry) → get x n ≡ Some e → Known k F (entry_rights e)) → (n : ℕ) (f : Entry)
      → get (moved x old new e) n ≡ Some f → Known k F (entry_rights f)
  moved_known k F known n f at =
      elim (moved_origin n f at) [ inl h ↦ rw h.1 at (known old e is) | inr h ↦ known n f h.1 ]

  -- a port still has one name
  moved_one_name : HasOneName x → HasOneName (moved x old new e)
  moved_one_name one i j p f g a b c d = elim (moved_origin i f a) [
    | inl h ↦ elim (moved_origin j g b) [
      | inl l ↦ h.0 ∙ sym l.0
      | inr l ↦ absurd (l.0 (one j old p g e l.1 is d (rw (sym h.1) at c)))
    ]
    | inr h ↦ elim (moved_origin j g b) [
      | inl l ↦ absurd (h.0 (one i old p f e h.1 is c (rw (sym l.1) at d)))
      | inr l ↦ one i j p f g h.1 l.1 c d
    ]
  ]

  -- there are no more names than before
  moved_len : len (moved x old new e) ≤ len x
  unfolding moved
  moved_len =
      let a = len-insert (remove x old) new e in
      let b = ap (at_or_0 (λ (q : ℕ) (y : Entry). 1) new) (get-remove_other x old new apart
      ∙ free) in
      let c = len-remove x old in
      let d = ap (at_or_0 (λ (q : ℕ) (y : Entry). 1) old) is in omega arith

module _ (b : Bool) (old new : ℕ) (y : Space) where
  -- the space whose members follow a set that is renamed
  abbrev followed : Space
  followed = members_follow b old new y

module _ (old new : ℕ) (y : Space) where
  -- its rights stay known
  followed_known : (b : Bool) (k : ℕ → Option ℕ) (F : ℕ → PortRight → Type 0)
      → ((n : ℕ) (e : Entry) → get y n ≡ Some e → Known k F (entry_rights e)) → (n : ℕ) (f : Entry)
      → get (followed b old new y) n ≡ Some f → Known k F (entry_rights f)
  followed_known true k F known =
      known-alter k F (in_renamed old new) y (renamed_keeps_rights old new) known
  followed_known false k F known = known

  -- a port still has one name
  followed_one_name : (b : Bool) → HasOneName y → HasOneName (followed b old new y)
  followed_one_name true one =
      one_name-alter (in_renamed old new) y (renamed_keeps_rights old new) one
  followed_one_name false one = one

  -- the space has the same receive rights
  followed_receives : (b : Bool) (p : ℕ)
      → space_receives p (followed b old new y) ≡ space_receives p y
  followed_receives true p =
      space_receives-alter (in_renamed old new) y p (renamed_keeps_rights old new)
  followed_receives false p = refl

  -- there are no more names than before
  followed_len : (b : Bool) → len (followed b old new y) ≤ len y
  followed_len true = len-alter_all (in_renamed old new) y
  followed_len false = omega arith

module _ (W : Wiring) (G : FactSet) where
  -- rename
  pub rename_keeps : (w : World) (t task old new : ℕ) → Kept W G w
      → Keeps W G (call_rename w t task old new)
  unfolding call_rename moved
  rename_keeps w t task old new kept =
      bind _ _ (target_is W G w t task _ kept) (λ u is.
      bind_ _ _ (not_refused (is_reserved new) _) (λ _ _.
      bind _ _ (same_entry w u old) (λ e at.
      bind_ _ _ (not_refused (is_used (get (space w.store u) new)) _) (λ _ unused.
      let x = space w.store u in
      let free = not_used (get x new) unused in
      let z = moved x old new e in
      let y = followed (is_set e) old new z in
      let k = class_of w.store in
      let may = MayHold G (task_class w u) in
      gives_ok (keeps_with W G w (set_space w.store u y) kept record {
        sound = set_space_sound W G (task_class w) w.store [] [] u y kept.sound
            (λ p c has.
            let a = followed_receives old new z (is_set e) p in
            let b = moved_receives x old new e at free p in omega arith)
            (followed_known old new z (is_set e) k may
            (moved_known x old new e at free k may (kept.sound.covers.held u)))
            (followed_one_name old new z (is_set e)
            (moved_one_name x old new e at free (kept.sound.one_name u)));
        changes = set_space_changes w.store u y is.alive;
      } (λ v. elim (cases_eq v u) [
        | inl same ↦ rw same (rw (space-set_same w.store u y)
            (le_trans (followed_len old new z (is_set e))
            (le_trans (moved_len x old new e at free) (kept.few u))))
        | inr n ↦ rw (space-set_other w.store u v y n) (kept.few v)
      ]))))))
