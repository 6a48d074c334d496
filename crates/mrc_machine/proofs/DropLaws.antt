-- What dropping references and names comes to, from what each step of code tells.
use Rattle.std.proofs.Common.{◌≡◌, ℕ, Option, Some, None, Ok, Err, Result, refl, sym, ap, ◌∙◌}
use Rattle.std.proofs.Common.{subst}
use Rattle.std.specs.Prelude.{ℤ, IsOk, IsSome, false, is_some}
use Rattle.mrc_base.specs.declared.Right.{Right}
use Rattle.mrc_model.specs.declared.Entry.{Entry}
use Rattle.mrc_model.specs.declared.Code.TheVariants.{KernInvalidTask}
use Rattle.mrc_model.specs.Map.{get}
use Rattle.mrc_model.specs.World.{Space, World, space}
use Rattle.mrc_model.specs.Reply.{Reply, Done, Refused, Try, ◌>>=◌, or_refuse}
use Rattle.mrc_model.specs.Target.{bad_name, wrong_right, entry_at, with_space, with_store}
use Rattle.mrc_model.specs.CallDeallocate.{Change, Remains, DestroysReceive, DestroysEntry}
use Rattle.mrc_model.specs.CallDeallocate.{changed, drop_one, call_deallocate, call_destroy}
use Rattle.mrc_model.specs.CallModRefs.{change_refs, call_mod_refs}
use Rattle.mrc_model.specs.Destroyed.{EntryOf, destroyed}
use Rattle.mrc_names.specs.declared.dropping.Dropped.{Dropped}
use Rattle.mrc_names.specs.declared.dropping.Dropped.TheVariants.{References, ReceiveRight}
use Rattle.mrc_names.specs.declared.dropping.Dropped.TheVariants.{WholeEntry}
use Rattle.mrc_names.specs.Changes as names
use Rattle.mrc_names.specs.Changes.{drop_refs, drop_reference}
use Rattle.mrc_machine.specs.Drops.{after_drop, IsDone}
use Rattle.mrc_machine.specs.Housing.{target_of}
use Rattle.mrc_machine.proofs.TargetLaws.{target_none, target_some}
use Rattle.mrc_machine.proofs.Trying.{ok_bind, same_Ok, not_Err}

-- the world after what is left went, where the space of u is y by then, if references alone were dropped
abbrev pub with_drop : World → ℕ → ℕ → Space → Dropped → World
with_drop w u n y References = with_space w u y
with_drop w u n y ReceiveRight = after_drop w u n ReceiveRight
with_drop w u n y WholeEntry = after_drop w u n WholeEntry

-- what is answered for a name of u whose references were changed in its space
abbrev pub on_drop : World → ℕ → ℕ → Space × Dropped → Try (World × Reply)
on_drop w u n got = Ok (with_drop w u n got.0 got.1, Done)

-- a change of an entry is one of its space, and then of the world
change_by_space : (w : World) (u n : ℕ) (c : Change)
    → ◌≡◌ {A = Try (World × Reply)} (Ok (with_store w (changed w.store u n c), Done))
    (on_drop w u n (names.changed (space w.store u) n c))
change_by_space w u n (Remains rest) = refl
change_by_space w u n DestroysReceive = refl
change_by_space w u n DestroysEntry = refl

-- the space is as it was, where something is still to be destroyed
abbrev Stays : Space → Space × Dropped → Type 0
Stays x got = (IsDone got.1 → ⊥) → got.0 ≡ x

change_stays : (x : Space) (n : ℕ) (c : Change) → Stays x (names.changed x n c)
change_stays x n (Remains rest) left = absurd (left tt)
change_stays x n DestroysReceive left = refl
change_stays x n DestroysEntry left = refl

-- by an entry of the space, what a change of it comes to
module _ (x : Space) (n : ℕ) (f : Entry → Try Change) where
  -- the space after it
  abbrev in_space : Option Entry → Try (Space × Dropped)
  in_space o = or_refuse o bad_name >>= λ e. f e >>= λ c. Ok (names.changed x n c)

  stays : (o : Option Entry) (y : Space) (d : Dropped)
      → in_space o ≡ Ok (y, d)
      → (IsDone d → ⊥)
      → y ≡ x
  unfolding or_refuse ◌>>=◌
  stays None y d is left = absurd (not_Err _ _ (sym is))
  stays (Some e) y d is left = go (f e) is
    where
      go : (m : Try Change) → (m >>= λ c. Ok (names.changed x n c)) ≡ Ok (y, d) → y ≡ x
      go (Err e) told = absurd (not_Err _ _ (sym told))
      go (Ok c) told =
          let same = same_Ok _ _ told in
          sym (ap (λ z. z.0) same)
          ∙ change_stays x n c (λ done. left (subst IsDone (ap (λ z. z.1) same) done))

module _ (w : World) (u n : ℕ) (f : Entry → Try Change) where
  -- the world after it
  abbrev in_world : Option Entry → Try (World × Reply)
  in_world o =
      or_refuse o bad_name >>= λ e. f e >>= λ c. Ok (with_store w (changed w.store u n c), Done)

  change_is : (m : Try Change)
      → (m >>= λ c. Ok (with_store w (changed w.store u n c), Done))
      ≡ ((m >>= λ c. Ok (names.changed (space w.store u) n c)) >>= on_drop w u n)
  unfolding ◌>>=◌
  change_is (Ok c) = change_by_space w u n c
  change_is (Err e) = refl

  world_by_space : (o : Option Entry)
      → in_world o ≡ (in_space (space w.store u) n f o >>= on_drop w u n)
  unfolding or_refuse ◌>>=◌
  world_by_space None = refl
  world_by_space (Some e) = change_is (f e)

-- the space is as it was, where something is left to be destroyed

pub reference_stays : (x y : Space) (n : ℕ) (d : Dropped)
    → drop_reference x n ≡ Ok (y, d)
    → (IsDone d → ⊥)
    → y ≡ x
unfolding drop_reference
reference_stays x y n d is left =
    stays x n (λ e. or_refuse (drop_one e) wrong_right) (get x n) y d is left

pub refs_stay : (x y : Space) (n : ℕ) (r : Right) (delta : ℤ) (d : Dropped)
    → drop_refs x n r delta ≡ Ok (y, d)
    → (IsDone d → ⊥)
    → y ≡ x
unfolding drop_refs
refs_stay x y n r delta d is left = stays x n (λ e. change_refs e r delta) (get x n) y d is left

-- the task

pub deallocate_no_task : (w : World) (t task n : ℕ)
    → target_of w t task ≡ None
    → call_deallocate w t task n ≡ Err (Refused KernInvalidTask)
unfolding call_deallocate ◌>>=◌
deallocate_no_task w t task n none = rw (target_none w t task KernInvalidTask none) refl

pub mod_refs_no_task : (w : World) (t task n : ℕ) (r : Right) (delta : ℤ)
    → target_of w t task ≡ None
    → call_mod_refs w t task n r delta ≡ Err (Refused KernInvalidTask)
unfolding call_mod_refs ◌>>=◌
mod_refs_no_task w t task n r delta none = rw (target_none w t task KernInvalidTask none) refl

-- one reference

module _ (w : World) (t task n u : ℕ) (task_is : target_of w t task ≡ Some u) where
  pub deallocate_by_space :
      call_deallocate w t task n ≡ (drop_reference (space w.store u) n >>= on_drop w u n)
  unfolding call_deallocate drop_reference entry_at
  deallocate_by_space =
      ok_bind _ u _ (target_some w t task u KernInvalidTask task_is)
      ∙ world_by_space w u n (λ e. or_refuse (drop_one e) wrong_right) (get (space w.store u) n)

  -- references of a right
  pub mod_refs_by_space : (r : Right) (delta : ℤ)
      → call_mod_refs w t task n r delta
      ≡ (drop_refs (space w.store u) n r delta >>= on_drop w u n)
  unfolding call_mod_refs drop_refs entry_at
  mod_refs_by_space r delta =
      ok_bind _ u _ (target_some w t task u KernInvalidTask task_is)
      ∙ world_by_space w u n (λ e. change_refs e r delta) (get (space w.store u) n)

-- what code makes of the space that it dropped references in

-- the space of u is y by then
module _ (w : World) (u n : ℕ) (x y : Space) (d : Dropped) (m : Try (Space × Dropped))
    (call : Try (World × Reply))
    (call_is : call ≡ (m >>= on_drop w u n))
    (done : m ≡ Ok (y, d))
    (back : with_space w u x ≡ w)
    (same : (IsDone d → ⊥) → y ≡ x)
    (z : World) (put : z ≡ with_space w u y) where
  -- where something is left to be destroyed, the world is as it was
  pub stayed : (IsDone d → ⊥) → z ≡ w
  stayed left = put ∙ ap (with_space w u) (same left) ∙ back

  dropped_is : (v : World) → v ≡ after_drop z u n d → v ≡ with_drop w u n y d
  dropped_is v after = go d refl
    where
      go : (e : Dropped) → d ≡ e → v ≡ with_drop w u n y d
      go References is = rw is (after ∙ ap (after_drop z u n) is ∙ put)
      go ReceiveRight is =
          rw is (after ∙ ap (after_drop z u n) is
          ∙ ap (λ (k : World). after_drop k u n ReceiveRight) (stayed (subst IsDone is)))
      go WholeEntry is =
          rw is (after ∙ ap (after_drop z u n) is
          ∙ ap (λ (k : World). after_drop k u n WholeEntry) (stayed (subst IsDone is)))

  pub drop_done : (v : World) → v ≡ after_drop z u n d → call ≡ Ok (v, Done)
  drop_done v after =
      call_is ∙ ok_bind m (y, d) (on_drop w u n) done
      ∙ ap (λ (k : World). Ok (k, Done)) (sym (dropped_is v after))

  -- it is not refused
  pub drop_goes : IsOk call
  drop_goes = subst IsOk (sym (call_is ∙ ok_bind m (y, d) (on_drop w u n) done)) refl

-- where memory ran out, something was left to be destroyed
pub undone : {U E : Type 0} (d : Dropped) (r : Result U E) (e : E)
    → (IsDone d → IsOk r)
    → r ≡ Err e
    → IsDone d
    → ⊥
undone d (Ok u) e ok err done = not_Err _ _ err
undone d (Err k) e ok err done = let bad = ok done in cc

-- an entry that is not there
pub no_some : {X : Type 0} (o : Option X) → is_some o ≡ false → o ≡ None
no_some None is = refl
no_some (Some x) is = cc

-- a whole name

module _ (w : World) (t task n : ℕ) where
  pub destroy_no_task : target_of w t task ≡ None
      → call_destroy w t task n ≡ Err (Refused KernInvalidTask)
  unfolding call_destroy ◌>>=◌
  destroy_no_task none = rw (target_none w t task KernInvalidTask none) refl

  module _ (u : ℕ) (task_is : target_of w t task ≡ Some u) (x : Space)
      (copy : x ≡ space w.store u) (o : Option Entry) (found : o ≡ get x n) where
    held : get (space w.store u) n ≡ o
    held = ap (λ (y : Space). get y n) (sym copy) ∙ sym found

    pub destroy_no_name : o ≡ None → call_destroy w t task n ≡ Err bad_name
    unfolding call_destroy entry_at ◌>>=◌ or_refuse
    destroy_no_name none = rw (target_some w t task u KernInvalidTask task_is, held, none) refl

    pub destroy_done : IsSome o
        → call_destroy w t task n ≡ Ok (with_store w (destroyed w.store (EntryOf u n)), Done)
    unfolding call_destroy entry_at ◌>>=◌ or_refuse
    destroy_done some =
        ok_bind _ u _ (target_some w t task u KernInvalidTask task_is) ∙ go o held some
      where
        gone : World × Reply
        gone = (with_store w (changed w.store u n DestroysEntry), Done)

        go : (k : Option Entry)
            → get (space w.store u) n ≡ k
            → IsSome k
            → (entry_at w u n >>= λ e. Ok gone) ≡ Ok gone
        go None at has = cc
        go (Some e) at has = rw at refl

    pub destroy_goes : IsSome o → IsOk (call_destroy w t task n)
    destroy_goes some = subst IsOk (sym (destroy_done some)) refl
