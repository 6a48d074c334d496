-- allocate keeps a world well formed and covered. New is a port of the births of the task that the
-- caller acts for, which holds its receive right: that fact comes by K2. Sets and dead names show
-- no right.
use Rattle.std.proofs.Common.{Bool, List, Some, [], ap, arith, false, if◌then◌else◌, inl, inr}
use Rattle.std.proofs.Common.{length, nat_le, nat_lt, refl, subst, suc, sym, true, ℕ, ◌&&◌, ◌+◌}
use Rattle.std.proofs.Common.{◌<◌, ◌==◌, ◌||◌, ◌∷◌, ◌≡◌, ◌≤◌}
use Rattle.std.proofs.lemmas.Bool.{and_right, both_ways, cases_eq, le-ltb}
use Rattle.mrc_base.specs.declared.Right.{Right}
use Rattle.mrc_model.proofs.Maps.{at_or_0, len-insert, not_None, origin-insert, same_Some}
use Rattle.mrc_model.proofs.Maps.{total-insert}
use Rattle.mrc_model.proofs.Spaces.{get-unused, space-set_other, space-set_same}
use Rattle.mrc_model.proofs.Tries.{bind, bind_, checked, found, gives_err, gives_ok, not_refused}
use Rattle.mrc_base.specs.Limits.{limit_of_births, limit_of_ports}
use Rattle.mrc_model.specs.CallAllocate.{allocate_entry, allocate_in, allocate_port, call_allocate}
use Rattle.mrc_model.specs.Covers.{Known, owed}
use Rattle.mrc_model.specs.Map.{insert, len}
use Rattle.mrc_model.specs.Rules.{FactSet}
use Rattle.mrc_model.specs.Space.{is_entry_of, is_full, unused}
use Rattle.mrc_model.specs.Target.{with_space}
use Rattle.mrc_model.specs.Wiring.{Wiring, births_class, births_from, numbers_of}
use Rattle.mrc_model.specs.World.{World, class_of, entry_rights, receives, set_space, space}
use Rattle.mrc_model.specs.World.{space_receives, task_class}
use Rattle.mrc_model.specs.declared.Entry.{Entry}
use Rattle.mrc_model.specs.declared.Entry.TheVariants.{DeadName as DeadEntry, PortSet as SetEntry}
use Rattle.mrc_cover.proofs.Births.{birth_keeps, birth_small}
use Rattle.mrc_cover.proofs.Gaining.{room_if_not_full}
use Rattle.mrc_cover.proofs.Kept.{IsAlive, IsTarget, Keeps, Kept, keeps_with, target_is}
use Rattle.mrc_cover.proofs.Obeyed.{Obeys, obeys}
use Rattle.mrc_cover.proofs.Rights.{MayHold, entry_receives}
use Rattle.mrc_cover.proofs.Sound.{set_space_changes, set_space_sound}
use Rattle.mrc_cover.proofs.Stores.{is_kernel_class}
use Rattle.mrc_cover.proofs.Taking.{one_name_if_traced}
use Rattle.mrc_base.specs.declared.Right.TheVariants as named

-- the class of a kind of births is one of the births
births_from-range : (c u kind : ℕ) (bs : List (ℕ × ℕ)) (d : ℕ) → births_from c u kind bs ≡ Some d
    → (c ≤ d) × (d < c + length bs)
births_from-range c u kind [] d is = absurd (not_None d (sym is))
births_from-range c u kind (b ∷ bs) d is =
    let go : (here : Bool) → (if here then Some c else births_from (c + 1) u kind bs) ≡ Some d
    → (c ≤ d) × (d < c + suc (length bs)) = elim [
      | true ↦ λ e. let same : c ≡ d = same_Some c d e in (omega arith, omega arith)
      | false ↦ λ e.
          let rest = births_from-range (c + 1) u kind bs d e in
          let low = rest.0 in let high = rest.1 in (omega arith, omega arith)
    ] in
    go (b.0 == u && b.1 == kind) is

-- a class above those of kernel ports is none of them
above_kernels : (W : Wiring) (c : ℕ) → W.ports + W.tasks ≤ c → is_kernel_class W c ≡ false
above_kernels W c above =
    and_right (nat_le W.ports c) (nat_lt c (W.ports + W.tasks)) (le-ltb c (W.ports + W.tasks) above)

module _ (W : Wiring) (G : FactSet) where
  -- a new entry that shows no right
  plain_entry_keeps : (w : World) (u : ℕ) (e : Entry) → IsAlive w u → entry_rights e ≡ []
      → ((p : ℕ) → is_entry_of p e ≡ true → ⊥) → is_full (space w.store u) ≡ false → Kept W G w
      → Kept W G (with_space w u (insert (space w.store u) (unused (space w.store u)) e))
  unfolding space_receives
  plain_entry_keeps w u e alive plain portless room kept =
      let x = space w.store u in
      let y = insert x (unused x) e in
      keeps_with W G w (set_space w.store u y) kept record {
        sound = set_space_sound W G (task_class w) w.store [] [] u y kept.sound
            (λ p c is.
            let a = total-insert (entry_receives p) x (unused x) e in
            let b = ap (at_or_0 (entry_receives p) (unused x)) (get-unused x) in
            let d = ap (receives p) plain in omega arith)
            (λ n f at. elim (origin-insert x (unused x) e n f at) [
              | inl h ↦
                  let bare : Known (class_of w.store) (MayHold G (task_class w u)) [] =
                  record { all = tt } in
                  rw h.1 at (subst (Known (class_of w.store) (MayHold G (task_class w u)))
                  (sym plain) bare)
              | inr h ↦ kept.sound.covers.held u n f h.1
            ])
            (one_name_if_traced x y (kept.sound.one_name u)
            (λ m f p at here. elim (origin-insert x (unused x) e m f at) [
              | inl h ↦ absurd (portless p (rw (sym h.1) at here))
              | inr h ↦ (f, h.1, here)
            ]));
        changes = set_space_changes w.store u y alive;
      } (λ v. elim (cases_eq v u) [
        | inl z ↦ rw z (rw (space-set_same w.store u y) (
            let a = room_if_not_full x room in
            let b = len-insert x (unused x) e in omega arith))
        | inr n ↦ rw (space-set_other w.store u v y n) (kept.few v)
      ])

  -- a new port (K2)
  allocate_port_keeps : Obeys W G → (w : World) (t u kind : ℕ) → IsTarget W G w t u → Kept W G w
      → Keeps W G (allocate_port w u (births_class W (task_class w u) kind))
  allocate_port_keeps obeys w t u kind is kept =
      bind _ _ (found (births_class W (task_class w u) kind) _) (λ c has.
      bind_ _ _ (not_refused (is_full (space w.store u)) _) (λ _ room.
      bind_ _ _ (not_refused
      (nat_le limit_of_ports (len w.store.ports) || nat_le limit_of_births w.store.next) _)
      (λ _ _.
      let (low, high) = births_from-range (W.ports + W.tasks)
      (task_class w u) kind W.births c has in
      let plain = above_kernels W c low in
      let owes : owed (numbers_of W) c ≡ 1 = ap (λ (b : Bool). if b then 0 else 1) plain in
      let fact = obeys.births kind has is.class high in
      let small = birth_small W G (task_class w) w.store u c kept.sound high owes fact in
      let free = room_if_not_full (space w.store u) room in
      gives_ok (birth_keeps W G w u c is.alive high owes plain fact (omega arith) kept))))

  -- a new entry that is no port's
  allocate_entry_keeps : (w : World) (t u kind : ℕ) (e : Entry) → IsTarget W G w t u
      → entry_rights e ≡ []
      → ((p : ℕ) → is_entry_of p e ≡ true → ⊥) → Kept W G w
      → Keeps W G (allocate_entry w u kind e)
  allocate_entry_keeps w t u kind e is plain portless kept =
      bind_ _ _ (checked (kind == 0) _) (λ _ _.
      bind_ _ _ (not_refused (is_full (space w.store u)) _) (λ _ room.
      gives_ok (plain_entry_keeps w u e is.alive plain portless room kept)))

  -- each of the five rights that allocate may name
  allocate_in_keeps : Obeys W G → (w : World) (t u : ℕ) (right : Right) (kind : ℕ)
      → IsTarget W G w t u → Kept W G w
      → Keeps W G (allocate_in W w u right kind)
  allocate_in_keeps obeys w t u named.Send kind is kept = gives_err _ _
  allocate_in_keeps obeys w t u named.SendOnce kind is kept = gives_err _ _
  allocate_in_keeps obeys w t u named.Receive kind is kept =
      allocate_port_keeps obeys w t u kind is kept
  allocate_in_keeps obeys w t u named.PortSet kind is kept =
      allocate_entry_keeps w t u kind SetEntry is refl
      (λ p e. both_ways false refl e) kept
  allocate_in_keeps obeys w t u named.DeadName kind is kept =
      allocate_entry_keeps w t u kind (DeadEntry 1) is refl
      (λ p e. both_ways false refl e) kept

  -- allocate
  pub allocate_keeps : Obeys W G → (w : World) (t task : ℕ) (right : Right) (kind : ℕ) → Kept W G w
      → Keeps W G (call_allocate W w t task right kind)
  unfolding call_allocate
  allocate_keeps obeys w t task right kind kept = bind _ _ (target_is W G w t task _ kept)
      (λ u is. allocate_in_keeps obeys w t u right kind is kept)
