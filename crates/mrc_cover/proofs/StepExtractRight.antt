-- extract_right keeps a world well formed and covered. New is that the caller holds a right of the
-- task that it acts for. The caller may hold a send right to that task's kernel port, and is
-- trusted to take the right, so the fact comes by K7.
use Rattle.std.proofs.Common.{[], arith, inl, inr, sym, ℕ, ◌∙◌}
use Rattle.std.proofs.Math.Nat.{le_trans}
use Rattle.std.proofs.lemmas.Bool.{cases_eq}
use Rattle.mrc_base.specs.Disposition.{given}
use Rattle.mrc_base.specs.declared.Disp.{Disp}
use Rattle.mrc_model.proofs.Tries.{bind, bind_, checked, gives_ok, not_refused}
use Rattle.mrc_model.specs.CallInsertRight.{call_extract_right}
use Rattle.mrc_model.specs.Covers.{KnownAt}
use Rattle.mrc_model.specs.Rules.{FactSet}
use Rattle.mrc_model.specs.Space.{give_item, is_full}
use Rattle.mrc_model.specs.Trust.{may_on}
use Rattle.mrc_model.specs.Wiring.{Wiring}
use Rattle.mrc_model.specs.World.{World, class_of, space, task_class}
use Rattle.mrc_model.specs.declared.Item.TheVariants.{Right as RightItem}
use Rattle.mrc_model.specs.declared.Verb.TheVariants.{Takes}
use Rattle.mrc_cover.proofs.Gaining.{room_if_not_full}
use Rattle.mrc_cover.proofs.Giving.{give_right_leaves}
use Rattle.mrc_cover.proofs.Kept.{IsAlive, Keeps, Kept, keeps_with, target_is}
use Rattle.mrc_cover.proofs.Obeyed.{Obeys, obeys}
use Rattle.mrc_cover.proofs.Rights.{MayHold, right_on}
use Rattle.mrc_cover.proofs.Sound.{leaves_then}
use Rattle.mrc_cover.proofs.Taking.{take_leaves}
use Rattle.mrc_cover.proofs.Trusting.{taken_fact}

module _ (W : Wiring) (G : FactSet) where
  -- a right is taken from the task that the caller acts for, and given to the caller, which may
  -- hold it too (K7)
  pub extract_right_keeps : Obeys W G → (w : World) (t task name : ℕ) (x : Disp) → IsAlive w t
      → Kept W G w
      → Keeps W G (call_extract_right W w t task name x)
  unfolding call_extract_right
  extract_right_keeps obeys w t task name x alive kept =
      bind _ _ (target_is W G w t task _ kept) (λ u is.
      bind _ _ (take_leaves W G (task_class w)
      (IsAlive w) obeys w.store [] u name x _ _ is.alive kept.sound) (λ got h.
      bind_ _ _ (checked (may_on W w Takes t u (RightItem got.1 (given x))) _) (λ _ trusted.
      bind_ _ _ (not_refused (is_full (space got.0 t)) _) (λ _ room.
      let class = sym (h.leaves.changes.classes got.1) ∙ h.known.1 in
      let τ = task_class w t in
      let known : KnownAt (class_of got.0) (MayHold G τ) (right_on got.1 (given x)) = (
        h.known.0,
        h.known.1,
        taken_fact W G obeys w t u got.1 h.known.0 (given x) is class trusted h.known.2,
      ) in
      let gained = give_right_leaves W G (task_class w) (IsAlive w) got.0 [] t got.1
      (given x) alive h.leaves.sound known in
      gives_ok (keeps_with W G w (give_item got.0 t (RightItem got.1 (given x))).0 kept
      (leaves_then h.leaves.changes gained.0)
      (λ v. elim (cases_eq v t) [
        | inl e ↦ rw e
            (let a = gained.1 in let b = room_if_not_full (space got.0 t) room in omega arith)
        | inr n ↦ rw (gained.2 v n) (le_trans (h.small v) (kept.few v))
      ]))))))
