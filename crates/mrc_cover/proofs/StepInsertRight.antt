-- insert_right keeps a world well formed and covered. New is that the task that the caller acts for
-- holds a right of the caller. The caller may hold a send right to that task's kernel port, and is
-- trusted to give the right, so the fact comes by K7.
use Rattle.std.proofs.Common.{[], inl, inr, sym, ℕ, ◌||◌, ◌∙◌}
use Rattle.std.proofs.Math.Nat.{le_trans}
use Rattle.std.proofs.lemmas.Bool.{cases_eq}
use Rattle.mrc_base.specs.Disposition.{given}
use Rattle.mrc_base.specs.declared.Disp.{Disp}
use Rattle.mrc_model.proofs.Spaces.{space-set_other, space-set_same}
use Rattle.mrc_model.proofs.Tries.{bind, bind_, checked, gives_ok, not_refused}
use Rattle.mrc_model.specs.CallInsertRight.{call_insert_right}
use Rattle.mrc_model.specs.CallSend.{dead_taken, is_dead_taken}
use Rattle.mrc_model.specs.Covers.{KnownAt}
use Rattle.mrc_model.specs.Map.{get}
use Rattle.mrc_model.specs.Rules.{FactSet}
use Rattle.mrc_model.specs.Target.{is_reserved}
use Rattle.mrc_model.specs.Trust.{may_on}
use Rattle.mrc_model.specs.Wiring.{Wiring}
use Rattle.mrc_model.specs.World.{World, class_of, set_space, space, task_class}
use Rattle.mrc_model.specs.declared.Item.TheVariants.{Right as RightItem}
use Rattle.mrc_model.specs.declared.Verb.TheVariants.{Gives}
use Rattle.mrc_cover.proofs.Gaining.{insert_at_gains}
use Rattle.mrc_cover.proofs.Giving.{gained_leaves}
use Rattle.mrc_cover.proofs.Kept.{IsAlive, Keeps, Kept, keeps_with, target_is}
use Rattle.mrc_cover.proofs.Obeyed.{Obeys, obeys}
use Rattle.mrc_cover.proofs.Rights.{MayHold, right_on}
use Rattle.mrc_cover.proofs.Sound.{leaves_then, receive_in_hand_is_alone}
use Rattle.mrc_cover.proofs.Taking.{take_leaves}
use Rattle.mrc_cover.proofs.Trusting.{given_fact}

module _ (W : Wiring) (G : FactSet) where
  -- a right is taken from the caller and put under a name of the task that it acts for, which may
  -- hold it too (K7)
  pub insert_right_keeps : Obeys W G → (w : World) (t task name right : ℕ) (x : Disp) → IsAlive w t
      → Kept W G w
      → Keeps W G (call_insert_right W w t task name right x)
  unfolding call_insert_right
  insert_right_keeps obeys w t task name right x alive kept =
      bind _ _ (target_is W G w t task _ kept) (λ u is.
      bind_ _ _ (not_refused (is_reserved name) _) (λ _ _.
      bind_ _ _ (not_refused
      (is_reserved right || is_dead_taken (dead_taken (get (space w.store t) right) x)) _)
      (λ _ _.
      bind _ _ (take_leaves W G (task_class w)
      (IsAlive w) obeys w.store [] t right x _ _ alive kept.sound) (λ got h.
      bind_ _ _ (checked (may_on W w Gives t u (RightItem got.1 (given x))) _) (λ _ trusted.
      let class = sym (h.leaves.changes.classes got.1) ∙ h.known.1 in
      let τ = task_class w u in
      let known : KnownAt (class_of got.0) (MayHold G τ) (right_on got.1 (given x)) = (
        h.known.0,
        h.known.1,
        given_fact W G obeys w t u got.1 h.known.0 (given x) is class trusted h.known.2,
      ) in
      bind _ _ (insert_at_gains (class_of got.0) (MayHold G (task_class w u))
      (space got.0 u) name got.1 (given x)
      (receive_in_hand_is_alone W G (task_class w) got.0 [] u got.1 (given x)
      (MayHold G (task_class w u)) h.leaves.sound known)) (λ y ok.
      let gained = gained_leaves W G (task_class w) (IsAlive w) got.0 [] u got.1
      (given x) y is.alive h.leaves.sound known ok.gained in
      gives_ok (keeps_with W G w (set_space got.0 u y) kept (leaves_then h.leaves.changes gained)
      (λ v. elim (cases_eq v u) [
        | inl e ↦ rw e (rw (space-set_same got.0 u y) (ok.room (le_trans (h.small u) (kept.few u))))
        | inr n ↦ rw (space-set_other got.0 u v y n) (le_trans (h.small v) (kept.few v))
      ]))))))))
