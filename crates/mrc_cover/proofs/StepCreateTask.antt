-- task_create keeps a world well formed and covered. The new task's own send right to its kernel
-- port is one that the task it is made from may hold, and the caller's is one that it held already,
-- by its class.
use Rattle.std.proofs.Common.{None, [], ap, arith, false, inl, inr, refl, subst, sym}
use Rattle.std.proofs.Common.{true, ℕ, ◌∙◌, ◌≡◌}
use Rattle.std.proofs.lemmas.Bool.{both_ways, cases_eq}
use Rattle.mrc_base.specs.declared.Fact.TheVariants.{Hold}
use Rattle.mrc_base.specs.declared.PortRight.TheVariants.{Send}
use Rattle.mrc_model.proofs.Maps.{get-insert_other, get-next_key, same_Some}
use Rattle.mrc_model.proofs.Tries.{bind, bind_, found, gives_ok, not_refused}
use Rattle.mrc_model.specs.CallCreateTask.{call_create_task, is_short_of_tasks, with_task}
use Rattle.mrc_model.specs.Covers.{KnownAt}
use Rattle.mrc_model.specs.Map.{get, len, next_key}
use Rattle.mrc_model.specs.Rules.{FactSet}
use Rattle.mrc_model.specs.Space.{give_item, is_full}
use Rattle.mrc_model.specs.Target.{is_alive, with_store}
use Rattle.mrc_model.specs.Wiring.{Wiring, kernel_class}
use Rattle.mrc_model.specs.World.{World, class_of, space, task_class}
use Rattle.mrc_model.specs.declared.Item.TheVariants.{Right as RightItem}
use Rattle.mrc_cover.proofs.Gaining.{room_if_not_full}
use Rattle.mrc_cover.proofs.Giving.{give_right_leaves}
use Rattle.mrc_cover.proofs.Kept.{IsAlive, IsTarget, Keeps, Kept, keeps_with, target_is}
use Rattle.mrc_cover.proofs.Kept.{task_class_is}
use Rattle.mrc_cover.proofs.NewTask.{new_task_class, new_task_classes, new_task_keeps}
use Rattle.mrc_cover.proofs.NewTask.{new_task_spaces}
use Rattle.mrc_cover.proofs.Rights.{MayHold, right_on}
use Rattle.mrc_cover.proofs.Sound.{exchange_hand}

module _ (W : Wiring) (G : FactSet) (w : World) (t u : ℕ) (alive : IsAlive w t)
    (is : IsTarget W G w t u) (kept : Kept W G w)
    (fact : G (Hold (task_class w u) (kernel_class W (task_class w u)) Send)) where
  -- the number of the new task
  number : ℕ
  number = next_key w.tasks

  -- no task has it
  fresh : get w.tasks number ≡ None
  unfolding number
  fresh = get-next_key w.tasks

  -- so the caller is another task
  apart : t ≡ number → ⊥
  apart same = both_ways (is_alive (get w.tasks t)) (ap (λ v. is_alive (get w.tasks v)) same
      ∙ ap is_alive fresh) alive.of

  -- the world with the new task
  made : World
  made = with_task w number (task_class w u) (kernel_class W (task_class w u))

  -- it is kept so
  made_kept : Kept W G made
  unfolding made
  made_kept = new_task_keeps W G w number (task_class w u) kept fresh is.class fact

  -- the caller is still alive
  made_alive : IsAlive made t
  unfolding made
  made_alive = record { of = ap is_alive (get-insert_other w.tasks number _ t apart) ∙ alive.of }

  -- the caller may hold the new kernel port
  made_known : KnownAt (class_of made.store) (MayHold G (task_class made t))
      (right_on w.store.next Send)
  unfolding made
  made_known = (
    kernel_class W (task_class w u),
    new_task_class W G w number (task_class w u) kept fresh is.class fact,
    subst (λ v. G (Hold v (kernel_class W (task_class w u)) Send))
        (sym (new_task_classes W G w number (task_class w u) kept fresh is.class fact t apart))
        is.acts,
  )

  -- and is given a send right to it
  made_and_given : is_full (space w.store t) ≡ false
      → Kept W G (with_store made (give_item made.store t (RightItem w.store.next Send)).0)
  unfolding made
  made_and_given room =
      let gained = give_right_leaves W G (task_class made) (IsAlive made) made.store [] t
      w.store.next Send made_alive (exchange_hand (λ q. refl) made_kept.sound) made_known in
      keeps_with W G made (give_item made.store t (RightItem w.store.next Send)).0 made_kept
      gained.0
      (λ v. elim (cases_eq v t) [
        | inl e ↦ rw e (
            let a = gained.1 in
            let b = room_if_not_full (space w.store t) room in
            let c = ap len (new_task_spaces W G w number (task_class w u) kept fresh is.class fact
            t apart) in
            omega arith)
        | inr n ↦ rw (gained.2 v n) (made_kept.few v)
      ])

module _ (W : Wiring) (G : FactSet) where
  -- task_create
  pub create_task_keeps : (w : World) (t task : ℕ) → IsAlive w t → Kept W G w
      → Keeps W G (call_create_task w t task)
  unfolding call_create_task number made
  create_task_keeps w t task alive kept =
      bind _ _ (target_is W G w t task _ kept) (λ u is.
      bind _ _ (found (get w.tasks u) _) (λ x at.
      bind _ _ (found (class_of w.store x.kernel) _) (λ c has.
      bind_ _ _ (not_refused (is_full (space w.store t)) _) (λ _ room.
      bind_ _ _ (not_refused (is_short_of_tasks w) _) (λ _ _.
      let class = task_class_is W G w u x at in
      let lives : x.alive ≡ true = sym (ap is_alive at) ∙ is.alive.of in
      let kernel : c ≡ kernel_class W (task_class w u) =
      same_Some c _ (sym has ∙ kept.tasks.kernel u x at lives) ∙ ap (kernel_class W) (sym class) in
      let own = subst (λ v. G (Hold v (kernel_class W v) Send)) (sym class)
      (kept.kernels u x at lives) in
      gives_ok (rw (kernel, sym class) (made_and_given W G w t u alive is kept own room)))))))
