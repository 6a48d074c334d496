-- terminate keeps a world well formed and covered. All rights of the task are destroyed, and its
-- kernel port dies. New are only the notices on queues, of which those of a destroyed receive right
-- carry it (Noticing).
use Rattle.std.proofs.Common.{Bool, List, None, Option, Some, [], ap, arith, false, if◌then◌else◌}
use Rattle.std.proofs.Common.{inl, inr, refl, subst, sym, true, ℕ, ◌+◌, ◌∙◌, ◌∷◌, ◌≡◌, ◌≤◌}
use Rattle.std.proofs.Math.Nat.{le_trans}
use Rattle.std.proofs.lemmas.Bool.{both_ways, cases_eq, eq-eqb, ne_eqb}
use Rattle.std.specs.Option.{option_map, unwrap_or}
use Rattle.mrc_model.proofs.Dying.{dying_closed}
use Rattle.mrc_model.proofs.Maps.{get-empty, get-insert_other, get-insert_same, len-alter_all}
use Rattle.mrc_model.proofs.Maps.{len-empty, not_None, origin-insert, same_Some}
use Rattle.mrc_model.proofs.Spaces.{space-set_other, space-set_same}
use Rattle.mrc_model.proofs.Tries.{bind, found, gives_ok}
use Rattle.mrc_model.specs.CallTerminate.{call_terminate, ended}
use Rattle.mrc_model.specs.Covers.{Known}
use Rattle.mrc_model.specs.Death.{Doomed, destroy, dying, has, is_kernel_of}
use Rattle.mrc_model.specs.Destroyed.{all_rights, cleared, destroyed}
use Rattle.mrc_model.specs.Map.{Map, empty, get, insert, len, sum_list, total}
use Rattle.mrc_model.specs.Rules.{FactSet}
use Rattle.mrc_model.specs.Target.{is_alive}
use Rattle.mrc_model.specs.Wiring.{Wiring, kernel_class}
use Rattle.mrc_model.specs.World.{Held, Space, Store, Task, World, class_of, entry_rights, receives}
use Rattle.mrc_model.specs.World.{set_space, space, space_receives, task_class}
use Rattle.mrc_model.specs.declared.Entry.{Entry}
use Rattle.mrc_cover.proofs.Destroying.{IsDestroyed, destroy_leaves, kernel_is_kernel, kernel_lives}
use Rattle.mrc_cover.proofs.Destroying.{live_key, space-none}
use Rattle.mrc_cover.proofs.Kept.{Keeps, Kept, target_is}
use Rattle.mrc_cover.proofs.Obeyed.{Obeys}
use Rattle.mrc_cover.proofs.Pruning.{perish}
use Rattle.mrc_cover.proofs.Rights.{MayHold, entry_receives, receives-append}
use Rattle.mrc_cover.proofs.Sound.{SoundWith, set_space_sound}
use Rattle.mrc_cover.proofs.Stores.{port_of_class, space_receives-empty}

-- the receive rights of all entries
receives-all_rights : (q : ℕ) (es : List (ℕ × Entry))
    → receives q (all_rights es) ≡ sum_list (entry_receives q) es
receives-all_rights q [] = refl
receives-all_rights q (e ∷ es) =
    let a = receives-append q (entry_rights e.1) (all_rights es) in
    let b = receives-all_rights q es in omega arith

-- the same for a space
receives-space : (q : ℕ) (x : Space) → receives q (all_rights x.list) ≡ space_receives q x
unfolding space_receives total
receives-space q x = receives-all_rights q x.list

-- the classes of tasks as another function
same_tasks : (W : Wiring) (G : FactSet) (task other : ℕ → ℕ) (s : Store) (hand : List Held)
    → ((t : ℕ) → other t ≡ task t) → SoundWith W G task s hand → SoundWith W G other s hand
same_tasks W G task other s hand same sound = record {
  receive_once = sound.receive_once;
  numbers = sound.numbers;
  one_name = sound.one_name;
  covers = record {
    held =
        λ t n e is. subst (λ v. Known (class_of s) (MayHold G v) (entry_rights e)) (sym (same t))
        (sound.covers.held t n e is);
    carried = sound.covers.carried;
    backups = sound.covers.backups;
  };
}

-- the empty space has no rights
no_rights : all_rights (empty {X = Entry}).list ≡ []
unfolding empty
no_rights = refl

-- the empty space is not too large
few_empty : len {X = Entry} empty ≤ 4096
few_empty = let a = len-empty {X = Entry} empty refl in omega arith

module _ (W : Wiring) (G : FactSet) (obeys : Obeys W G) (w : World) (u : ℕ) (x : Task)
    (kept : Kept W G w)
    (at : get w.tasks u ≡ Some x) (alive : x.alive ≡ true) (z : Map Space)
    (emptied : SoundWith W G (task_class w) (record w.store { spaces = z })
    (all_rights (space w.store u).list))
    (own : unwrap_or (get z u) empty ≡ empty)
    (others : (t : ℕ) → (t ≡ u → ⊥) → unwrap_or (get z t) empty ≡ space w.store t) where
  -- the store in which the task has no entries
  s1 : Store
  s1 = record w.store { spaces = z }

  -- what is destroyed with the task
  doomed : Doomed
  doomed = record { rights = all_rights (space w.store u).list; kernel = Some x.kernel }

  -- what the destruction leaves is sound
  done : IsDestroyed W G (task_class w) s1 doomed (destroy s1 doomed)
  unfolding s1 doomed
  done = destroy_leaves W G obeys (task_class w) s1 doomed emptied

  -- the world after the end
  after : World
  after = record {
    tasks = insert w.tasks u (record x { alive = false });
    store = destroy s1 doomed;
  }

  -- tasks keep their classes
  class_after : (t : ℕ) → task_class after t ≡ task_class w t
  unfolding after
  class_after t = elim (cases_eq t u) [
    | inl e ↦ rw e (ap (λ o. unwrap_or (option_map (λ (x : Task). x.class) o) u)
        (get-insert_same w.tasks u (record x { alive = false }))
        ∙ sym (ap (λ o. unwrap_or (option_map (λ (x : Task). x.class) o) u) at))
    | inr n ↦ ap (λ o. unwrap_or (option_map (λ (x : Task). x.class) o) t)
        (get-insert_other w.tasks u (record x { alive = false }) t n)
  ]

  -- an empty name stays empty
  space_after : (t n : ℕ) → get (space s1 t) n ≡ None → get (space (destroy s1 doomed) t) n ≡ None
  space_after t n e =
      ap (λ v. get v n) (done.spaces t) ∙ space-none (dying s1 doomed) (space s1 t) n e

  -- another kernel port is not the task's
  other_kernel : (p : ℕ) → (x.kernel ≡ p → ⊥) → is_kernel_of doomed.kernel p ≡ false
  unfolding doomed
  other_kernel p n = ne_eqb x.kernel p n

  -- the task's kernel port is
  its_kernel : (p : ℕ) → x.kernel ≡ p → is_kernel_of doomed.kernel p ≡ true
  unfolding doomed
  its_kernel p e = eq-eqb x.kernel p e

  -- a port that lives has lived, and has kept its class
  class_of_after : (p c : ℕ) → class_of (destroy s1 doomed) p ≡ Some c
      → (has (dying s1 doomed) p ≡ false) × (class_of s1 p ≡ Some c)
  class_of_after p c is =
      let go : (b : Bool) → has (dying s1 doomed) p ≡ b
      → (if b then None else class_of s1 p) ≡ Some c
      → (has (dying s1 doomed) p ≡ false) × (class_of s1 p ≡ Some c) = elim [
        | true ↦ λ h z. absurd (not_None c (sym z))
        | false ↦ λ h z. (h, z)
      ] in
      go (has (dying s1 doomed) p) refl (sym (done.classes p) ∙ is)

  -- the task's kernel port dies
  kernel_dies : (c : ℕ) → class_of s1 x.kernel ≡ Some c → has (dying s1 doomed) x.kernel ≡ true
  kernel_dies c is =
      let (y, live) = port_of_class s1 x.kernel c is in
      dying_closed s1 doomed x.kernel (live_key s1 x.kernel y live) (rw (its_kernel x.kernel refl))

  -- a live task is another one, and was alive
  task_after : (t : ℕ) (y : Task) → get after.tasks t ≡ Some y → y.alive ≡ true
      → (t ≡ u → ⊥) × (get w.tasks t ≡ Some y)
  unfolding after
  task_after t y is a = elim (origin-insert w.tasks u (record x { alive = false }) t y is) [
    | inl h ↦ absurd (both_ways false refl (ap (λ (v : Task). v.alive) h.1 ∙ a))
    | inr h ↦ h
  ]

  -- each task was there, with its class and its kernel port
  any_task : (t : ℕ) (y : Task) → get after.tasks t ≡ Some y
      → (z : Task) × (get w.tasks t ≡ Some z) × (z.class ≡ y.class) × (z.kernel ≡ y.kernel)
  unfolding after
  any_task t y is = elim (origin-insert w.tasks u (record x { alive = false }) t y is) [
    | inl h ↦ (
      x,
      ap (get w.tasks) h.0
          ∙ at,
      ap (λ (v : Task). v.class) h.1,
      ap (λ (v : Task). v.kernel) h.1,
    )
    | inr h ↦ (y, h.1, refl, refl)
  ]

  -- the end of a task keeps the world
  end_keeps : Kept W G after
  unfolding after s1 doomed
  end_keeps = record {
    sound =
        same_tasks W G (task_class w) (task_class after)
        (destroy s1 doomed) [] class_after done.sound;
    few =
        λ t. rw (done.spaces t)
        (le_trans (len-alter_all (perish (dying s1 doomed)) (space s1 t)) (elim (cases_eq t u) [
          | inl e ↦ rw e (rw own few_empty)
          | inr n ↦ rw (others t n) (kept.few t)
        ]));
    tasks = record {
      class = λ t y is. let (z, was, c, k) = any_task t y is in rw c at (kept.tasks.class t z was);
      below =
          λ t y is. let (z, was, c, k) = any_task t y is in rw done.next
          (rw k at (kept.tasks.below t z was));
      kernel = λ t y is a.
          let (apart, was) = task_after t y is a in
          let class : class_of s1 y.kernel ≡ Some
          (kernel_class W y.class) = kept.tasks.kernel t y was a in
          let spared = other_kernel y.kernel
          (λ e. apart (kept.tasks.own t u y x was at a (sym e))) in
          let lives = kernel_lives W G obeys (task_class w) s1 doomed emptied y.kernel
          (W.ports + y.class) class
          (kernel_is_kernel W y.class (kept.tasks.class t y was)) spared in
          done.classes y.kernel ∙ ap (λ (b : Bool). if b then None else class_of s1 y.kernel) lives
          ∙ class;
      own = λ t v y z is js a e.
          let (before, was, c, k) = any_task v z js in
          kept.tasks.own t v y before (task_after t y is a).1 was a (e ∙ sym k);
      only = λ p c is k.
          let (lives, was) = class_of_after p c is in
          let (t, y, old, a, its) = kept.tasks.only p c was k in
          let apart : t ≡ u → ⊥ = λ e.
          let same : x ≡ y = same_Some x y (sym at ∙ ap (get w.tasks) (sym e) ∙ old) in
          let kernel : x.kernel ≡ p = ap (λ (v : Task). v.kernel) same ∙ its in
          both_ways (has (dying s1 doomed) p) lives
          (ap (has (dying s1 doomed)) (sym kernel)
          ∙ kernel_dies c (ap (class_of s1) kernel ∙ was)) in
          (t, y, get-insert_other w.tasks u (record x { alive = false }) t apart ∙ old, a, its);
      gone = λ t n e. space_after t n (elim (cases_eq t u) [
        | inl same ↦ ap (λ v. get v n) (ap (space s1) same ∙ own) ∙ get-empty n
        | inr apart ↦ ap (λ v. get v n) (others t apart)
            ∙ kept.tasks.gone t n (ap is_alive
            (sym (get-insert_other w.tasks u (record x { alive = false }) t apart)) ∙ e)
      ]);
    };
    kernels = λ t y is a. kept.kernels t y (task_after t y is a).1 a;
  }

module _ (W : Wiring) (G : FactSet) (obeys : Obeys W G) (w : World) (u : ℕ) (x : Task)
    (kept : Kept W G w)
    (at : get w.tasks u ≡ Some x) (alive : x.alive ≡ true) where
  -- a task without a space has no rights
  without_space : get w.store.spaces u ≡ None
      → SoundWith W G (task_class w) w.store (all_rights (space w.store u).list)
  without_space none = rw (ap (λ o. unwrap_or o empty) none) (rw no_rights kept.sound)

  -- the store without the task's space is sound with all its rights in hand
  emptied_sound : SoundWith W G (task_class w) (set_space w.store u empty)
      (all_rights (space w.store u).list)
  emptied_sound =
      set_space_sound W G (task_class w) w.store []
      (all_rights (space w.store u).list) u empty kept.sound
      (λ p c is. let a = receives-space p
      (space w.store u) in let b = space_receives-empty p in omega arith)
      (λ n e is. absurd (not_None e (sym is ∙ get-empty n)))
      (λ n m p e f a. absurd (not_None e (sym a ∙ get-empty n)))

  -- the world after the end, whether or not the task has a space
  ended_with : Option Space → World
  ended_with o = record {
    tasks = insert w.tasks u (record x { alive = false });
    store = destroy (cleared w.store u o)
        (record { rights = all_rights (space w.store u).list; kernel = Some x.kernel });
  }

  -- the end of a task keeps the world, whether or not it has a space
  either_keeps : (o : Option Space) → get w.store.spaces u ≡ o → Kept W G (ended_with o)
  unfolding after s1 doomed ended_with
  either_keeps None none =
      end_keeps W G obeys w u x kept at alive w.store.spaces (without_space none)
      (ap (λ o. unwrap_or o empty) none) (λ t n. refl)
  either_keeps (Some y) some =
      end_keeps W G obeys w u x kept at alive (set_space w.store u empty).spaces emptied_sound
      (space-set_same w.store u empty) (λ t n. space-set_other w.store u t empty n)

  -- the end of a task keeps the world
  its_end_keeps : Kept W G (ended w u x)
  unfolding ended_with destroyed
  its_end_keeps = either_keeps (get w.store.spaces u) refl

-- the task that is alive
alive_task : (o : Option Task) (x : Task) → is_alive o ≡ true → o ≡ Some x → x.alive ≡ true
alive_task o x a e = ap is_alive (sym e) ∙ a

module _ (W : Wiring) (G : FactSet) (obeys : Obeys W G) where
  -- terminate
  pub terminate_keeps : (w : World) (t task : ℕ) → Kept W G w
      → Keeps W G (call_terminate w t task)
  unfolding call_terminate
  terminate_keeps w t task kept =
      bind _ _ (target_is W G w t task _ kept) (λ u is.
      bind _ _ (found (get w.tasks u) _) (λ x at.
      gives_ok (its_end_keeps W G obeys w u x kept at
      (alive_task (get w.tasks u) x is.alive.of at))))
