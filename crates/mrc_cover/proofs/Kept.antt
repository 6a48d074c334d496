-- What every call keeps of a world, and what is known of the task that a call acts for.
use Rattle.std.proofs.Common.{Bool, List, None, Option, Some, T, [], ap, false, if◌then◌else◌}
use Rattle.std.proofs.Common.{nat_lt, refl, sym, true, ℕ, ◌+◌, ◌<◌, ◌==◌, ◌∙◌, ◌∷◌, ◌≡◌, ◌≤◌}
use Rattle.std.proofs.lemmas.Bool.{and_parts, both_ways, eqb-true}
use Rattle.std.specs.Option.{option_map, unwrap_or}
use Rattle.mrc_base.specs.declared.Fact.TheVariants.{Hold}
use Rattle.mrc_base.specs.declared.PortRight.{PortRight}
use Rattle.mrc_base.specs.declared.PortRight.TheVariants.{Send}
use Rattle.mrc_model.proofs.Maps.{find_here, find_later, not_None, same_Some}
use Rattle.mrc_model.proofs.Tries.{Gives, found}
use Rattle.mrc_model.specs.Covers.{IsManned, Known, KnownAt}
use Rattle.mrc_model.specs.Death.{has}
use Rattle.mrc_model.specs.Map.{get, len}
use Rattle.mrc_model.specs.Reply.{Reply, Try}
use Rattle.mrc_model.specs.Rising.{find_key, is_rising, right_holds}
use Rattle.mrc_model.specs.Rules.{FactSet}
use Rattle.mrc_model.specs.Target.{first_task, has_kernel, is_alive, kernel_right, target}
use Rattle.mrc_model.specs.Target.{task_of, with_store}
use Rattle.mrc_model.specs.Wiring.{Wiring, kernel_class, numbers_of}
use Rattle.mrc_model.specs.World.{Store, Task, World, class_of, entry_rights, space, task_class}
use Rattle.mrc_model.specs.declared.Code.{Code}
use Rattle.mrc_model.specs.declared.Entry.{Entry}
use Rattle.mrc_model.specs.declared.Entry.TheVariants.{DeadName as DeadEntry, SendOnce as OnceEntry}
use Rattle.mrc_model.specs.declared.Entry.TheVariants.{Receive as ReceiveEntry, Send as SendEntry}
use Rattle.mrc_model.specs.declared.Entry.TheVariants.{PortSet as SetEntry}
use Rattle.mrc_cover.proofs.Entries.{had_send, if_some}
use Rattle.mrc_cover.proofs.Rights.{MayHold, right_on}
use Rattle.mrc_cover.proofs.Sound.{ChangesOnly, Leaves, SoundWith}

-- the task is alive
pub record IsAlive (w : World) (t : ℕ) : Type 0 where
  pub of : is_alive (get w.tasks t) ≡ true

-- what a call keeps
pub record Kept (W : Wiring) (G : FactSet) (w : World) : Type 0 where
  pub sound : SoundWith W G (task_class w) w.store []
  pub few : (t : ℕ) → len (space w.store t) ≤ 4096
  pub tasks : IsManned (numbers_of W) w
  pub kernels : (t : ℕ) (x : Task) → get w.tasks t ≡ Some x → x.alive ≡ true
      → G (Hold x.class (kernel_class W x.class) Send)

-- a call keeps the world so where it is not refused
abbrev pub Keeps : Wiring → FactSet → Try (World × Reply) → Type 0
Keeps W G r = Gives (λ (end : World × Reply). Kept W G end.0) r

module _ (W : Wiring) (G : FactSet) where
  -- a task is not both alive and not
  not_alive : (w : World) (t : ℕ) → is_alive (get w.tasks t) ≡ false → IsAlive w t → ⊥
  not_alive w t e alive = both_ways (is_alive (get w.tasks t)) e alive.of

  -- tasks and kernel ports stay in order where ports stay and only spaces of live tasks change
  pub manned_along : (w : World) (s : Store) → IsManned (numbers_of W) w
      → ChangesOnly (IsAlive w) w.store s
      → IsManned (numbers_of W) (with_store w s)
  manned_along w s m a = record {
    class = m.class;
    below = λ t x e. rw a.next (m.below t x e);
    kernel = λ t x e h. a.classes x.kernel ∙ m.kernel t x e h;
    own = m.own;
    only = λ p c e h. m.only p c (sym (a.classes p) ∙ e) h;
    gone = λ t n e. ap (λ y. get y n) (a.others t (not_alive w t e)) ∙ m.gone t n e;
  }

  -- a call that leaves its store so keeps the world
  pub keeps_with : (w : World) (s : Store) → Kept W G w
      → Leaves W G (task_class w) (IsAlive w) w.store [] s
      → ((t : ℕ) → len (space s t) ≤ 4096) → Kept W G (with_store w s)
  keeps_with w s kept leaves few = record {
    sound = leaves.sound;
    few = few;
    tasks = manned_along w s kept.tasks leaves.changes;
    kernels = kept.kernels;
  }

  -- the call's task may act for this one
  pub record IsTarget (w : World) (t u : ℕ) : Type 0 where
    pub alive : IsAlive w u
    pub class : task_class w u < W.tasks
    pub acts : G (Hold (task_class w t) (kernel_class W (task_class w u)) Send)

  -- the task that the search ends at has the kernel port
  task_found : (low p : ℕ) (es : List (ℕ × Task)) (u : ℕ) → T (is_rising low es)
      → first_task p es ≡ Some u
      → (x : Task) × (find_key u es ≡ Some x) × (has_kernel p x ≡ true)
  task_found low p [] u r is = absurd (not_None u (sym is))
  task_found low p (e ∷ es) u r is =
      let go : (b : Bool) → has_kernel p e.1 ≡ b
      → (if b then Some e.0 else first_task p es) ≡ Some u
      → (x : Task) × (find_key u (e ∷ es) ≡ Some x) × (has_kernel p x ≡ true) = elim [
        | true ↦ λ t z. (
          e.1,
          ap (λ k. find_key k (e ∷ es)) (sym (same_Some e.0 u z))
              ∙ find_here e es,
          t,
        )
        | false ↦ λ t z.
            let rest = task_found (e.0 + 1) p es u (right_holds _ _ r) z in
            (rest.0, find_later low e es u rest.0 r rest.1, rest.2)
      ] in
      go (has_kernel p e.1) refl is

  -- the same for the whole map of tasks
  task_of_kernel : (w : World) (p u : ℕ) → first_task p w.tasks.list ≡ Some u
      → (x : Task) × (get w.tasks u ≡ Some x) × (has_kernel p x ≡ true)
  unfolding get
  task_of_kernel w p u is = task_found 0 p w.tasks.list u w.tasks.rising is

  -- the name is that of a send right, which is known where the entry's rights are
  kernel_held : (k : ℕ → Option ℕ) (F : ℕ → PortRight → Type 0) (o : Option Entry) (p : ℕ)
      → kernel_right o ≡ Some p
      → (e : Entry) × (o ≡ Some e) × (Known k F (entry_rights e) → KnownAt k F (right_on p Send))
  kernel_held k F None p is = absurd (not_None p (sym is))
  kernel_held k F (Some (ReceiveEntry q n i)) p is =
      let (has, same) = if_some (nat_lt 0 n) q p is in
      (ReceiveEntry q n i, refl, λ known. rw same at (had_send k F q n i has known))
  kernel_held k F (Some (SendEntry q n)) p is =
      (SendEntry q n, refl, λ known. rw (same_Some q p is) at known.all.0)
  kernel_held k F (Some (OnceEntry q)) p is = absurd (not_None p (sym is))
  kernel_held k F (Some SetEntry) p is = absurd (not_None p (sym is))
  kernel_held k F (Some (DeadEntry n)) p is = absurd (not_None p (sym is))

  -- the class of a task that is there
  pub task_class_is : (w : World) (u : ℕ) (x : Task) → get w.tasks u ≡ Some x
      → task_class w u ≡ x.class
  task_class_is w u x is = ap (λ o. unwrap_or (option_map (λ (x : Task). x.class) o) u) is

  -- the next lemma, for the task that was found
  is_target : (w : World) (t n u : ℕ) → Kept W G w
      → task_of w (kernel_right (get (space w.store t) n)) ≡ Some u
      → IsTarget w t u
  is_target w t n u kept is =
      let go : (o : Option ℕ) → kernel_right (get (space w.store t) n) ≡ o → task_of w o ≡ Some u
      → IsTarget w t u = elim [
        | None ↦ λ a b. absurd (not_None u (sym b))
        | Some p ↦ λ a b.
            let (x, at, has) = task_of_kernel w p u b in
            let (alive, same) = and_parts x.alive (x.kernel == p) has in
            let kernel : x.kernel ≡ p = eqb-true x.kernel p same in
            let (e, some, sends_known) = kernel_held (class_of w.store) (MayHold G (task_class w t))
            (get (space w.store t) n) p a in
            let sends = sends_known (kept.sound.covers.held t n e some) in
            let class : class_of w.store p ≡ Some (kernel_class W x.class) =
            ap (class_of w.store) (sym kernel) ∙ kept.tasks.kernel u x at alive in
            let c_is : sends.0 ≡ kernel_class W x.class = same_Some _ _ (sym sends.1 ∙ class) in
            let tc = task_class_is w u x at in
            record {
              alive = record { of = ap is_alive at ∙ alive };
              class = rw tc (kept.tasks.class u x at);
              acts = rw tc (rw c_is at sends.2);
            }
      ] in
      go _ refl is

  -- a call acts for a live task whose kernel port the caller may hold
  pub target_is : (w : World) (t n : ℕ) (f : Code) → Kept W G w
      → Gives (IsTarget w t) (target w t n f)
  unfolding target
  target_is w t n f kept = record {
    holds = λ u e. is_target w t n u kept
        ((found (task_of w (kernel_right (get (space w.store t) n))) _).holds u e);
  }
