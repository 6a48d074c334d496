-- A new task, with its kernel port and a send right to it under name 1.
use Rattle.std.proofs.Common.{Bool, None, Some, [], ap, arith, if◌then◌else◌, inl, inr, refl, subst}
use Rattle.std.proofs.Common.{sym, true, ℕ, ◌+◌, ◌<◌, ◌∙◌, ◌≡◌, ◌⊎◌}
use Rattle.std.proofs.lemmas.Bool.{both_ways, cases_eq}
use Rattle.std.specs.Option.{option_map, unwrap_or}
use Rattle.mrc_base.specs.declared.Fact.TheVariants.{Backup as BackupFact, Hold}
use Rattle.mrc_base.specs.declared.PortRight.TheVariants.{Send}
use Rattle.mrc_model.proofs.Maps.{at_or_0, get-empty, get-insert_other, get-insert_same, len-empty}
use Rattle.mrc_model.proofs.Maps.{len-insert, not_None, origin-insert, same_Some, total-empty}
use Rattle.mrc_model.proofs.Maps.{total-insert, total-same, total-zero}
use Rattle.mrc_model.specs.CallAllocate.{new_port}
use Rattle.mrc_model.specs.CallCreateTask.{with_task}
use Rattle.mrc_model.specs.Covers.{HasOneName, IsBackup, Known, owed}
use Rattle.mrc_model.specs.Map.{empty, get, insert}
use Rattle.mrc_model.specs.Rules.{FactSet}
use Rattle.mrc_model.specs.Target.{is_alive}
use Rattle.mrc_model.specs.Wiring.{Wiring, kernel_class, numbers_of}
use Rattle.mrc_model.specs.World.{Port, Space, Store, Task, World, class_of, entry_rights, places}
use Rattle.mrc_model.specs.World.{queue_rights, space, space_receives, task_class}
use Rattle.mrc_model.specs.declared.Entry.{Entry}
use Rattle.mrc_model.specs.declared.Entry.TheVariants.{Send as SendEntry}
use Rattle.mrc_cover.proofs.Destroying.{kernel_is_kernel}
use Rattle.mrc_cover.proofs.Kept.{Kept}
use Rattle.mrc_cover.proofs.Rights.{Known-grow, MayCarry, MayHold, each_receives, entry_receives}
use Rattle.mrc_cover.proofs.Rights.{queue_receives}
use Rattle.mrc_cover.proofs.Sound.{next_is_free, unknown_is_nowhere}
use Rattle.mrc_cover.proofs.Stores.{at_space, is_kernel_class, unborn}

module _ (W : Wiring) (G : FactSet) (base : World) (number wired : ℕ) (kept : Kept W G base)
    (fresh : get base.tasks number
    ≡ None) (range : wired < W.tasks) (fact : G (Hold wired (kernel_class W wired) Send)) where
  -- the new task's space
  own_space : Space
  own_space = insert empty 1 (SendEntry base.store.next 1)

  -- the new task
  task : Task
  task = record { alive = true; kernel = base.store.next; class = wired }

  -- no port has the next number
  next_free : class_of base.store base.store.next ≡ None
  next_free = next_is_free W G (task_class base) base.store [] kept.sound

  -- the next number is unused among the ports
  port_free : get base.store.ports base.store.next ≡ None
  port_free = unborn base.store base.store.next next_free

  -- a number that is no task has no entry
  no_entries : (n : ℕ) → get (space base.store number) n ≡ None
  no_entries n = kept.tasks.gone number n (ap is_alive fresh)

  -- so no receive right was in its space
  no_receives : (p : ℕ) → space_receives p (space base.store number) ≡ 0
  unfolding space_receives
  no_receives p = total-same (entry_receives p) (λ n e. 0) (space base.store number)
      (λ n e is. absurd (not_None e (sym is ∙ no_entries n))) ∙ total-zero (space base.store number)

  -- none is in the new space
  own_receives : (p : ℕ) → space_receives p own_space ≡ 0
  unfolding space_receives own_space
  own_receives p =
      let a = total-insert (entry_receives p) empty 1 (SendEntry base.store.next 1) in
      let c = ap (at_or_0 (entry_receives p) 1) (get-empty {X = Entry} 1) in
      let d = total-empty (entry_receives p) in omega arith

  -- the store after
  store_after : Store
  store_after = (with_task base number wired (kernel_class W wired)).store

  -- the world after
  world_after : World
  world_after = with_task base number wired (kernel_class W wired)

  -- the class of the new kernel port
  class_new : class_of store_after base.store.next ≡ Some (kernel_class W wired)
  unfolding store_after
  class_new = ap (option_map (λ (x : Port). x.class))
      (get-insert_same base.store.ports base.store.next (new_port (kernel_class W wired)))

  -- the other ports keep theirs
  class_old : (p : ℕ) → (p ≡ base.store.next → ⊥) → class_of store_after p ≡ class_of base.store p
  unfolding store_after
  class_old p n = ap (option_map (λ (x : Port). x.class))
      (get-insert_other base.store.ports base.store.next (new_port (kernel_class W wired)) p n)

  -- live ports stay live, with their classes
  grows : (p d : ℕ) → class_of base.store p ≡ Some d → class_of store_after p ≡ Some d
  grows p d e =
      class_old p (λ same. not_None d (sym e ∙ ap (class_of base.store) same ∙ next_free)) ∙ e

  -- the new task's space
  space_new : space store_after number ≡ own_space
  unfolding store_after own_space
  space_new =
      ap (λ o. unwrap_or o empty)
      (get-insert_same base.store.spaces number (insert empty 1 (SendEntry base.store.next 1)))

  -- the other spaces stay
  space_old : (u : ℕ) → (u ≡ number → ⊥) → space store_after u ≡ space base.store u
  unfolding store_after
  space_old u n = ap (λ o. unwrap_or o empty)
      (get-insert_other base.store.spaces number (insert empty 1 (SendEntry base.store.next 1)) u n)

  -- a kernel port's receive right is in no place, so places stay
  places_new : (p : ℕ) → places p store_after ≡ places p base.store
  unfolding places store_after own_space
  places_new p =
      let a = total-insert (each_receives p) base.store.spaces number own_space in
      let c = at_space p number (get base.store.spaces number) in
      let d = no_receives p in
      let e = own_receives p in
      let g = total-insert (queue_receives p) base.store.ports base.store.next
      (new_port (kernel_class W wired)) in
      let h = ap (at_or_0 (queue_receives p) base.store.next) port_free in
      omega arith

  -- the new task's class
  task_class_new : task_class world_after number ≡ wired
  unfolding world_after
  task_class_new =
      ap (λ o. unwrap_or (option_map (λ (x : Task). x.class) o) number)
      (get-insert_same base.tasks number (record {
        alive = true;
        kernel = base.store.next;
        class = wired;
      }))

  -- the other tasks keep theirs
  task_class_old : (u : ℕ) → (u ≡ number → ⊥) → task_class world_after u ≡ task_class base u
  unfolding world_after
  task_class_old u n =
      ap (λ o. unwrap_or (option_map (λ (x : Task). x.class) o) u)
      (get-insert_other base.tasks number (record {
        alive = true;
        kernel = base.store.next;
        class = wired;
      }) u n)

  -- the only entry of the new space
  own_entry : (n : ℕ) (e : Entry) → get own_space n ≡ Some e
      → (n ≡ 1) × (SendEntry base.store.next 1 ≡ e)
  unfolding own_space
  own_entry n e is = elim (origin-insert empty 1 (SendEntry base.store.next 1) n e is) [
    | inl h ↦ h
    | inr h ↦ absurd (not_None e (sym h.1 ∙ get-empty n))
  ]

  -- the class of the new port is a kernel port's
  is_kernel : is_kernel_class W (kernel_class W wired) ≡ true
  is_kernel = kernel_is_kernel W wired range

  -- each task is the new one or was there before
  task_origin : (t : ℕ) (x : Task) → get world_after.tasks t ≡ Some x
      → ((t ≡ number) × (task ≡ x)) ⊎ ((t ≡ number → ⊥) × (get base.tasks t ≡ Some x))
  unfolding world_after task
  task_origin t x is =
      origin-insert base.tasks number
      (record { alive = true; kernel = base.store.next; class = wired }) t x is

  -- the new kernel port's class
  pub new_task_class : class_of (with_task base number wired (kernel_class W wired)).store
      base.store.next ≡ Some (kernel_class W wired)
  unfolding store_after
  new_task_class = class_new

  -- the other tasks keep their spaces
  pub new_task_spaces : (u : ℕ) → (u ≡ number → ⊥)
      → space (with_task base number wired (kernel_class W wired)).store u ≡ space base.store u
  unfolding store_after
  new_task_spaces = space_old

  -- and their classes
  pub new_task_classes : (u : ℕ) → (u ≡ number → ⊥)
      → task_class (with_task base number wired (kernel_class W wired)) u ≡ task_class base u
  unfolding world_after
  new_task_classes = task_class_old

  -- the world is kept so with the new task
  pub new_task_keeps : Kept W G (with_task base number wired (kernel_class W wired))
  unfolding store_after world_after own_space task
  new_task_keeps = record {
    sound = record {
      receive_once = λ p c is. elim (cases_eq p base.store.next) [
        | inl e ↦
            let same : c ≡ kernel_class W wired =
            same_Some c (kernel_class W wired) (sym is ∙ ap (class_of store_after) e ∙ class_new) in
            let none : owed (numbers_of W) c ≡ 0 = ap (λ v. owed (numbers_of W) v) same
            ∙ ap (λ (v : Bool). if v then 0 else 1) is_kernel in
            let a = places_new p in
            let d : places p base.store ≡ 0 =
            ap (λ v. places v base.store) e
            ∙ unknown_is_nowhere W G
            (task_class base) base.store [] base.store.next kept.sound next_free in
            omega arith
        | inr n ↦ let a = places_new p in let d = kept.sound.receive_once p c (sym (class_old p n)
            ∙ is) in omega arith
      ];
      numbers = λ p c is. elim (cases_eq p base.store.next) [
        | inl e ↦
            let same : c ≡ kernel_class W wired =
            same_Some c (kernel_class W wired) (sym is ∙ ap (class_of store_after) e ∙ class_new) in
            (omega arith, omega arith)
        | inr n ↦ let d = kept.sound.numbers p c (sym (class_old p n) ∙ is) in (omega arith, d.1)
      ];
      covers = record {
        held = λ u n e is. elim (cases_eq u number) [
          | inl same ↦
              let its = own_entry n e
              (ap (λ v. get v n) (sym (ap (space store_after) same ∙ space_new)) ∙ is) in
              subst (λ v. Known (class_of store_after) (MayHold G (task_class world_after u))
              (entry_rights v)) its.1
              record { all = ((kernel_class W wired, class_new, its_fact u same), tt) }
          | inr apart ↦ subst (λ v. Known (class_of store_after) (MayHold G v) (entry_rights e))
              (sym (task_class_old u apart))
              (Known-grow grows
              (kept.sound.covers.held u n e (ap (λ v. get v n) (sym (space_old u apart)) ∙ is)))
        ];
        carried =
            λ q x is. elim (origin-insert base.store.ports base.store.next
            (new_port (kernel_class W wired)) q x is) [
              | inl h ↦ subst (λ (v : Port). Known (class_of store_after) (MayCarry G v.class)
                  (queue_rights v.queue)) h.1 record { all = tt }
              | inr h ↦ Known-grow grows (kept.sound.covers.carried q x h.1)
            ];
        backups =
            λ q x is. elim (origin-insert base.store.ports base.store.next
            (new_port (kernel_class W wired)) q x is) [
              | inl h ↦ subst (λ (v : Port). IsBackup (class_of store_after)
                  (λ d. G (BackupFact v.class d)) v.backup) h.1 record { live = λ q e. cc }
              | inr h ↦ record {
                live = λ p e. let r = (kept.sound.covers.backups q x h.1).live p e in
                    (r.0, grows p r.0 r.1, r.2);
              }
            ];
      };
      one_name = λ u. elim (cases_eq u number) [
        | inl same ↦ λ n m p e g a c i j. (own_entry n e
            (ap (λ v. get v n) (sym (ap (space store_after) same ∙ space_new)) ∙ a)).0
            ∙ sym (own_entry m g (ap (λ v. get v m) (sym (ap (space store_after) same ∙ space_new))
            ∙ c)).0
        | inr apart ↦ subst HasOneName (sym (space_old u apart)) (kept.sound.one_name u)
      ];
    };
    few = λ u. elim (cases_eq u number) [
      | inl same ↦ rw same (rw space_new (
          let a = len-insert empty 1 (SendEntry base.store.next 1) in
          let c = len-empty {X = Entry} empty refl in omega arith))
      | inr apart ↦ rw (space_old u apart) (kept.few u)
    ];
    tasks = record {
      class = λ t x is. elim (task_origin t x is) [
        | inl h ↦ subst (λ (v : Task). v.class < W.tasks) h.1 range
        | inr h ↦ kept.tasks.class t x h.1
      ];
      below = λ t x is. elim (task_origin t x is) [
        | inl h ↦ subst (λ (v : Task). v.kernel < base.store.next + 1) h.1 (omega arith)
        | inr h ↦ let a = kept.tasks.below t x h.1 in omega arith
      ];
      kernel = λ t x is a. elim (task_origin t x is) [
        | inl h ↦ subst (λ (v : Task). class_of store_after v.kernel ≡ Some
            (kernel_class W v.class)) h.1 class_new
        | inr h ↦ grows x.kernel (kernel_class W x.class) (kept.tasks.kernel t x h.1 a)
      ];
      own = λ t u x y is js a e. elim (task_origin t x is) [
        | inl h ↦ elim (task_origin u y js) [
          | inl g ↦ h.0 ∙ sym g.0
          | inr g ↦ absurd (clash y (kept.tasks.below u y g.1) (ap (λ (v : Task). v.kernel) h.1
              ∙ e))
        ]
        | inr h ↦ elim (task_origin u y js) [
          | inl g ↦ absurd (clash x (kept.tasks.below t x h.1) (ap (λ (v : Task). v.kernel) g.1
              ∙ sym e))
          | inr g ↦ kept.tasks.own t u x y h.1 g.1 a e
        ]
      ];
      only = λ p c is k. elim (cases_eq p base.store.next) [
        | inl e ↦ (number, task, get-insert_same base.tasks number task, refl, sym e)
        | inr n ↦ let (t, x, at, a, its) = kept.tasks.only p c (sym (class_old p n) ∙ is) k in (
          t,
          x,
          get-insert_other base.tasks number task t (λ same. not_None x (sym at
              ∙ ap (get base.tasks) same ∙ fresh))
              ∙ at,
          a,
          its,
        )
      ];
      gone = λ t n e. elim (cases_eq t number) [
        | inl same ↦ absurd (both_ways (is_alive (get world_after.tasks t)) e
            (ap (λ v. is_alive (get world_after.tasks v)) same
            ∙ ap is_alive (get-insert_same base.tasks number task)))
        | inr apart ↦ ap (λ v. get v n) (space_old t apart)
            ∙ kept.tasks.gone t n
            (ap is_alive (sym (get-insert_other base.tasks number task t apart)) ∙ e)
      ];
    };
    kernels = λ t x is a. elim (task_origin t x is) [
      | inl h ↦ subst (λ (v : Task). G (Hold v.class (kernel_class W v.class) Send)) h.1 fact
      | inr h ↦ kept.kernels t x h.1 a
    ];
  }
    where
      its_fact : (u : ℕ) → u ≡ number
          → G (Hold (task_class world_after u) (kernel_class W wired) Send)
      its_fact u same = subst (λ v. G (Hold v (kernel_class W wired) Send))
          (sym (ap (task_class world_after) same ∙ task_class_new)) fact

      clash : (y : Task) → y.kernel < base.store.next → base.store.next ≡ y.kernel → ⊥
      clash y l e = absurd (omega arith)
