-- What the first state is as its lines come, and a task line.
use Rattle.std.proofs.Common.{None, Some, [], ap, arith, inl, inr, sym, true, ℕ, ◌<◌, ◌∙◌, ◌≡◌, ◌≤◌}
use Rattle.std.proofs.lemmas.Bool.{cases_eq}
use Rattle.mrc_model.proofs.Maps.{get-insert_other, get-insert_same, origin-insert}
use Rattle.mrc_model.specs.CallAllocate.{new_port}
use Rattle.mrc_model.specs.First.{First, add_task}
use Rattle.mrc_model.specs.Map.{get, insert}
use Rattle.mrc_model.specs.Rules.{Closed, FactSet}
use Rattle.mrc_model.specs.Target.{is_alive}
use Rattle.mrc_model.specs.Wiring.{Wiring, kernel_class}
use Rattle.mrc_model.specs.World.{Port, Store, Task}
use Rattle.mrc_model.specs.declared.Backup.TheVariants.{Absent as NoBackup}
use Rattle.mrc_cover.proofs.Kept.{Kept}
use Rattle.mrc_cover.proofs.NewTask.{new_task_keeps}
use Rattle.mrc_cover.proofs.Obeyed.{Ranged}

-- the set of all facts
abbrev pub Any : FactSet
Any f = Unit {0}

-- it is closed
pub any_closed : (W : Wiring) → Closed W Any
any_closed W k ps f r a b = tt

-- nothing is queued and no backup is set
abbrev pub IsIdle : Store → Type 0
IsIdle s = (p : ℕ) (x : Port) → get s.ports p ≡ Some x → (x.queue ≡ []) × (x.backup ≡ NoBackup)

-- what the first state is, as far as its lines have come
pub record IsBegun (W : Wiring) (f : First) : Type 0 where
  pub kept : Kept W (Ranged W Any) f.world
  pub idle : IsIdle f.world.store
  pub alive : (t : ℕ) → t < f.tasks → is_alive (get f.world.tasks t) ≡ true
  pub fresh : (t : ℕ) → f.tasks ≤ t → get f.world.tasks t ≡ None

-- a new port is idle
pub idle_new : (s : Store) (p c : ℕ) (q : ℕ) (x : Port) → IsIdle s
    → get (insert s.ports p (new_port c)) q ≡ Some x
    → (x.queue ≡ []) × (x.backup ≡ NoBackup)
idle_new s p c q x idle is = elim (origin-insert s.ports p (new_port c) q x is) [
  | inl h ↦ (ap (λ (v : Port). v.queue) (sym h.1), ap (λ (v : Port). v.backup) (sym h.1))
  | inr h ↦ idle q x h.1
]

module _ (W : Wiring) (f : First) (b : IsBegun W f) (below : f.tasks < W.tasks) where
  -- the new task
  task : Task
  task = record { alive = true; kernel = f.world.store.next; class = f.tasks }

  -- the world is kept so with the new task, since it holds its kernel port
  kept_task : Kept W (Ranged W Any) (add_task W f).world
  kept_task =
      new_task_keeps W (Ranged W Any) f.world f.tasks f.tasks b.kept
      (b.fresh f.tasks (omega arith)) below
      ((below, omega arith), tt)

  -- so a task line goes on with the first state
  pub task_line : IsBegun W (add_task W f)
  unfolding task
  task_line = record {
    kept = kept_task;
    idle =
        λ q x is. idle_new f.world.store f.world.store.next (kernel_class W f.tasks) q x b.idle is;
    alive = λ t l. elim (cases_eq t f.tasks) [
      | inl same ↦ ap (λ v. is_alive (get (add_task W f).world.tasks v)) same
          ∙ ap is_alive (get-insert_same f.world.tasks f.tasks task)
      | inr apart ↦ ap is_alive (get-insert_other f.world.tasks f.tasks task t apart)
          ∙ b.alive t (omega arith)
    ];
    fresh =
        λ t l. get-insert_other f.world.tasks f.tasks task t
        (λ (same : t ≡ f.tasks). absurd (omega arith))
        ∙ b.fresh t (omega arith);
  }
