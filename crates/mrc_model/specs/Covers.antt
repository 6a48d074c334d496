-- Step. When facts cover a world; well-formed worlds. This profile's own choice.
use Rattle.mrc_base.specs.Limits.{limit_of_names}
use Rattle.std.specs.Prelude.{◌≡◌, ℕ, ◌<◌, ◌≤◌, true, false, List, Option, Some, None}
use Rattle.std.specs.Prelude.{if◌then◌else◌, IsTrue}
use Rattle.std.specs.List.{AllByRecursion}
use Rattle.mrc_base.specs.declared.PortRight.{PortRight}
use Rattle.mrc_base.specs.declared.PortRight.TheVariants.{Send}
use Rattle.mrc_base.specs.declared.Fact.TheVariants.{Hold, Carry, Backup as BackupFact}
use Rattle.mrc_model.specs.declared.Entry.{Entry}
use Rattle.mrc_model.specs.declared.Backup.{Backup}
use Rattle.mrc_model.specs.declared.Backup.TheVariants.{Port as BackupPort}
use Rattle.mrc_model.specs.Map.{get, len}
use Rattle.mrc_model.specs.Wiring.{Numbers, kernel_number, is_kernel_number}
use Rattle.mrc_model.specs.World.{Space, Port, Store, Task, World, Held, space, class_of}
use Rattle.mrc_model.specs.World.{task_class, entry_rights, queue_rights, places}
use Rattle.mrc_model.specs.Space.{is_entry_of, IsSpace}
use Rattle.mrc_model.specs.Target.{is_alive}
use Rattle.mrc_model.specs.Rules.{FactSet}

-- the right is on a port of some class, of which F has the fact
abbrev pub KnownAt : (ℕ → Option ℕ) → (ℕ → PortRight → Type 0) → Held → Type 0
KnownAt class_at F h = (c : ℕ) × (class_at h.port ≡ Some c) × F c h.right

-- this is so of all these rights
pub record Known (class_at : ℕ → Option ℕ) (F : ℕ → PortRight → Type 0) (hs : List Held)
    : Type 0 where
  pub all : AllByRecursion (KnownAt class_at F) hs

-- a request that names a port names one of some class, of which F has the fact
pub record IsBackup (class_at : ℕ → Option ℕ) (F : ℕ → Type 0) (b : Backup) : Type 0 where
  pub live : (q : ℕ) → b ≡ BackupPort q → (d : ℕ) × (class_at q ≡ Some d) × F d

-- The facts say all of a store, whose tasks have these classes: what is held, what queued messages
-- carry, and what the requests of ports name. So each right and each request is on a live port.
pub record CoversStore (F : FactSet) (task : ℕ → ℕ) (s : Store) : Type 0 where
  pub held : (t n : ℕ) (e : Entry) → get (space s t) n ≡ Some e
      → Known (class_of s) (λ c r. F (Hold (task t) c r)) (entry_rights e)
  pub carried : (q : ℕ) (x : Port) → get s.ports q ≡ Some x
      → Known (class_of s) (λ c r. F (Carry x.class c r)) (queue_rights x.queue)
  pub backups : (p : ℕ) (x : Port) → get s.ports p ≡ Some x
      → IsBackup (class_of s) (λ d. F (BackupFact x.class d)) x.backup

-- F says all of the world: all of its store, and that each live task may hold a send right to its
-- kernel port. A task that is made from it is born with one, whether or not it has kept its own.
pub record Covers (F : FactSet) (w : World) : Type 0 where
  pub store : CoversStore F (task_class w) w.store
  pub kernels : (t : ℕ) (x : Task) → get w.tasks t ≡ Some x → x.alive ≡ true
      → KnownAt (class_of w.store) (λ c r. F (Hold x.class c r))
      record { port = x.kernel; right = Send }

-- in how many places the receive right of a port of the class has to be: the kernel keeps those of
-- kernel ports
abbrev pub owed : Numbers → ℕ → ℕ
owed N c = if is_kernel_number N c then 0 else 1

-- all spaces of the world are spaces
abbrev pub HasSpaces : World → Type 0
HasSpaces w = (t : ℕ) → IsSpace (space w.store t)

-- each port is named by at most one receive or send entry
abbrev pub HasOneName : Space → Type 0
HasOneName x =
    (n m p : ℕ) (e f : Entry) → get x n ≡ Some e → get x m ≡ Some f → IsTrue (is_entry_of p e)
    → IsTrue (is_entry_of p f) → n ≡ m

-- Tasks and their kernel ports: task classes are the wiring's, the kernel port of a live task is
-- live, no other task's, and of the class of the task; no other live port has such a class; and a
-- task that has ended has no entries.
pub record IsManned (N : Numbers) (w : World) : Type 0 where
  pub class : (t : ℕ) (x : Task) → get w.tasks t ≡ Some x → x.class < N.tasks
  pub below : (t : ℕ) (x : Task) → get w.tasks t ≡ Some x → x.kernel < w.store.next
  pub kernel : (t : ℕ) (x : Task) → get w.tasks t ≡ Some x → x.alive ≡ true
      → class_of w.store x.kernel ≡ Some (kernel_number N x.class)
  pub own : (t u : ℕ) (x y : Task) → get w.tasks t ≡ Some x → get w.tasks u ≡ Some y
      → x.alive ≡ true → x.kernel ≡ y.kernel → t ≡ u
  pub only : (p c : ℕ) → class_of w.store p ≡ Some c → is_kernel_number N c ≡ true
      → (t : ℕ) × (x : Task) × (get w.tasks t ≡ Some x) × (x.alive ≡ true) × (x.kernel ≡ p)
  pub gone : (t n : ℕ) → is_alive (get w.tasks t) ≡ false → get (space w.store t) n ≡ None

-- A world is well formed, by a wiring's numbers: each receive right but those of kernel ports,
-- which the kernel keeps, is in exactly one place, birth numbers are below the next one and classes
-- are the wiring's, all that is named is live, no port has two receive or send entries in a space,
-- each space is one, no space has more entries than it may have, and tasks and their kernel ports
-- belong together.
pub record IsWellFormed (N : Numbers) (w : World) : Type 0 where
  pub receive_once : (p c : ℕ) → class_of w.store p ≡ Some c → places p w.store ≡ owed N c
  pub numbers : (p c : ℕ) → class_of w.store p ≡ Some c → (p < w.store.next) × (c < N.classes)
  pub live : Covers (λ f. Unit {0}) w
  pub one_name : (t : ℕ) → HasOneName (space w.store t)
  pub spaces : HasSpaces w
  pub few : (t : ℕ) → len (space w.store t) ≤ limit_of_names
  pub tasks : IsManned N w
