-- Believe. Only `IsPlanOf`: a plan can be carried out, and leaves what the destruction leaves. From
-- Mach 3 Kernel Interfaces, mach_port_destroy and mach_port_request_notification. That a plan is
-- made first is this profile's own choice.
use Rattle.std.specs.Prelude.{◌≡◌, ℕ, ◌+◌, ◌<◌, not, ◌&&◌, List, [], ◌∷◌, ◌++◌, length}
use Rattle.std.specs.Prelude.{Option, Some, None, if◌then◌else◌}
use Rattle.mrc_model.specs.declared.Backup.{Backup}
use Rattle.mrc_model.specs.declared.Backup.TheVariants.{Absent as NoBackup, Dead as DeadBackup}
use Rattle.mrc_model.specs.declared.Backup.TheVariants.{Port as BackupPort}
use Rattle.mrc_model.specs.Rights.{is_once}
use Rattle.mrc_model.specs.Map.{get}
use Rattle.mrc_model.specs.World.{Port, Store, Held}
use Rattle.mrc_model.specs.Death.{has, bury, append, once_notice, notify_port, destroy}
use Rattle.mrc_model.specs.Destroyed.{Destroyed, destroyed}
use Rattle.mrc_ports.specs.Queues.{limit_of_waiting}
use Rattle.mrc_death.specs.Removing.{CanRemove, removed_from}
use Rattle.mrc_death.specs.declared.removal.Removal.{Removal}
use Rattle.mrc_death.specs.declared.taking.Taken.{Taken}

-- What a destruction does: what is removed from a task's space, the ports that die, the ports that
-- send-once rights go from, in order, and the ports that lose their receive rights but stay,
-- ascending.
pub record Work : Type 0 where
  pub task : ℕ
  pub removal : Removal
  pub dead : List ℕ
  pub once : List ℕ
  pub lost : List ℕ

-- SEND_ONCE to each of these ports, in order
abbrev pub tell_once : Store → List ℕ → Store
tell_once s [] = s
tell_once s (p ∷ ps) = tell_once (append s p once_notice) ps

-- PORT_DESTROYED for each of these ports, in order
abbrev pub tell_destroyed : Store → List ℕ → Store
tell_destroyed s [] = s
tell_destroyed s (p ∷ ps) = tell_destroyed (notify_port s p (get s.ports p)) ps

-- the store after the work was done
abbrev pub work_done : Store → Work → Store
work_done s w =
    tell_destroyed (tell_once (bury (removed_from s w.task w.removal) w.dead) w.once) w.lost

-- the store after the plan was carried out; one without work changes nothing
unfoldable pub carried_out : Store → Option Work → Store
carried_out s None = s
carried_out s (Some w) = work_done s w

-- each queue has room for so many messages more
pub record HasRoom (more : ℕ) (s : Store) : Type 0 where
  pub at : (p k : ℕ) (x : Port) → get s.ports p ≡ Some x → k < more
      → length x.queue + k < limit_of_waiting

-- the work can be done on the store: what the task loses can be removed, and each queue has room
-- for all notices
pub record IsReadyFor (s : Store) (w : Work) : Type 0 where
  pub can_remove : CanRemove s w.task w.removal
  pub room : HasRoom (length w.once + length w.lost) s

-- the plan can be carried out on the store
abbrev pub IsReady : Store → Option Work → Type 0
IsReady s None = Unit {0}
IsReady s (Some w) = IsReadyFor s w

-- the plan can be carried out on the store, and leaves what the destruction leaves
pub record IsPlanOf (s : Store) (what : Destroyed) (plan : Option Work) : Type 0 where
  pub ready : IsReady s plan
  pub exact : carried_out s plan ≡ destroyed s what

-- what follows are steps of the proof

-- the work can be done, and does what follows from what is taken out
pub record IsWorkOf (s : Store) (t : Taken) (w : Work) : Type 0 where
  pub ready : IsReadyFor s w
  pub exact : work_done s w ≡ destroy (removed_from s t.task t.removal) t.doomed

-- the port of a send-once right
abbrev pub once_port : Held → List ℕ
once_port h = if is_once h.right then h.port ∷ [] else []

-- the ports of the send-once rights among these, in order
abbrev pub once_ports : List Held → List ℕ
once_ports [] = []
once_ports (h ∷ hs) = once_port h ++ once_ports hs

-- the port, where it loses its receive right, and stays
abbrev pub kept_port : List ℕ → List ℕ → ℕ → List ℕ
kept_port dead lost p = if not (has dead p) && has lost p then p ∷ [] else []

-- a live port, where it stays
abbrev pub left_port : List ℕ → ℕ → Port → List ℕ
left_port dead p x = if not (has dead p) then p ∷ [] else []

-- the ports of a table that lose their receive rights, and stay
abbrev pub kept_ports : List ℕ → List ℕ → List (ℕ × Port) → List ℕ
kept_ports dead lost [] = []
kept_ports dead lost (e ∷ es) = kept_port dead lost e.0 ++ kept_ports dead lost es

-- the live backup that a request names
abbrev pub named : Backup → Option ℕ
named NoBackup = None
named DeadBackup = None
named (BackupPort b) = Some b

-- the backup of a port, if it is live and its request names one
abbrev pub backup_at : Option Port → Option ℕ
backup_at None = None
backup_at (Some x) = named x.backup

-- the port without its request, and without receipts
abbrev pub used_up : Port → Port
used_up x = record x { backup = NoBackup; receipts = 0 }
