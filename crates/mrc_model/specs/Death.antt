-- Believe. Which ports die when rights or a task's kernel port are destroyed, and what follows.
-- From Mach 3 Kernel Interfaces, mach_port_destroy and mach_port_request_notification
-- (MACH_NOTIFY_PORT_DESTROYED, MACH_NOTIFY_SEND_ONCE). The ids and the order of the notices are
-- this profile's own choice.
use Rattle.std.specs.Prelude.{ℕ, zero, suc, Bool, true, false, ◌&&◌, ◌||◌, List, [], ◌∷◌, ◌++◌, map}
use Rattle.std.specs.Prelude.{filter, Option, Some, None, ◌==◌, if◌then◌else◌}
use Rattle.std.specs.List.{list_any}
use Rattle.mrc_base.specs.declared.PortRight.TheVariants.{Receive}
use Rattle.mrc_model.specs.declared.Entry.{Entry}
use Rattle.mrc_model.specs.declared.Entry.TheVariants.{Receive as ReceiveEntry, Send as SendEntry}
use Rattle.mrc_model.specs.declared.Entry.TheVariants.{SendOnce as OnceEntry, PortSet as SetEntry}
use Rattle.mrc_model.specs.declared.Entry.TheVariants.{DeadName as DeadEntry}
use Rattle.mrc_model.specs.declared.Item.{Item}
use Rattle.mrc_model.specs.declared.Item.TheVariants.{Null as NullItem, Dead as DeadItem}
use Rattle.mrc_model.specs.declared.Item.TheVariants.{Right as RightItem}
use Rattle.mrc_model.specs.declared.Backup.{Backup}
use Rattle.mrc_model.specs.declared.Backup.TheVariants.{Absent as NoBackup, Dead as DeadBackup}
use Rattle.mrc_model.specs.declared.Backup.TheVariants.{Port as BackupPort}
use Rattle.mrc_model.specs.Rights.{is_receive, is_once}
use Rattle.mrc_model.specs.Map.{get, alter_all, len, keys}
use Rattle.mrc_model.specs.World.{QueuedArg, QueuedData, QueuedItems, Parcel, Port, Store, Held}
use Rattle.mrc_model.specs.World.{set_port, queue_rights}
use Rattle.mrc_model.specs.Space.{dead_entry}

-- the list has the number
abbrev pub has : List ℕ → ℕ → Bool
has [] p = false
has (q ∷ qs) p = q == p || has qs p

-- the right is p's receive right
abbrev pub is_receive_of : ℕ → Held → Bool
is_receive_of p h = is_receive h.right && h.port == p

-- these rights have p's receive right
abbrev pub has_receive : ℕ → List Held → Bool
has_receive p hs = list_any (is_receive_of p) hs

-- the rights that are queued on those of these ports that are in `dead`
abbrev pub queued_on : List ℕ → List (ℕ × Port) → List Held
queued_on dead [] = []
queued_on dead (e ∷ es) = (if has dead e.0 then queue_rights e.1.queue else []) ++ queued_on dead es

-- the rights that are queued on these ports
abbrev pub queued_rights : Store → List ℕ → List Held
queued_rights s dead = queued_on dead s.ports.list

-- the backup does not save its port
abbrev pub is_lost : List ℕ → Backup → Bool
is_lost dead NoBackup = true
is_lost dead DeadBackup = true
is_lost dead (BackupPort b) = has dead b

-- the request of a port; an absent port has none
abbrev pub backup_of : Option Port → Backup
backup_of None = NoBackup
backup_of (Some x) = x.backup

-- what a call destroys: rights, and the kernel port of a task that it ends
pub record Doomed : Type 0 where
  pub rights : List Held
  pub kernel : Option ℕ

-- p is the ended task's kernel port
abbrev pub is_kernel_of : Option ℕ → ℕ → Bool
is_kernel_of None p = false
is_kernel_of (Some k) p = k == p

-- The port dies if those in `dead` die: it is the ended task's kernel port, or its receive right
-- goes and no backup saves it.
abbrev pub dies : Store → Doomed → List ℕ → ℕ → Bool
dies s d dead p =
    is_kernel_of d.kernel p
    || (has_receive p (d.rights ++ queued_rights s dead)
    && is_lost dead (backup_of (get s.ports p)))

-- the ports that die, where those in `dead` do
abbrev pub dying_round : Store → Doomed → List ℕ → List ℕ
dying_round s d dead = filter (dies s d dead) (keys s.ports)

-- what dies after n rounds
abbrev pub rounds : ℕ → Store → Doomed → List ℕ
rounds zero s d = []
rounds (suc n) s d = dying_round s d (rounds n s d)

-- The least set that has each port that dies: what dies where the set before does, as often as
-- there are ports. That it is the least one is the law DyingIsLeast.
unfoldable pub dying : Store → Doomed → List ℕ
dying s d = rounds (len s.ports) s d

-- what dead ports leave of an entry: as many dead references as there were send references, one for
-- a send-once right
abbrev pub perished_entry : List ℕ → Entry → Option Entry
perished_entry dead (ReceiveEntry p k i) =
    if has dead p then dead_entry k else Some (ReceiveEntry p k i)
perished_entry dead (SendEntry p k) = if has dead p then dead_entry k else Some (SendEntry p k)
perished_entry dead (OnceEntry p) = if has dead p then Some (DeadEntry 1) else Some (OnceEntry p)
perished_entry dead SetEntry = Some SetEntry
perished_entry dead (DeadEntry k) = Some (DeadEntry k)

-- a right in transit on a dead port reads as dead
abbrev pub perished_item : List ℕ → Item → Item
perished_item dead NullItem = NullItem
perished_item dead DeadItem = DeadItem
perished_item dead (RightItem p r) = if has dead p then DeadItem else RightItem p r

-- the items of an argument, where these ports are dead
abbrev pub perished_arg : List ℕ → QueuedArg → QueuedArg
perished_arg dead (QueuedData name size number bytes) = QueuedData name size number bytes
perished_arg dead (QueuedItems r xs) = QueuedItems r (map (perished_item dead) xs)

-- what a queued message carries, where these ports are dead
abbrev pub perished_parcel : List ℕ → Parcel → Parcel
perished_parcel dead m =
    record m { reply = perished_item dead m.reply; args = map (perished_arg dead) m.args }

-- so does a request that names one
abbrev pub perished_backup : List ℕ → Backup → Backup
perished_backup dead NoBackup = NoBackup
perished_backup dead DeadBackup = DeadBackup
perished_backup dead (BackupPort b) = if has dead b then DeadBackup else BackupPort b

-- a port that stays, where these are dead
abbrev pub perished_port : List ℕ → ℕ → Port → Option Port
perished_port dead p x =
    let queue = map (perished_parcel dead) x.queue in
    let backup = perished_backup dead x.backup in
    if has dead p then None else Some (record x { queue = queue; backup = backup })

-- these ports leave with their queues; what named them is dead
unfoldable pub bury : Store → List ℕ → Store
bury s dead = record s {
  spaces = alter_all (λ t x. Some (alter_all (λ n e. perished_entry dead e) x)) s.spaces;
  ports = alter_all (perished_port dead) s.ports;
}

-- the message at the end of this port's queue
abbrev pub append_to : Store → ℕ → Parcel → Option Port → Store
append_to s p m None = s
append_to s p m (Some x) = set_port s p (record x { queue = x.queue ++ m ∷ [] })

-- the message at the end of the port's queue; nothing where it is absent
unfoldable pub append : Store → ℕ → Parcel → Store
append s p m = append_to s p m (get s.ports p)

-- the ids of the two notices: MACH_NOTIFY_SEND_ONCE and MACH_NOTIFY_PORT_DESTROYED

-- of SEND_ONCE
abbrev pub send_once_id : ℕ
send_once_id = 71

-- of PORT_DESTROYED
abbrev pub port_destroyed_id : ℕ
port_destroyed_id = 69

-- a message of the kernel, which counts as sent through a send-once right
abbrev pub once_notice : Parcel
once_notice = record { by_once = true; id = send_once_id; reply = NullItem; args = [] }

-- PORT_DESTROYED carries the receive right of p
abbrev pub destroyed_notice : ℕ → Parcel
destroyed_notice p =
    let right = QueuedItems Receive (RightItem p Receive ∷ []) in
    record { by_once = true; id = port_destroyed_id; reply = NullItem; args = right ∷ [] }

-- SEND_ONCE for each send-once right that goes, where its port stays
abbrev pub notify_once : Store → List Held → Store
notify_once s [] = s
notify_once s (h ∷ hs) = notify_once (if is_once h.right then append s h.port once_notice else s) hs

-- PORT_DESTROYED to the port's backup, which is used up
abbrev pub notify_backup : Store → ℕ → Port → Backup → Store
notify_backup s p x NoBackup = s
notify_backup s p x DeadBackup = s
notify_backup s p x (BackupPort b) =
    append (set_port s p (record x { backup = NoBackup; receipts = 0 })) b (destroyed_notice p)

-- PORT_DESTROYED for p, if it is live
abbrev pub notify_port : Store → ℕ → Option Port → Store
notify_port s p None = s
notify_port s p (Some x) = notify_backup s p x x.backup

-- PORT_DESTROYED for each of these ports whose receive right goes
abbrev pub notify_destroyed : Store → List Held → List ℕ → Store
notify_destroyed s hs [] = s
notify_destroyed s hs (p ∷ ps) =
    notify_destroyed (if has_receive p hs then notify_port s p (get s.ports p) else s) hs ps

-- The rights go, and what follows from it. First the dying ports are buried, then come the
-- SEND_ONCE notices, then PORT_DESTROYED by ascending birth number.
unfoldable pub destroy : Store → Doomed → Store
destroy s d =
    let dead = dying s d in
    let gone = d.rights ++ queued_rights s dead in
    let after = bury s dead in
    notify_destroyed (notify_once after gone) gone (keys after.ports)
