-- Believe. Port-destroyed requests. From Mach 3 Kernel Interfaces, mach_port_request_notification
-- with MACH_NOTIFY_PORT_DESTROYED, the one notification that can be requested here. The order of
-- refusals, and that only ports of some classes can be named, are this profile's own choice.
use Rattle.mrc_model.specs.Death.{port_destroyed_id}
use Rattle.std.specs.Prelude.{ℕ, Bool, true, false, ◌&&◌, ◌||◌, Option, Some, None, Ok, ◌==◌}
use Rattle.std.specs.Prelude.{if◌then◌else◌}
use Rattle.mrc_base.specs.declared.PortRight.TheVariants.{SendOnce}
use Rattle.mrc_base.specs.declared.Disp.{Disp}
use Rattle.mrc_base.specs.declared.Disp.TheVariants.{MoveReceive, MoveSend, MoveSendOnce, CopySend}
use Rattle.mrc_base.specs.declared.Disp.TheVariants.{MakeSend, MakeSendOnce}
use Rattle.mrc_model.specs.declared.Entry.{Entry}
use Rattle.mrc_model.specs.declared.Entry.TheVariants.{Receive as ReceiveEntry, Send as SendEntry}
use Rattle.mrc_model.specs.declared.Entry.TheVariants.{SendOnce as OnceEntry, PortSet as SetEntry}
use Rattle.mrc_model.specs.declared.Entry.TheVariants.{DeadName as DeadEntry}
use Rattle.mrc_model.specs.declared.Item.{Item}
use Rattle.mrc_model.specs.declared.Item.TheVariants.{Null as NullItem, Dead as DeadItem}
use Rattle.mrc_model.specs.declared.Item.TheVariants.{Right as RightItem}
use Rattle.mrc_model.specs.declared.Backup.{Backup}
use Rattle.mrc_model.specs.declared.Backup.TheVariants.{Absent as NoBackup, Dead as DeadBackup}
use Rattle.mrc_model.specs.declared.Backup.TheVariants.{Port as BackupPort}
use Rattle.mrc_model.specs.declared.Denied.TheVariants.{NotDestroyed, NotTaken, NotGiven}
use Rattle.mrc_model.specs.declared.Verb.TheVariants.{Takes, Gives}
use Rattle.mrc_model.specs.declared.Code.TheVariants.{KernInvalidTask, KernInvalidValue}
use Rattle.mrc_model.specs.declared.Code.TheVariants.{KernInvalidCapability, KernNoSpace}
use Rattle.mrc_model.specs.Map.{get}
use Rattle.mrc_model.specs.Wiring.{Wiring, accepts_destroyed}
use Rattle.mrc_model.specs.World.{Store, World, space, set_port, port_null, port_dead}
use Rattle.mrc_model.specs.Reply.{Reply, Name, Refused, DeniedBy, Try, ◌>>=◌, ◌>>◌, check}
use Rattle.mrc_model.specs.Reply.{refuse_if, or_refuse}
use Rattle.mrc_model.specs.Space.{take, give_item, is_full}
use Rattle.mrc_model.specs.Target.{with_store, target, bad_name, wrong_right, entry_at}
use Rattle.mrc_model.specs.CallSend.{dead_taken, is_dead_taken}
use Rattle.mrc_model.specs.Trust.{may_on}

-- the port of a receive right
abbrev pub received_port : Entry → Option ℕ
received_port (ReceiveEntry p k i) = Some p
received_port (SendEntry p k) = None
received_port (OnceEntry p) = None
received_port SetEntry = None
received_port (DeadEntry k) = None

-- the dispositions that give a send-once right
abbrev pub is_notify_disp : Disp → Bool
is_notify_disp MoveSendOnce = true
is_notify_disp MakeSendOnce = true
is_notify_disp MoveReceive = false
is_notify_disp MoveSend = false
is_notify_disp CopySend = false
is_notify_disp MakeSend = false

-- the send-once right that the request names, taken from the caller
abbrev pub take_backup : Wiring → Store → ℕ → ℕ → Disp → Try (Store × Backup)
take_backup W s t n x = do
  refuse_if (n == port_dead || is_dead_taken (dead_taken (get (space s t) n) x))
      (Refused KernInvalidCapability)
  (s1, b) ← take s t n x bad_name wrong_right
  y ← or_refuse (get s1.ports b) bad_name
  check (accepts_destroyed W y.class) (DeniedBy NotDestroyed)
  Ok (s1, BackupPort b)

-- MACH_PORT_NULL stands for no request
abbrev pub new_backup : Wiring → Store → ℕ → ℕ → Disp → Try (Store × Backup)
new_backup W s t n x = if n == port_null then Ok (s, NoBackup) else take_backup W s t n x

-- the request names a live port
abbrev pub is_live_backup : Backup → Bool
is_live_backup NoBackup = false
is_live_backup DeadBackup = false
is_live_backup (BackupPort b) = true

-- the right of a request, as an item
abbrev pub backup_item : Backup → Item
backup_item NoBackup = NullItem
backup_item DeadBackup = DeadItem
backup_item (BackupPort b) = RightItem b SendOnce

-- the previous request's right, given to the caller, and its name
abbrev pub give_backup : Store → ℕ → Backup → Store × ℕ
give_backup s t NoBackup = give_item s t NullItem
give_backup s t DeadBackup = give_item s t DeadItem
give_backup s t (BackupPort b) = give_item s t (RightItem b SendOnce)

-- The port's request is replaced, and the previous one's right is given to the caller. A port of a
-- class that does not accept port-destroyed notices cannot be named. The caller has to be trusted
-- to give the one right and to take the other.
unfoldable pub call_request_notification : Wiring → World → ℕ → ℕ → ℕ → ℕ → ℕ → ℕ → Disp
    → Try (World × Reply)
call_request_notification W w t task name id sync notify x = do
  u ← target w t task KernInvalidTask
  check (id == port_destroyed_id && (sync == 0 && is_notify_disp x)) (Refused KernInvalidValue)
  e ← entry_at w u name
  p ← or_refuse (received_port e) wrong_right
  (s1, b) ← new_backup W w.store t notify x
  check (may_on W w Gives t u (backup_item b)) (DeniedBy NotGiven)
  y ← or_refuse (get s1.ports p) bad_name
  check (may_on W w Takes t u (backup_item y.backup)) (DeniedBy NotTaken)
  refuse_if (is_live_backup y.backup && is_full (space s1 t)) (Refused KernNoSpace)
  let got = give_backup (set_port s1 p (record y { backup = b })) t y.backup
  Ok (with_store w got.0, Name got.1)
