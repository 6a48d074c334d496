-- Step. The parts of a request for a notice. The parts of a port-destroyed request: what it names,
-- and what it leaves of the caller's space and of the port. From Mach 3 Kernel Interfaces,
-- mach_port_request_notification.
use Rattle.std.specs.Prelude.{ℕ, ◌||◌, Option, Some, None, Ok, ◌==◌, if◌then◌else◌}
use Rattle.mrc_base.specs.declared.PortRight.TheVariants.{SendOnce}
use Rattle.mrc_base.specs.declared.Disp.{Disp}
use Rattle.mrc_model.specs.declared.Backup.{Backup}
use Rattle.mrc_model.specs.declared.Backup.TheVariants.{Absent as NoBackup, Dead as DeadBackup}
use Rattle.mrc_model.specs.declared.Backup.TheVariants.{Port as BackupPort}
use Rattle.mrc_model.specs.declared.Denied.TheVariants.{NotDestroyed}
use Rattle.mrc_model.specs.declared.Code.TheVariants.{KernInvalidCapability}
use Rattle.mrc_model.specs.Map.{get}
use Rattle.mrc_model.specs.Wiring.{Wiring, accepts_destroyed}
use Rattle.mrc_model.specs.World.{Space, Port, Store, World, space, set_port, port_null, port_dead}
use Rattle.mrc_model.specs.Reply.{Refused, DeniedBy, Try, ◌>>=◌, ◌>>◌, check, refuse_if, or_refuse}
use Rattle.mrc_model.specs.Space.{place}
use Rattle.mrc_model.specs.Target.{bad_name, wrong_right, entry_at}
use Rattle.mrc_model.specs.CallSend.{dead_taken, is_dead_taken}
use Rattle.mrc_model.specs.CallRequestNotification.{received_port}
use Rattle.mrc_names.specs.Takes.{take_right, taken_port}

-- the port of the receive right under a name of u
unfoldable pub received_at : World → ℕ → ℕ → Try ℕ
received_at w u n = do
  e ← entry_at w u n
  or_refuse (received_port e) wrong_right

-- the port of the send-once right that a name of t gives by the disposition
abbrev pub live_named : Wiring → Store → ℕ → ℕ → Disp → Try Backup
live_named W s t n x = do
  refuse_if (n == port_dead || is_dead_taken (dead_taken (get (space s t) n) x))
      (Refused KernInvalidCapability)
  b ← taken_port (space s t) n x
  y ← or_refuse (get s.ports b) bad_name
  check (accepts_destroyed W y.class) (DeniedBy NotDestroyed)
  Ok (BackupPort b)

-- the request that a name of t stands for: MACH_PORT_NULL for none
unfoldable pub named_backup : Wiring → Store → ℕ → ℕ → Disp → Try Backup
named_backup W s t n x = if n == port_null then Ok NoBackup else live_named W s t n x

-- what a request leaves of a space, from which it takes its right: MACH_PORT_NULL takes none
unfoldable pub request_left : Space → ℕ → Disp → Try Space
request_left x n d = if n == port_null then Ok x else (take_right x n d >>= λ got. Ok got.0)

-- the space after a request that is replaced was given back, and the name of its right
abbrev pub given_backup : Space → Backup → Space × ℕ
given_backup x NoBackup = (x, port_null)
given_backup x DeadBackup = (x, port_dead)
given_backup x (BackupPort b) = ((place x b SendOnce).space, (place x b SendOnce).name)

-- the port has this request from here on; nothing where it is absent
abbrev pub with_backup : Store → ℕ → Backup → Option Port → Store
with_backup s p b None = s
with_backup s p b (Some y) = set_port s p (record y { backup = b })
