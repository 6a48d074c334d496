-- A burial hangs on which ports die alone, and not on how they are listed.
use Rattle.std.proofs.Common.{◌≡◌, ℕ, Bool, List, [], ◌∷◌, ◌++◌, Some, None, map, refl, ap}
use Rattle.std.proofs.Common.{if◌then◌else◌}
use Rattle.mrc_model.specs.declared.Entry.{Entry}
use Rattle.mrc_model.specs.declared.Entry.TheVariants.{Receive as ReceiveEntry, Send as SendEntry}
use Rattle.mrc_model.specs.declared.Entry.TheVariants.{SendOnce as OnceEntry, PortSet as SetEntry}
use Rattle.mrc_model.specs.declared.Entry.TheVariants.{DeadName as DeadEntry}
use Rattle.mrc_model.specs.declared.Item.{Item}
use Rattle.mrc_model.specs.declared.Item.TheVariants.{Null as NullItem, Dead as DeadItem}
use Rattle.mrc_model.specs.declared.Item.TheVariants.{Right as RightItem}
use Rattle.mrc_model.specs.declared.Backup.{Backup}
use Rattle.mrc_model.specs.declared.Backup.TheVariants.{Absent as NoBackup, Dead as DeadBackup}
use Rattle.mrc_model.specs.declared.Backup.TheVariants.{Port as BackupPort}
use Rattle.mrc_model.specs.Map.{alter_all}
use Rattle.mrc_model.specs.World.{QueuedArg, QueuedData, QueuedItems, Parcel, Port, Store}
use Rattle.mrc_model.specs.World.{queue_rights}
use Rattle.mrc_model.specs.Space.{dead_entry}
use Rattle.mrc_model.specs.Death.{has, perished_entry, perished_item, perished_arg}
use Rattle.mrc_model.specs.Death.{perished_parcel, perished_backup, perished_port, queued_on, bury}

module _ (xs ys : List ℕ) (same : has xs ≡ has ys) where
  entry_same : (e : Entry) → perished_entry xs e ≡ perished_entry ys e
  entry_same (ReceiveEntry p k i) =
      ap (λ (f : ℕ → Bool). if f p then dead_entry k else Some (ReceiveEntry p k i)) same
  entry_same (SendEntry p k) =
      ap (λ (f : ℕ → Bool). if f p then dead_entry k else Some (SendEntry p k)) same
  entry_same (OnceEntry p) =
      ap (λ (f : ℕ → Bool). if f p then Some (DeadEntry 1) else Some (OnceEntry p)) same
  entry_same SetEntry = refl
  entry_same (DeadEntry k) = refl

  item_same : (x : Item) → perished_item xs x ≡ perished_item ys x
  item_same NullItem = refl
  item_same DeadItem = refl
  item_same (RightItem p r) = ap (λ (f : ℕ → Bool). if f p then DeadItem else RightItem p r) same

  arg_same : (a : QueuedArg) → perished_arg xs a ≡ perished_arg ys a
  arg_same (QueuedData name size number bytes) = refl
  arg_same (QueuedItems r items) = λ i. QueuedItems r (map (λ x. item_same x i) items)

  parcel_same : (m : Parcel) → perished_parcel xs m ≡ perished_parcel ys m
  parcel_same m = λ i.
      record m { reply = item_same m.reply i; args = map (λ a. arg_same a i) m.args }

  backup_same : (b : Backup) → perished_backup xs b ≡ perished_backup ys b
  backup_same NoBackup = refl
  backup_same DeadBackup = refl
  backup_same (BackupPort b) = ap (λ (f : ℕ → Bool). if f b then DeadBackup else BackupPort b) same

  port_same : (p : ℕ) (x : Port) → perished_port xs p x ≡ perished_port ys p x
  port_same p x = λ i.
      if same i p then None
      else Some (record x {
        queue = map (λ m. parcel_same m i) x.queue;
        backup = backup_same x.backup i;
      })

  pub bury_same : (s : Store) → bury s xs ≡ bury s ys
  unfolding bury
  bury_same s = λ i. record s {
    spaces = alter_all (λ t x. Some (alter_all (λ n e. entry_same e i) x)) s.spaces;
    ports = alter_all (λ p x. port_same p x i) s.ports;
  }

  pub queued_same : (es : List (ℕ × Port)) → queued_on xs es ≡ queued_on ys es
  queued_same [] = refl
  queued_same (e ∷ es) =
      λ i. (if same i e.0 then queue_rights e.1.queue else []) ++ queued_same es i
