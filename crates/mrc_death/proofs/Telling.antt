-- Notices that are told one by one, and what the definitions say of them.
use Rattle.std.proofs.Common.{◌≡◌, ℕ, Bool, true, false, not, ◌&&◌, List, [], ◌∷◌, ◌++◌, length}
use Rattle.std.proofs.Common.{map, Option, Some, None, Result, Err, IsOk, refl, sym, ◌∙◌, ap, subst}
use Rattle.std.proofs.Common.{arith, nat_le, ◌+◌, ◌<◌, if◌then◌else◌, ◌==◌, eq-eqb}
use Rattle.std.proofs.lemmas.Bool.Decides.{nat_tests}
use Rattle.mrc_model.specs.declared.Backup.{Backup}
use Rattle.mrc_model.specs.declared.Backup.TheVariants.{Absent as NoBackup, Dead as DeadBackup}
use Rattle.mrc_model.specs.declared.Backup.TheVariants.{Port as BackupPort}
use Rattle.mrc_model.specs.Rights.{is_once}
use Rattle.mrc_model.specs.Map.{get}
use Rattle.mrc_model.specs.Rising.{alter_list, cons_some}
use Rattle.mrc_model.specs.World.{Parcel, Port, Store, Held, set_port}
use Rattle.mrc_model.specs.Space.{restart, restart_port}
use Rattle.mrc_model.specs.Death.{has, has_receive, append, append_to, once_notice}
use Rattle.mrc_model.specs.Death.{destroyed_notice, notify_once, notify_port, notify_backup}
use Rattle.mrc_model.specs.Death.{notify_destroyed, perished_port}
use Rattle.std.proofs.lemmas.Bool.{or_left, or_right}
use Rattle.mrc_model.proofs.Maps.{get-insert_same, same_Some}
use Rattle.mrc_map.proofs.Walks.{since, from_first}
use Rattle.mrc_ports.specs.Queues.{limit_of_waiting, is_full_for, is_out_of_room, with_message}
use Rattle.mrc_ports.specs.declared.table.NotQueued.{NotQueued}
use Rattle.mrc_ports.specs.declared.table.NotQueued.TheVariants.{Absent, Full, Memory}
use Rattle.mrc_ports.proofs.TableLaws.{insert_twice}
use Rattle.mrc_death.specs.Plans.{HasRoom, tell_once, tell_destroyed, once_ports}
use Rattle.mrc_death.specs.Plans.{left_port, kept_ports, named, backup_at, used_up}
use Rattle.mrc_death.proofs.Rooms.{room_used}

-- SEND_ONCE goes to the ports of the send-once rights
pub once_told : (s : Store) (hs : List Held) → notify_once s hs ≡ tell_once s (once_ports hs)
once_told s [] = refl
once_told s (h ∷ hs) =
    elim (is_once h.right) as (λ b.
    notify_once (if b then append s h.port once_notice else s) hs
    ≡ tell_once s ((if b then h.port ∷ [] else []) ++ once_ports hs)) [
      | true ↦ once_told (append s h.port once_notice) hs
      | false ↦ once_told s hs
    ]

-- the ports of a table
abbrev keys_of : List (ℕ × Port) → List ℕ
keys_of es = map (λ e. e.0) es

-- PORT_DESTROYED goes to the backups of the ports that lose their receive rights, and stay
pub destroyed_told : (dead lost : List ℕ) (gone : List Held) (s : Store) (es : List (ℕ × Port))
    → ((p : ℕ) → has (keys_of es) p ≡ true → has lost p ≡ has_receive p gone)
    → notify_destroyed s gone (keys_of (alter_list (perished_port dead) es))
    ≡ tell_destroyed s (kept_ports dead lost es)
destroyed_told dead lost gone s [] same = refl
destroyed_told dead lost gone s (e ∷ es) same =
    both (λ z. destroyed_told dead lost gone z es
    (λ p live. same p (or_right (e.0 == p) (has (keys_of es) p) live)))
    (has dead e.0) (has_receive e.0 gone) _ refl
    ∙ ap (λ c. tell_destroyed s ((if not (has dead e.0) && c then e.0 ∷ [] else [])
    ++ kept_ports dead lost es))
    (sym (same e.0 (or_left (e.0 == e.0) (has (keys_of es) e.0) (eq-eqb e.0 e.0 refl))))
  where
    lives : ((z : Store) → notify_destroyed z gone (keys_of (alter_list (perished_port dead) es))
        ≡ tell_destroyed z (kept_ports dead lost es))
        → (b : Bool)
        → notify_destroyed (if b then notify_port s e.0 (get s.ports e.0) else s) gone
        (keys_of (alter_list (perished_port dead) es))
        ≡ tell_destroyed s ((if b then e.0 ∷ [] else []) ++ kept_ports dead lost es)
    lives rest true = rest (notify_port s e.0 (get s.ports e.0))
    lives rest false = rest s

    both : ((z : Store) → notify_destroyed z gone (keys_of (alter_list (perished_port dead) es))
        ≡ tell_destroyed z (kept_ports dead lost es))
        → (b c : Bool) (y : Port)
        → has_receive e.0 gone ≡ c
        → notify_destroyed s gone (keys_of (cons_some e.0 (if b then None else Some y)
        (alter_list (perished_port dead) es)))
        ≡ tell_destroyed s ((if not b && c then e.0 ∷ [] else []) ++ kept_ports dead lost es)
    both rest true c y is = rest s
    both rest false c y is =
        ap (λ d. notify_destroyed (if d then notify_port s e.0 (get s.ports e.0) else s)
        gone (keys_of (alter_list (perished_port dead) es))) is ∙ lives rest c

module _ (s t : Store) (p : ℕ) (m : Parcel) (r : Result (Unit {0}) NotQueued)
    (queued : (x : Port) → get s.ports p ≡ Some x → is_full_for x m.by_once ≡ false
    → is_out_of_room x ≡ false
    → IsOk r × (t ≡ set_port s p (with_message x m)))
    (absent : get s.ports p ≡ None → (r ≡ Err (Absent m)) × (t ≡ s))
    (once : m.by_once ≡ true) (room : HasRoom 1 s) where
  not_full : (x : Port) → is_full_for x m.by_once ≡ false
  not_full x = ap (is_full_for x) once

  has_place : (x : Port) → get s.ports p ≡ Some x → is_out_of_room x ≡ false
  has_place x at = below (length x.queue) (room.at p 0 x at (omega arith))
    where
      below : (n : ℕ) → n + 0 < limit_of_waiting → nat_le limit_of_waiting n ≡ false
      below n h = grind (arith, nat_tests)

  -- the notice stands at the end of the queue, if the port is live
  pub notice_queued : t ≡ append s p m
  unfolding append
  notice_queued = go (get s.ports p) refl
    where
      go : (o : Option Port) → get s.ports p ≡ o → t ≡ append_to s p m o
      go None at = (absent at).1
      go (Some x) at = (queued x at (not_full x) (has_place x at)).1

  -- it is refused only if the port is not live
  only_absent : (why : NotQueued) → r ≡ Err why → r ≡ Err (Absent m)
  only_absent why is = go (get s.ports p) refl
    where
      go : (o : Option Port) → get s.ports p ≡ o → r ≡ Err (Absent m)
      go None at = (absent at).0
      go (Some x) at =
          let ok = subst IsOk is (queued x at (not_full x) (has_place x at)).0 in cc

  -- the queue is not full for it
  pub never_full : (kept : Parcel) → r ≡ Err (Full kept) → ⊥
  never_full kept is = let same = sym is ∙ only_absent (Full kept) is in cc

  -- and not so many messages wait that there is no room
  pub never_out_of_room : (kept : Parcel) → r ≡ Err (Memory kept) → ⊥
  never_out_of_room kept is = let same = sym is ∙ only_absent (Memory kept) is in cc

-- a request that is used up
pub used_as : (s mid t : Store) (p : ℕ) (x : Port)
    → get s.ports p ≡ Some x
    → mid ≡ set_port s p (record x { backup = NoBackup })
    → t ≡ restart mid p
    → t ≡ set_port s p (used_up x)
unfolding restart
used_as s mid t p x at set again =
    let y : Port = record x { backup = NoBackup } in
    again ∙ ap (λ (z : Store). restart_port z p (get z.ports p)) set
    ∙ ap (restart_port (set_port s p y) p) (get-insert_same s.ports p y)
    ∙ ap (λ ports. record s { ports = ports }) (insert_twice s.ports p y (used_up x))

-- nothing is told where there is no live backup
pub none_told : (s : Store) (p : ℕ) (o : Option Port) → None ≡ backup_at o → s ≡ notify_port s p o
none_told s p None is = refl
none_told s p (Some x) is = go x.backup is
  where
    go : (b : Backup) → None ≡ named b → s ≡ notify_backup s p x b
    go NoBackup is = refl
    go DeadBackup is = refl
    go (BackupPort b) is = cc

-- a port with a backup
abbrev pub IsUsed : Store → Store → ℕ → Type 0
IsUsed s mid p = (x : Port) → get s.ports p ≡ Some x → mid ≡ set_port s p (used_up x)

-- after the use there is as much room
pub used_room : (s mid : Store) (p b : ℕ) (o : Option Port)
    → get s.ports p ≡ o
    → Some b ≡ backup_at o
    → IsUsed s mid p
    → HasRoom 1 s
    → HasRoom 1 mid
used_room s mid p b None at is used room = cc
used_room s mid p b (Some x) at is used room =
    subst (HasRoom 1) (sym (used x at)) (room_used 1 s p x at room)

-- the notice goes to the backup
pub backup_told : (s mid : Store) (p b : ℕ) (o : Option Port)
    → get s.ports p ≡ o
    → Some b ≡ backup_at o
    → IsUsed s mid p
    → append mid b (destroyed_notice p) ≡ notify_port s p o
backup_told s mid p b None at is used = cc
backup_told s mid p b (Some x) at is used =
    ap (λ z. append z b (destroyed_notice p)) (used x at) ∙ go x.backup is
  where
    go : (k : Backup) → Some b ≡ named k
        → append (set_port s p (used_up x)) b (destroyed_notice p) ≡ notify_backup s p x k
    go NoBackup is = cc
    go DeadBackup is = cc
    go (BackupPort c) is =
        ap (λ d. append (set_port s p (used_up x)) d (destroyed_notice p)) (same_Some b c is)

-- the ports that lose their receive rights, and stay
pub all_kept : (dead lost : List ℕ) (es : List (ℕ × Port))
    → since (left_port dead) lost 0 es ≡ kept_ports dead lost es
all_kept dead lost [] = refl
all_kept dead lost (e ∷ es) = λ i.
    (from_first (left_port dead) lost e ∙ both (has dead e.0) (has lost e.0) (e.0 ∷ [])) i
    ++ all_kept dead lost es i
  where
    both : (b c : Bool) (ps : List ℕ)
        → (if c then (if not b then ps else []) else []) ≡ (if not b && c then ps else [])
    both true true ps = refl
    both true false ps = refl
    both false true ps = refl
    both false false ps = refl
