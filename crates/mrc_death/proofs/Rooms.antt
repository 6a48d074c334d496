-- Room for messages, and what takes some of it.
use Rattle.std.proofs.Common.{◌≡◌, ℕ, ◌+◌, ◌<◌, ◌≤◌, inl, inr, Bool, true, false, List, []}
use Rattle.std.proofs.Common.{◌∷◌, ◌++◌, length, if◌then◌else◌}
use Rattle.std.proofs.Common.{map, Option, Some, None, refl, sym, ◌∙◌, ap, subst, arith}
use Rattle.std.proofs.lemmas.Bool.{cases_eq}
use Rattle.std.proofs.lemmas.List.{length_push, length-map}
use Rattle.mrc_model.specs.Map.{Map, get, insert}
use Rattle.mrc_model.specs.World.{Space, Parcel, Port, Store, set_port}
use Rattle.mrc_model.specs.declared.Backup.{Backup}
use Rattle.mrc_model.specs.declared.Backup.TheVariants.{Absent as NoBackup, Dead as DeadBackup}
use Rattle.mrc_model.specs.declared.Backup.TheVariants.{Port as BackupPort}
use Rattle.mrc_model.specs.Death.{has, append, append_to, bury, perished_port, perished_parcel}
use Rattle.mrc_model.specs.Death.{perished_backup}
use Rattle.mrc_model.specs.Death.{once_notice, destroyed_notice, notify_port, notify_backup}
use Rattle.mrc_model.proofs.Maps.{get-insert_same, get-insert_other, origin-alter_all}
use Rattle.mrc_model.proofs.Maps.{same_Some, not_None}
use Rattle.mrc_ports.specs.Queues.{limit_of_waiting, HaveRoom}
use Rattle.mrc_ports.specs.Tables.{Table, table_of}
use Rattle.mrc_death.specs.Plans.{HasRoom, tell_once, used_up}

-- room for fewer
pub room_less : (n k : ℕ) (s : Store) → n ≤ k → HasRoom k s → HasRoom n s
room_less n k s h r = record { at = λ p j x at l. r.at p j x at (omega arith) }

-- a port that is put in place of another one, where its queue has room
pub room_put : (n : ℕ) (s : Store) (p : ℕ) (y : Port)
    → HasRoom n s
    → ((j : ℕ) → j < n → length y.queue + j < limit_of_waiting)
    → HasRoom n (set_port s p y)
room_put n s p y r fits = record {
  at = λ q j x at l. elim (cases_eq q p) [
    | inl same ↦
        let is : y ≡ x =
        same_Some y x
        (sym (get-insert_same s.ports p y) ∙ ap (get (insert s.ports p y)) (sym same) ∙ at) in
        subst (λ (z : Port). length z.queue + j < limit_of_waiting) is (fits j l)
    | inr other ↦ r.at q j x (sym (get-insert_other s.ports p y q other) ∙ at) l
  ];
}

-- a message takes one place
pub room_append : (n : ℕ) (s : Store) (p : ℕ) (m : Parcel)
    → HasRoom (n + 1) s
    → HasRoom n (append s p m)
unfolding append
room_append n s p m r = go (get s.ports p) refl
  where
    go : (o : Option Port) → get s.ports p ≡ o → HasRoom n (append_to s p m o)
    go None e = room_less n (n + 1) s (omega arith) r
    go (Some x) e =
        room_put n s p (record x { queue = x.queue ++ m ∷ [] })
        (room_less n (n + 1) s (omega arith) r)
        (λ j l.
        let size = length_push x.queue m in
        let room : length x.queue + (j + 1) < limit_of_waiting = r.at p (j + 1) x e (omega arith) in
        subst (λ k. k + j < limit_of_waiting) (sym size) (omega arith))

-- other spaces take none
pub room_spaces : (n : ℕ) (s : Store) (m : Map Space) → HasRoom n s
    → HasRoom n (record s { spaces = m })
room_spaces n s m r = record { at = r.at }

-- a burial takes none
pub room_bury : (n : ℕ) (s : Store) (dead : List ℕ) → HasRoom n s → HasRoom n (bury s dead)
unfolding bury
room_bury n s dead r = record {
  at = λ p j y at l.
      let (x, there, left) = origin-alter_all (perished_port dead) s.ports p y at in
      subst (λ k. k + j < limit_of_waiting) (sym (as_long (has dead p) p x y left))
      (r.at p j x there l);
}
  where
    as_long : (b : Bool) (p : ℕ) (x y : Port)
        → (if b then None
        else Some (record x {
          queue = map (perished_parcel dead) x.queue;
          backup = perished_backup dead x.backup;
        })) ≡ Some y
        → length y.queue ≡ length x.queue
    as_long true p x y left = absurd (not_None y (sym left))
    as_long false p x y left =
        ap (λ (w : Port). length w.queue) (sym (same_Some _ _ left)) ∙ length-map x.queue _

-- a port that keeps its queue takes none
pub room_used : (n : ℕ) (s : Store) (p : ℕ) (x : Port)
    → get s.ports p ≡ Some x
    → HasRoom n s
    → HasRoom n (set_port s p (used_up x))
room_used n s p x at r = room_put n s p (used_up x) r (λ j l. r.at p j x at l)

-- a port-destroyed notice takes one place
pub room_notify : (n : ℕ) (s : Store) (p : ℕ) (o : Option Port)
    → get s.ports p ≡ o
    → HasRoom (n + 1) s
    → HasRoom n (notify_port s p o)
room_notify n s p None at r = room_less n (n + 1) s (omega arith) r
room_notify n s p (Some x) at r = go x.backup
  where
    go : (b : Backup) → HasRoom n (notify_backup s p x b)
    go NoBackup = room_less n (n + 1) s (omega arith) r
    go DeadBackup = room_less n (n + 1) s (omega arith) r
    go (BackupPort b) = room_append n _ b (destroyed_notice p) (room_used (n + 1) s p x at r)

-- after all send-once notices
pub room_told : (n : ℕ) (s : Store) (ps : List ℕ)
    → HasRoom (length ps + n) s
    → HasRoom n (tell_once s ps)
room_told n s [] r = room_less n (0 + n) s (omega arith) r
room_told n s (p ∷ ps) r =
    let more : length ps + n + 1 ≤ length (p ∷ ps) + n = omega arith in
    room_told n (append s p once_notice) ps
    (room_append (length ps + n) s p once_notice (room_less _ _ s more r))

-- as a table tells it
pub room_of : (more : ℕ) (s : Store) (t : Table)
    → t ≡ table_of s
    → HaveRoom more t.ports
    → HasRoom more s
room_of more s t is room = record {
  at = λ p k x at l.
      let fits = room p x (ap (λ (u : Table). get u.ports p) is ∙ at) in omega arith;
}
