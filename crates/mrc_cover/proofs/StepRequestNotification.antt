-- request_notification keeps a world well formed and covered. New is the request: its send-once
-- right is the caller's, which is trusted to give it, so by K7 one that the task may hold, which
-- has the port's receive right, and so the fact comes by K8. New is also that the caller holds the
-- right of the request before, which by K10 the task may hold, and by K7 the caller, which is
-- trusted to take it.
use Rattle.std.proofs.Common.{Bool, Ok, Option, Some, [], ap, arith, false, if◌then◌else◌, inl, inr}
use Rattle.std.proofs.Common.{refl, subst, sym, true, ℕ, ◌&&◌, ◌==◌, ◌∙◌, ◌∷◌, ◌≡◌, ◌≤◌}
use Rattle.std.proofs.Math.Nat.{le_trans}
use Rattle.std.proofs.lemmas.Bool.{and_parts, cases_eq}
use Rattle.mrc_base.specs.Disposition.{given}
use Rattle.mrc_base.specs.declared.Disp.{Disp}
use Rattle.mrc_base.specs.declared.Disp.TheVariants.{CopySend, MakeSend, MakeSendOnce, MoveReceive}
use Rattle.mrc_base.specs.declared.Disp.TheVariants.{MoveSend, MoveSendOnce}
use Rattle.mrc_base.specs.declared.Fact.TheVariants.{Hold}
use Rattle.mrc_base.specs.declared.PortRight.TheVariants.{Receive, SendOnce}
use Rattle.mrc_model.proofs.KeptCalls.{same_entry}
use Rattle.mrc_model.proofs.Maps.{not_None, same_Some}
use Rattle.mrc_model.proofs.Tries.{Gives, bind, bind_, checked, found, gives_ok, not_refused}
use Rattle.mrc_model.specs.CallRequestNotification.{backup_item, call_request_notification}
use Rattle.mrc_model.specs.CallRequestNotification.{give_backup}
use Rattle.mrc_model.specs.CallRequestNotification.{is_live_backup, is_notify_disp, new_backup}
use Rattle.mrc_model.specs.CallRequestNotification.{received_port, take_backup}
use Rattle.mrc_model.specs.Covers.{IsBackup}
use Rattle.mrc_model.specs.Map.{get, len}
use Rattle.mrc_model.specs.Rules.{FactSet}
use Rattle.mrc_model.specs.Space.{give_item, is_full}
use Rattle.mrc_model.specs.Trust.{may_on}
use Rattle.mrc_model.specs.Wiring.{Wiring, accepts_destroyed}
use Rattle.mrc_model.specs.World.{Port, Store, World, class_of, receives, set_port, space}
use Rattle.mrc_model.specs.World.{task_class}
use Rattle.mrc_model.specs.declared.Backup.{Backup}
use Rattle.mrc_model.specs.declared.Backup.TheVariants.{Port as BackupPort, Dead as DeadBackup}
use Rattle.mrc_model.specs.declared.Backup.TheVariants.{Absent as NoBackup}
use Rattle.mrc_model.specs.declared.Entry.{Entry}
use Rattle.mrc_model.specs.declared.Entry.TheVariants.{DeadName as DeadEntry, SendOnce as OnceEntry}
use Rattle.mrc_model.specs.declared.Entry.TheVariants.{Receive as ReceiveEntry, Send as SendEntry}
use Rattle.mrc_model.specs.declared.Entry.TheVariants.{PortSet as SetEntry}
use Rattle.mrc_model.specs.declared.Item.TheVariants.{Right as RightItem}
use Rattle.mrc_model.specs.declared.Verb.TheVariants.{Gives as GivesVerb, Takes}
use Rattle.mrc_cover.proofs.Gaining.{room_if_not_full}
use Rattle.mrc_cover.proofs.Giving.{give_right_leaves}
use Rattle.mrc_cover.proofs.Kept.{IsAlive, Keeps, Kept, keeps_with, target_is}
use Rattle.mrc_cover.proofs.Obeyed.{Obeys, obeys}
use Rattle.mrc_cover.proofs.Rights.{right_on}
use Rattle.mrc_cover.proofs.Sound.{Leaves, SoundWith, changes_nothing, changes_then, exchange_hand}
use Rattle.mrc_cover.proofs.Sound.{leaves_then, set_port_changes, set_port_sound}
use Rattle.mrc_cover.proofs.Stores.{live_class}
use Rattle.mrc_cover.proofs.Taking.{take_leaves}
use Rattle.mrc_cover.proofs.Trusting.{given_fact, taken_fact}

-- the port of a receive right
received_is : (e : Entry) (p : ℕ) → received_port e ≡ Some p
    → (k : ℕ) × (i : Option ℕ) × (e ≡ ReceiveEntry p k i)
received_is (ReceiveEntry q k i) p z = (k, i, ap (λ v. ReceiveEntry v k i) (same_Some q p z))
received_is (SendEntry q k) p z = absurd (not_None p (sym z))
received_is (OnceEntry q) p z = absurd (not_None p (sym z))
received_is SetEntry p z = absurd (not_None p (sym z))
received_is (DeadEntry k) p z = absurd (not_None p (sym z))

-- what is given for a notification is a send-once right
notify_once : (x : Disp) (p q : ℕ) → is_notify_disp x ≡ true
    → (given x ≡ SendOnce) × (receives q (right_on p (given x) ∷ []) ≡ 0)
notify_once MoveSendOnce p q e = (refl, refl)
notify_once MakeSendOnce p q e = (refl, refl)
notify_once MoveReceive p q e = cc
notify_once MoveSend p q e = cc
notify_once CopySend p q e = cc
notify_once MakeSend p q e = cc

module _ (W : Wiring) (G : FactSet) (obeys : Obeys W G) (task : ℕ → ℕ) (A : ℕ → Type 0) where
  -- the new request, and the store that its right was taken from
  pub record IsRequested (s : Store) (t : ℕ) (r : Store × Backup) : Type 0 where
    pub leaves : Leaves W G task A s [] r.0
    pub backup : IsBackup (class_of r.0) (λ d. (accepts_destroyed W d ≡ true)
        × G (Hold (task t) d SendOnce)) r.1
    pub small : (u : ℕ) → len (space r.0 u) ≤ len (space s u)

  -- the send-once right of the caller becomes the request
  new_backup_is : (s : Store) (t n : ℕ) (x : Disp) → is_notify_disp x ≡ true → A t
      → SoundWith W G task s []
      → Gives (IsRequested s t) (new_backup W s t n x)
  new_backup_is s t n x once mine sound = go (n == 0)
    where
      taken_ok : Gives (IsRequested s t) (take_backup W s t n x)
      taken_ok =
          bind_ _ _ (not_refused _ _) (λ _ _.
          bind _ _ (take_leaves W G task A obeys s [] t n x _ _ mine sound) (λ got h.
          bind _ _ (found (get got.0.ports got.1) _) (λ y live.
          bind_ _ _ (checked (accepts_destroyed W y.class) _) (λ _ accepted.
          let same : h.known.0 ≡ y.class = same_Some _ _ (sym h.known.1
          ∙ live_class got.0 got.1 y live) in
          let fact : G (Hold (task t) y.class SendOnce) = rw (notify_once x got.1 0 once).0 at
          (rw same at h.known.2) in
          gives_ok record {
            leaves = record {
              sound = exchange_hand (λ q. sym (notify_once x got.1 q once).1) h.leaves.sound;
              changes = h.leaves.changes;
            };
            backup = record {
              live = λ q e.
                  let its : got.1 ≡ q = cc in (
                    y.class,
                    ap (class_of got.0) (sym its)
                        ∙ live_class got.0 got.1 y live,
                    (accepted, fact),
                  );
            };
            small = h.small;
          }))))

      go : (b : Bool)
          → Gives (IsRequested s t) (if b then Ok (s, NoBackup) else take_backup W s t n x)
      go true = gives_ok record {
        leaves = record { sound = sound; changes = changes_nothing A s };
        backup = record { live = λ q e. cc };
        small = λ u. omega arith;
      }
      go false = taken_ok

module _ (W : Wiring) (G : FactSet) where
  -- the previous backup's right goes to the caller
  backup_given : (w : World) (s : Store) (t : ℕ) (b : Backup) → IsAlive w t
      → SoundWith W G (task_class w) s []
      → IsBackup (class_of s) (λ d. G (Hold (task_class w t) d SendOnce)) b
      → (is_live_backup b && is_full (space s t)) ≡ false → ((u : ℕ) → len (space s u) ≤ 4096)
      → Leaves W G (task_class w) (IsAlive w) s [] (give_backup s t b).0 × ((u : ℕ)
      → len (space (give_backup s t b).0 u) ≤ 4096)
  unfolding give_item
  backup_given w s t NoBackup alive sound backup room few =
      (record { sound = sound; changes = changes_nothing _ s }, few)
  backup_given w s t DeadBackup alive sound backup room few =
      (record { sound = sound; changes = changes_nothing _ s }, few)
  backup_given w s t (BackupPort b) alive sound backup room few =
      let known = backup.live b refl in
      let gained = give_right_leaves W G (task_class w) (IsAlive w) s [] t b SendOnce alive
      (exchange_hand (λ q. refl) sound) known in (
        gained.0,
        λ u. elim (cases_eq u t) [
          | inl e ↦ rw e
              (let a = gained.1 in let c = room_if_not_full (space s t) room in omega arith)
          | inr n ↦ rw (gained.2 u n) (few u)
        ],
      )

  -- the new request (K8), with the right of the caller down to the task (K7), and the previous
  -- one's right to the caller (K10, K7)
  pub request_notification_keeps : Obeys W G
      → (w : World) (t task name id sync notify : ℕ) (x : Disp) → IsAlive w t
      → Kept W G w
      → Keeps W G (call_request_notification W w t task name id sync notify x)
  unfolding call_request_notification
  request_notification_keeps obeys w t task name id sync notify x alive kept =
      let τ = task_class w in
      let A = IsAlive w in
      bind _ _ (target_is W G w t task _ kept) (λ u is.
      bind_ _ _ (checked (id == 69 && (sync == 0 && is_notify_disp x)) _) (λ _ asked.
      bind _ _ (same_entry w u name) (λ e at.
      bind _ _ (found (received_port e) _) (λ p got.
      let once = (and_parts _ _ (and_parts (id == 69) _ asked).1).1 in
      bind _ _ (new_backup_is W G obeys τ A w.store t notify x once alive kept.sound) (λ r h.
      bind_ _ _ (checked (may_on W w GivesVerb t u (backup_item r.1)) _) (λ _ gives.
      bind _ _ (found (get r.0.ports p) _) (λ y live.
      bind_ _ _ (checked (may_on W w Takes t u (backup_item y.backup)) _) (λ _ takes.
      bind_ _ _ (not_refused (is_live_backup y.backup && is_full (space r.0 t)) _) (λ _ room.
      let (k, i, shape) = received_is e p got in
      let held = (kept.sound.covers.held u name (ReceiveEntry p k i) (at
      ∙ ap (λ v. Some v) shape)).all.0 in
      let class : class_of r.0 p ≡ Some y.class = live_class r.0 p y live in
      let same : held.0 ≡ y.class = same_Some _ _ (sym held.1 ∙ sym (h.leaves.changes.classes p)
      ∙ class) in
      let receive : G (Hold (τ u) y.class Receive) = rw same at held.2 in
      let z : Port = record y { backup = r.1 } in
      let mid : Leaves W G τ A r.0 [] (set_port r.0 p z) = record {
        sound =
            set_port_sound W G τ r.0 [] [] p y z h.leaves.sound live refl (λ q. refl)
            (h.leaves.sound.covers.carried p y live)
            record {
              live = λ q e.
                  let b = h.backup.live q e in
                  let class = sym (h.leaves.changes.classes q) ∙ b.1 in
                  let trusted : may_on W w GivesVerb t u (RightItem q SendOnce) ≡ true =
                  subst (λ v. may_on W w GivesVerb t u (backup_item v) ≡ true) e gives in (
                    b.0,
                    b.1,
                    obeys.backup b.2.0 receive
                        (given_fact W G obeys w t u q b.0 SendOnce is class trusted b.2.1),
                  );
            };
        changes = set_port_changes r.0 p y z live refl;
      } in
      let previous : IsBackup (class_of (set_port r.0 p z))
      (λ d. G (Hold (τ t) d SendOnce)) y.backup = record {
        live = λ q e.
            let b = (h.leaves.sound.covers.backups p y live).live q e in
            let class = sym (h.leaves.changes.classes q) ∙ b.1 in
            let trusted : may_on W w Takes t u (RightItem q SendOnce) ≡ true =
            subst (λ v. may_on W w Takes t u (backup_item v) ≡ true) e takes in (
              b.0,
              mid.changes.classes q
                  ∙ b.1,
              taken_fact W G obeys w t u q b.0 SendOnce is class trusted
                  (obeys.previous receive b.2),
            );
      } in
      let end = backup_given w (set_port r.0 p z) t y.backup alive mid.sound previous room
      (λ u. le_trans (h.small u) (kept.few u)) in
      gives_ok (keeps_with W G w (give_backup (set_port r.0 p z) t y.backup).0 kept
      (leaves_then (changes_then h.leaves.changes mid.changes) end.0) end.1))))))))))
