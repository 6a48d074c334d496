-- Notices take what was destroyed to where it belongs: each receive right that was destroyed, and
-- whose port stays, goes to the queue of the port that its request names. The facts of requests
-- give those of the notices, by K9.
use Rattle.std.proofs.Common.{Bool, List, None, Option, Some, [], ap, arith, false, if◌then◌else◌}
use Rattle.std.proofs.Common.{inl, inr, refl, subst, sym, true, ℕ, ◌++◌, ◌+◌, ◌∙◌, ◌∷◌, ◌≡◌, ◌≤◌}
use Rattle.std.proofs.Common.{◌⊎◌}
use Rattle.std.proofs.lemmas.Bool.{ne_eqb}
use Rattle.std.specs.Option.{option_map}
use Rattle.mrc_base.specs.declared.PortRight.TheVariants.{Receive}
use Rattle.mrc_model.proofs.Maps.{get-insert_other, not_None, same_Some}
use Rattle.mrc_model.specs.Covers.{Known}
use Rattle.mrc_model.specs.Death.{append, append_to, destroyed_notice, has_receive, notify_backup}
use Rattle.mrc_model.specs.Death.{notify_destroyed, notify_once, notify_port, once_notice}
use Rattle.mrc_model.specs.Map.{get}
use Rattle.mrc_model.specs.Rights.{is_once}
use Rattle.mrc_model.specs.Rules.{FactSet}
use Rattle.mrc_model.specs.Wiring.{Wiring}
use Rattle.mrc_model.specs.World.{Held, Parcel, Port, Store, class_of, one_if_receive}
use Rattle.mrc_model.specs.World.{parcel_rights, set_port, space}
use Rattle.mrc_model.specs.declared.Backup.{Backup}
use Rattle.mrc_model.specs.declared.Backup.TheVariants.{Port as BackupPort, Dead as DeadBackup}
use Rattle.mrc_model.specs.declared.Backup.TheVariants.{Absent as NoBackup}
use Rattle.mrc_cover.proofs.Obeyed.{Obeys}
use Rattle.mrc_cover.proofs.Pending.{IsRisingFrom, pending}
use Rattle.mrc_cover.proofs.Queueing.{append_backup, append_leaves, backup_at}
use Rattle.mrc_cover.proofs.Rights.{MayCarry, right_on}
use Rattle.mrc_cover.proofs.Sound.{SoundWith, exchange_hand_live, set_port_changes, set_port_sound}

-- what notices keep: the store is sound with the hand, and classes, spaces and the next birth
-- number stay
pub record Noted (W : Wiring) (G : FactSet) (task : ℕ
    → ℕ) (s : Store) (hand : List Held) (z : Store) : Type 0 where
  pub sound : SoundWith W G task z hand
  pub classes : (p : ℕ) → class_of z p ≡ class_of s p
  pub next : z.next ≡ s.next
  pub spaces : (t : ℕ) → space z t ≡ space s t

module _ (W : Wiring) (G : FactSet) (obeys : Obeys W G) (task : ℕ → ℕ) where
  -- no notice at all
  noted_itself : (s : Store) (hand : List Held) → SoundWith W G task s hand
      → Noted W G task s hand s
  noted_itself s hand sound =
      record { sound = sound; classes = λ p. refl; next = refl; spaces = λ t. refl }

  -- one notice after another
  pub noted_then : {r s z : Store} {hand hand' : List Held} → Noted W G task r hand s
      → Noted W G task s hand' z
      → Noted W G task r hand' z
  noted_then a b = record {
    sound = b.sound;
    classes = λ p. b.classes p ∙ a.classes p;
    next = b.next ∙ a.next;
    spaces = λ t. b.spaces t ∙ a.spaces t;
  }

  -- a message from the hand to the queue of a live port
  appended : (s : Store) (hand : List Held) (d c : ℕ) (m : Parcel) → class_of s d ≡ Some c
      → SoundWith W G task s (parcel_rights m ++ hand)
      → Known (class_of s) (MayCarry G c) (parcel_rights m)
      → Noted W G task s hand (append s d m)
  appended s hand d c m class sound known =
      let a = append_leaves W G task (λ t. ⊥) s hand d c m class sound known in
      record {
        sound = a.0.sound;
        classes = a.0.changes.classes;
        next = a.0.changes.next;
        spaces =
            a.1;
      }

  -- the notice of one send-once right
  once_noted : (s : Store) (hand : List Held) (p : ℕ) → SoundWith W G task s hand
      → Noted W G task s hand (append s p once_notice)
  unfolding append
  once_noted s hand p sound =
      let go : (o : Option Port) → get s.ports p ≡ o
      → Noted W G task s hand (append_to s p once_notice o) = elim [
        | None ↦ λ e. noted_itself s hand sound
        | Some x ↦ λ e. subst (λ v. Noted W G task s hand v) (ap (append_to s p once_notice) e)
            (appended s hand p x.class once_notice (ap (option_map (λ (x : Port). x.class)) e) sound
            record { all = tt })
      ] in
      go (get s.ports p) refl

  -- the notices of all send-once rights
  pub onces_noted : (s : Store) (hand hs : List Held) → SoundWith W G task s hand
      → Noted W G task s hand (notify_once s hs) × ((q : ℕ)
      → backup_at (notify_once s hs) q ≡ backup_at s q)
  onces_noted s hand [] sound = (noted_itself s hand sound, λ q. refl)
  onces_noted s hand (h ∷ hs) sound =
      let go : (b : Bool)
      → Noted W G task s hand (notify_once (if b then append s h.port once_notice else s) hs)
      × ((q : ℕ) → backup_at (notify_once (if b then append s h.port once_notice else s) hs) q
      ≡ backup_at s q) = elim [
        | true ↦
            let a = once_noted s hand h.port sound in
            let b = onces_noted (append s h.port once_notice) hand hs a.sound in
            (noted_then a b.0, λ q. b.1 q ∙ append_backup s h.port once_notice q)
        | false ↦ onces_noted s hand hs sound
      ] in
      go (is_once h.right)

-- a request that names a port is neither absent nor dead
not_saved : (b : Backup) (q : ℕ) → b ≡ BackupPort q → (b ≡ NoBackup) ⊎ (b ≡ DeadBackup) → ⊥
not_saved b q e (inl h) = cc
not_saved b q e (inr h) = cc

-- each destroyed receive right from this number on has a backup to go to
abbrev pub AreSaved : Store → List Held → ℕ → Type 0
AreSaved s hs low = (q c : ℕ) → low ≤ q → has_receive q hs ≡ true → class_of s q ≡ Some c → (b : ℕ)
    × (backup_at s q ≡ Some (BackupPort b))

-- the other requests stay
backup-set_port : (s : Store) (p : ℕ) (y : Port) (q : ℕ) → (q ≡ p → ⊥)
    → backup_at (set_port s p y) q ≡ backup_at s q
backup-set_port s p y q n =
    ap (option_map (λ (x : Port). x.backup)) (get-insert_other s.ports p y q n)

module _ (W : Wiring) (G : FactSet) (obeys : Obeys W G) (task : ℕ → ℕ) where
  -- one port's notice
  port_noted : (s : Store) (hand gone : List Held) (p : ℕ) (o : Option Port) → get s.ports p ≡ o
      → has_receive p gone ≡ true → AreSaved s gone p
      → SoundWith W G task s (right_on p Receive ∷ hand)
      → Noted W G task s hand (notify_port s p o) × AreSaved (notify_port s p o) gone (p + 1)
  port_noted s hand gone p None e h saved sound = (
    noted_itself W G obeys task s hand (exchange_hand_live (λ q c is.
        let z = not_it q c is in
        omega arith) sound),
    λ q c l i has. saved q c (omega arith) i has,
  )
    where
      not_it : (q c : ℕ) → class_of s q ≡ Some c → one_if_receive q p Receive ≡ 0
      not_it q c is =
          rw (ne_eqb p q (λ z. not_None c
          (sym is ∙ ap (class_of s) (sym z) ∙ ap (option_map (λ (x : Port). x.class)) e)))
  port_noted s hand gone p (Some x) e h saved sound = by_backup x.backup refl
    where
      class : class_of s p ≡ Some x.class
      class = ap (option_map (λ (x : Port). x.class)) e

      its : (b : ℕ) × (backup_at s p ≡ Some (BackupPort b))
      its = saved p x.class (omega arith) h class

      backup_is : x.backup ≡ BackupPort its.0
      backup_is =
          same_Some x.backup (BackupPort its.0) (sym (ap (option_map (λ (x : Port). x.backup)) e)
          ∙ its.1)

      by_backup : (b : Backup) → x.backup ≡ b
          → Noted W G task s hand (notify_backup s p x b) × AreSaved (notify_backup s p x b) gone
          (p + 1)
      by_backup NoBackup z = absurd (not_saved NoBackup its.0 (sym z ∙ backup_is) (inl refl))
      by_backup DeadBackup z = absurd (not_saved DeadBackup its.0 (sym z ∙ backup_is) (inr refl))
      by_backup (BackupPort b) z =
          let y : Port = record x { backup = NoBackup; receipts = 0 } in
          let s1 = set_port s p y in
          let fact = (sound.covers.backups p x e).live b z in
          let a = set_port_sound W G task s (right_on p Receive ∷ hand)
          (right_on p Receive ∷ hand) p x y sound e refl
          (λ q. refl) (sound.covers.carried p x e) record { live = λ q e. cc } in
          let changes = set_port_changes {A = λ t. ⊥} s p x y e refl in
          let noted = appended W G obeys task s1 hand b fact.0 (destroyed_notice p)
          (changes.classes b ∙ fact.1) a
          record { all = ((x.class, changes.classes p ∙ class, obeys.destroyed fact.2), tt) } in (
            record {
              sound = noted.sound;
              classes = λ q. noted.classes q ∙ changes.classes q;
              next = noted.next;
              spaces = noted.spaces;
            },
            λ q c l i has.
                let was = saved q c (omega arith) i (sym (changes.classes q) ∙ sym (noted.classes q)
                ∙ has) in (
                  was.0,
                  append_backup s1 b (destroyed_notice p) q
                      ∙ backup-set_port s p y q (λ (v : q ≡ p). absurd (omega arith)) ∙ was.1,
                ),
          )

  -- each pending receive right goes to the queue of the port that its request names
  pub all_noted : (s : Store) (gone : List Held) (low : ℕ) (ps : List ℕ) → IsRisingFrom low ps
      → AreSaved s gone low
      → SoundWith W G task s (pending gone ps) → Noted W G task s [] (notify_destroyed s gone ps)
  all_noted s gone low [] r saved sound = noted_itself W G obeys task s [] sound
  all_noted s gone low (p ∷ ps) r saved sound =
      let l = r.0 in
      let go : (b : Bool) → has_receive p gone ≡ b
      → SoundWith W G task s ((if b then right_on p Receive ∷ [] else []) ++ pending gone ps)
      → Noted W G task s []
      (notify_destroyed (if b then notify_port s p (get s.ports p) else s) gone ps) = elim [
        | true ↦ λ h sd.
            let one = port_noted s (pending gone ps) gone p (get s.ports p) refl h
            (λ q c m i has. saved q c (omega arith) i has) sd in
            noted_then W G obeys task one.0
            (all_noted (notify_port s p (get s.ports p)) gone (p + 1) ps r.1 one.1 one.0.sound)
        | false ↦ λ h sd. all_noted s gone (p + 1) ps r.1
            (λ q c m i has. saved q c (omega arith) i has) sd
      ] in
      go (has_receive p gone) refl sound
