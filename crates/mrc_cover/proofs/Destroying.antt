-- Rights that are destroyed, with what follows from it.
use Rattle.std.proofs.Common.{Bool, List, None, Some, [], ap, arith, false, if◌then◌else◌, inl, inr}
use Rattle.std.proofs.Common.{map, nat_le, nat_lt, refl, sym, true, ℕ, ◌&&◌, ◌++◌, ◌+◌, ◌<◌, ◌==◌}
use Rattle.std.proofs.Common.{◌||◌, ◌∙◌, ◌∷◌, ◌≡◌, ◌≤◌}
use Rattle.std.proofs.Math.Nat.{le_trans}
use Rattle.std.proofs.lemmas.Bool.{and_from, both_ways, cases_Bool, eq-eqb, le-leb, lt-ltb}
use Rattle.std.proofs.lemmas.Bool.{or_right}
use Rattle.std.specs.Option.{option_and_then, option_map}
use Rattle.mrc_model.proofs.Dying.{dying_closed, dying_why}
use Rattle.mrc_model.proofs.Maps.{find_cases, get-alter_all, len-alter_all, not_None}
use Rattle.mrc_model.proofs.Maps.{origin-alter_all}
use Rattle.mrc_model.specs.Covers.{IsManned, owed}
use Rattle.mrc_model.specs.Death.{Doomed, backup_of, bury, destroy, dies, dying, has, has_receive}
use Rattle.mrc_model.specs.Death.{is_kernel_of, is_lost, notify_once, perished_backup}
use Rattle.mrc_model.specs.Death.{perished_entry, perished_port, queued_rights}
use Rattle.mrc_model.specs.Map.{Map, alter_all, get, keys, len}
use Rattle.mrc_model.specs.Rising.{find_key}
use Rattle.mrc_model.specs.Rules.{FactSet}
use Rattle.mrc_model.specs.Target.{with_store}
use Rattle.mrc_model.specs.Wiring.{Wiring, kernel_class, numbers_of}
use Rattle.mrc_model.specs.World.{Held, Port, Store, World, class_of, receives, space, task_class}
use Rattle.mrc_model.specs.declared.Backup.{Backup}
use Rattle.mrc_model.specs.declared.Backup.TheVariants.{Port as BackupPort, Dead as DeadBackup}
use Rattle.mrc_model.specs.declared.Backup.TheVariants.{Absent as NoBackup}
use Rattle.mrc_model.specs.declared.Entry.{Entry}
use Rattle.mrc_cover.proofs.Burying.{bury_ports, bury_sound, class_of-bury, queued_at_most}
use Rattle.mrc_cover.proofs.Burying.{space-bury, stays}
use Rattle.mrc_cover.proofs.Kept.{IsAlive, Kept}
use Rattle.mrc_cover.proofs.Noticing.{AreSaved, all_noted, onces_noted}
use Rattle.mrc_cover.proofs.Obeyed.{Obeys, obeys}
use Rattle.mrc_cover.proofs.Pending.{IsRisingFrom, has_is_counted, keys_rise, not_counted, pending}
use Rattle.mrc_cover.proofs.Pending.{pending_count}
use Rattle.mrc_cover.proofs.Pruning.{perish, port_stays}
use Rattle.mrc_cover.proofs.Rights.{receives-append}
use Rattle.mrc_cover.proofs.Sound.{ChangesOnly, SoundWith, exchange_hand_live}
use Rattle.mrc_cover.proofs.Stores.{is_kernel_class, owed_at_most_one, port_of_class}

-- where a live port stands among the keys
keys_have : (q : ℕ) (es : List (ℕ × Port)) (x : Port) → find_key q es ≡ Some x
    → has (map (λ e. e.0) es) q ≡ true
keys_have q [] x is = absurd (not_None x (sym is))
keys_have q (e ∷ es) x is = elim (find_cases e es q x is) [
  | inl h ↦ ap (λ b. b || has (map (λ e. e.0) es) q) (eq-eqb e.0 q (sym h.0))
  | inr h ↦ or_right (e.0 == q) (has (map (λ e. e.0) es) q) (keys_have q es x h)
]

-- a live port is one of the keys
pub live_key : (s : Store) (q : ℕ) (x : Port) → get s.ports q ≡ Some x → has (keys s.ports) q ≡ true
unfolding get keys
live_key s q x is = keys_have q s.ports.list x is

-- each destroyed receive right of a live port is pending once
keys_pending : (s : Store) (q : ℕ) (x : Port) (gone : List Held) → get s.ports q ≡ Some x
    → receives q (pending gone (keys s.ports)) ≡ (if has_receive q gone then 1 else 0)
unfolding get keys
keys_pending s q x gone is = pending_count q 0 gone s.ports.list x s.ports.rising is

-- the keys of a map rise
keys_rising : (s : Store) → IsRisingFrom 0 (keys s.ports)
unfolding keys
keys_rising s = keys_rise 0 s.ports.list s.ports.rising

-- a port that does not die has a request that names one that stays
not_lost : (dead : List ℕ) (b : Backup) → is_lost dead b ≡ false
    → (q : ℕ) × (b ≡ BackupPort q) × (has dead q ≡ false)
not_lost dead NoBackup e = cc
not_lost dead DeadBackup e = cc
not_lost dead (BackupPort q) e = (q, refl, e)

-- a number that is at most 1 is told by whether it is 0
at_most_one : (n : ℕ) (b : Bool) → n ≤ 1 → (b ≡ true → 1 ≤ n) → (b ≡ false → n ≡ 0)
    → (if b then 1 else 0) ≡ n
at_most_one n true m a z = let h = a refl in omega arith
at_most_one n false m a z = sym (z refl)

-- what is left after rights are destroyed
pub record IsDestroyed (W : Wiring) (G : FactSet) (task : ℕ
    → ℕ) (s : Store) (d : Doomed) (z : Store) : Type 0 where
  pub sound : SoundWith W G task z []
  pub classes : (p : ℕ) → class_of z p ≡ (if has (dying s d) p then None else class_of s p)
  pub next : z.next ≡ s.next
  pub spaces : (t : ℕ) → space z t ≡ alter_all (perish (dying s d)) (space s t)

-- the next birth number stays
bury_next : (s : Store) (dead : List ℕ) → (bury s dead).next ≡ s.next
unfolding bury
bury_next s dead = refl

module _ (W : Wiring) (G : FactSet) (obeys : Obeys W G) (task : ℕ → ℕ) (s : Store) (d : Doomed)
    (sound : SoundWith W G task s d.rights) where
  -- each destroyed receive right of a port that stays has a request to go to, since the dying set
  -- is closed
  saved : AreSaved (bury s (dying s d)) (d.rights ++ queued_rights s (dying s d)) 0
  saved q c low h live =
      let (stay, was) = stays s (dying s d) q c live in
      let (y, at) = port_of_class (bury s (dying s d)) q c live in
      let (x, old, made) = origin-alter_all (perished_port (dying s d)) s.ports q y
      (bury_ports s (dying s d) q y at) in
      let lost : is_lost (dying s d) x.backup ≡ false = elim
      (cases_Bool (is_lost (dying s d) x.backup)) [
        | inl l ↦ absurd (both_ways (has (dying s d) q) stay
            (dying_closed s d q (live_key s q x old) (dies_of q x old h l)))
        | inr l ↦ l
      ] in
      let (b, is, alive) = not_lost (dying s d) x.backup lost in (
        b,
        ap (option_map (λ (x : Port). x.backup)) at
            ∙ ap (λ (v : Port). Some v.backup) (sym (port_stays (dying s d) q x y made))
            ∙ ap (λ v. Some (perished_backup (dying s d) v)) is
            ∙ ap (λ (v : Bool). Some (if v then DeadBackup else BackupPort b)) alive,
      )
    where
      dies_of : (q : ℕ) (x : Port) → get s.ports q ≡ Some x
          → has_receive q (d.rights ++ queued_rights s (dying s d)) ≡ true
          → is_lost (dying s d) x.backup ≡ true
          → dies s d (dying s d) q ≡ true
      dies_of q x old h l =
          let at : is_lost (dying s d) (backup_of (get s.ports q)) ≡ true = ap
          (λ o. is_lost (dying s d) (backup_of o)) old ∙ l in
          let gone = has_receive q (d.rights ++ queued_rights s (dying s d)) in
          let unsaved = is_lost (dying s d) (backup_of (get s.ports q)) in
          or_right (is_kernel_of d.kernel q) (gone && unsaved) (and_from gone unsaved h at)

  -- destruction leaves a sound store with nothing in hand (K9)
  pub destroy_leaves : IsDestroyed W G task s d (destroy s d)
  unfolding destroy
  destroy_leaves =
      let dead = dying s d in
      let gone = d.rights ++ queued_rights s dead in
      let after = bury s dead in
      let a = bury_sound W G task s d.rights dead sound in
      let b = onces_noted W G obeys task after gone gone a in
      let same : (q c : ℕ) → class_of (notify_once after gone) q ≡ Some c
      → receives q (pending gone (keys after.ports))
      ≡ receives q gone = λ q c is.
      let live : class_of after q ≡ Some c = sym (b.0.classes q) ∙ is in
      let (x, at) = port_of_class after q c live in
      let once = a.receive_once q c live in
      let most = owed_at_most_one W c in
      keys_pending after q x gone at
      ∙ at_most_one (receives q gone) (has_receive q gone) (omega arith) (has_is_counted q gone)
      (not_counted q gone) in
      let kept : AreSaved
      (notify_once after gone) gone 0 = λ q c low h live. let v = saved q c low h
      (sym (b.0.classes q) ∙ live) in
      (v.0, b.1 q ∙ v.1) in
      let e = all_noted W G obeys task (notify_once after gone) gone 0 (keys after.ports)
      (keys_rising after) kept
      (exchange_hand_live same b.0.sound) in
      record {
        sound = e.sound;
        classes = λ p. e.classes p ∙ b.0.classes p ∙ class_of-bury s dead p;
        next = e.next ∙ b.0.next ∙ bury_next s dead;
        spaces = λ t. e.spaces t ∙ b.0.spaces t ∙ space-bury s dead t;
      }

  -- a kernel port dies with its task alone
  pub kernel_lives : (p c : ℕ) → class_of s p ≡ Some c → is_kernel_class W c ≡ true
      → is_kernel_of d.kernel p ≡ false
      → has (dying s d) p ≡ false
  kernel_lives p c is kernel spared = elim (cases_Bool (has (dying s d) p)) [
    | inr h ↦ h
    | inl h ↦ elim (dying_why s d p h) [
      | inl k ↦ absurd (both_ways (is_kernel_of d.kernel p) spared k)
      | inr r ↦
          let once = sound.receive_once p c is in
          let none : owed (numbers_of W) c ≡ 0 = ap (λ (b : Bool). if b then 0 else 1) kernel in
          let queued = queued_at_most s r.0 p in
          let some = has_is_counted p (d.rights ++ queued_rights s r.0) r.1 in
          let both = receives-append p d.rights (queued_rights s r.0) in
          absurd (omega arith)
    ]
  ]

-- the class of a task's kernel port is a kernel port's
pub kernel_is_kernel : (W : Wiring) (u : ℕ) → u < W.tasks
    → is_kernel_class W (kernel_class W u) ≡ true
kernel_is_kernel W u h =
    and_from (nat_le W.ports (W.ports + u)) (nat_lt (W.ports + u) (W.ports + W.tasks))
    (le-leb W.ports (W.ports + u) (omega arith))
    (lt-ltb (W.ports + u) (W.ports + W.tasks) (omega arith))

-- an empty space stays empty
pub space-none : (dead : List ℕ) (x : Map Entry) (n : ℕ) → get x n ≡ None
    → get (alter_all (perish dead) x) n ≡ None
space-none dead x n e =
    get-alter_all (perish dead) x n
    ∙ ap (λ o. option_and_then (λ (e : Entry). perished_entry dead e) o) e

module _ (W : Wiring) (G : FactSet) where
  -- no task ends
  pub destruction_keeps : Obeys W G → (w : World) (s : Store) (gone : List Held) → Kept W G w
      → SoundWith W G (task_class w) s gone → ChangesOnly (IsAlive w) w.store s
      → ((t : ℕ) → len (space s t) ≤ 4096)
      → IsManned (numbers_of W) (with_store w s)
      → Kept W G (with_store w (destroy s record { rights = gone; kernel = None }))
  destruction_keeps obeys w s gone kept sound changes few m =
      let d : Doomed = record { rights = gone; kernel = None } in
      let done = destroy_leaves W G obeys (task_class w) s d sound in
      record {
        sound = done.sound;
        few =
            λ t. rw (done.spaces t)
            (le_trans (len-alter_all (perish (dying s d)) (space s t)) (few t));
        tasks = record {
          class = m.class;
          below = λ t x e. rw done.next (m.below t x e);
          kernel = λ t x e alive.
              let class = m.kernel t x e alive in
              let lives = kernel_lives W G obeys (task_class w) s d sound x.kernel
              (W.ports + x.class) class
              (kernel_is_kernel W x.class (m.class t x e)) refl in
              done.classes x.kernel
              ∙ ap (λ (b : Bool). if b then None else class_of s x.kernel) lives ∙ class;
          own = m.own;
          only = λ p c is k. m.only p c (was s (dying s d) p c (sym (done.classes p) ∙ is)) k;
          gone =
              λ t n e. ap (λ x. get x n) (done.spaces t)
              ∙ space-none (dying s d) (space s t) n (m.gone t n e);
        };
        kernels = kept.kernels;
      }
    where
      was : (s : Store) (dead : List ℕ) (p c : ℕ)
          → (if has dead p then None else class_of s p) ≡ Some c
          → class_of s p ≡ Some c
      was s dead p c e =
          let go : (b : Bool) → (if b then None else class_of s p) ≡ Some c
          → class_of s p ≡ Some c =
          elim [ true ↦ λ z. absurd (not_None c (sym z)) | false ↦ λ z. z ] in
          go (has dead p) e
