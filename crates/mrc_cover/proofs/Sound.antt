-- What is kept of a store while a call has rights in hand.
--
-- A call takes rights from one place and gives them to another: `send` takes what a message carries
-- from the sender's space and puts it on a queue, `insert_right` takes a right from the caller and
-- puts it under a name of another task. Between the taking and the giving the store alone is not
-- well formed: a receive right that was taken is in no entry and in no message. So the rights that
-- a call has taken and not yet given are listed beside the store, as its hand. What holds all the
-- time is SoundWith: the store is well formed and covered, where each receive right in the hand
-- counts as one more place. A call begins and ends with an empty hand; each of its steps says how
-- the hand changes: taking a right adds it to the hand, giving one removes it, and burying dead
-- ports adds the rights of their queues.
use Rattle.std.proofs.Common.{List, None, Option, Some, ap, arith, inl, inr, refl, subst, sym, ℕ}
use Rattle.std.proofs.Common.{◌++◌, ◌+◌, ◌<◌, ◌∙◌, ◌∷◌, ◌≡◌}
use Rattle.std.proofs.lemmas.Bool.{cases_eq, eq-eqb}
use Rattle.std.specs.Option.{unwrap_or}
use Rattle.mrc_base.specs.declared.Fact.TheVariants.{Backup as BackupFact}
use Rattle.mrc_base.specs.declared.PortRight.{PortRight}
use Rattle.mrc_base.specs.declared.PortRight.TheVariants.{Receive}
use Rattle.mrc_model.proofs.Maps.{get-insert_other, get-insert_same, same_Some, total-same}
use Rattle.mrc_model.proofs.Maps.{total-zero}
use Rattle.mrc_model.proofs.Spaces.{space-set_other, space-set_same}
use Rattle.mrc_model.specs.Covers.{CoversStore, HasOneName, IsBackup, Known, KnownAt, owed}
use Rattle.mrc_model.specs.Map.{empty, get, total}
use Rattle.mrc_model.specs.Rules.{FactSet}
use Rattle.mrc_model.specs.Wiring.{Wiring, classes, numbers_of}
use Rattle.mrc_model.specs.World.{Held, Port, Space, Store, class_of, entry_rights, places}
use Rattle.mrc_model.specs.World.{queue_rights, receives, set_port, set_space, space}
use Rattle.mrc_model.specs.World.{space_receives}
use Rattle.mrc_model.specs.declared.Entry.{Entry}
use Rattle.mrc_cover.proofs.Rights.{IsBackup-along, Known-along, MayCarry, MayHold, entry_receives}
use Rattle.mrc_cover.proofs.Rights.{queue_receives, receives-append, receives-unknown, right_on}
use Rattle.mrc_cover.proofs.Stores.{class_of-set_port, owed_at_most_one, places-set_port}
use Rattle.mrc_cover.proofs.Stores.{places-set_space}
use Rattle.mrc_cover.proofs.Stores.{space_at_most_places}

-- The store is sound while these rights are in hand. Its tasks have the classes that `task` tells.
-- For each live port the places of its receive right and those in the hand together are as many as
-- they have to be; numbers are below the next birth number, and classes are the wiring's; the facts
-- G say all of the store; and no port has two names in a space.
pub record SoundWith (W : Wiring) (G : FactSet) (task : ℕ
    → ℕ) (s : Store) (hand : List Held) : Type 0 where
  pub receive_once : (p c : ℕ) → class_of s p ≡ Some c
      → places p s + receives p hand ≡ owed (numbers_of W) c
  pub numbers : (p c : ℕ) → class_of s p ≡ Some c → (p < s.next) × (c < classes W)
  pub covers : CoversStore G task s
  pub one_name : (t : ℕ) → HasOneName (space s t)

-- From s to z only spaces of tasks in A change, and ports keep their classes.
pub record ChangesOnly (A : ℕ → Type 0) (s z : Store) : Type 0 where
  pub classes : (p : ℕ) → class_of z p ≡ class_of s p
  pub next : z.next ≡ s.next
  pub others : (t : ℕ) → (A t → ⊥) → space z t ≡ space s t

-- a store that does not change
pub changes_nothing : (A : ℕ → Type 0) (s : Store) → ChangesOnly A s s
changes_nothing A s = record { classes = λ p. refl; next = refl; others = λ t n. refl }

-- one change after the other
pub changes_then : {A : ℕ → Type 0} {r s z : Store} → ChangesOnly A r s → ChangesOnly A s z
    → ChangesOnly A r z
changes_then a b = record {
  classes = λ p. b.classes p ∙ a.classes p;
  next = b.next ∙ a.next;
  others = λ t n. b.others t n ∙ a.others t n;
}

-- a step from s leaves z: it is sound with the hand, and only spaces of tasks in A have changed
pub record Leaves (W : Wiring) (G : FactSet) (task : ℕ → ℕ) (A : ℕ
    → Type 0) (s : Store) (hand : List Held) (z : Store) : Type 0 where
  pub sound : SoundWith W G task z hand
  pub changes : ChangesOnly A s z

-- a change, and a step after it
pub leaves_then : {W : Wiring} {G : FactSet} {task : ℕ → ℕ} {A : ℕ
    → Type 0} {r s z : Store} {hand : List Held}
    → ChangesOnly A r s → Leaves W G task A s hand z → Leaves W G task A r hand z
leaves_then a l = record { sound = l.sound; changes = changes_then a l.changes }

-- a change of one space
pub set_space_changes : {A : ℕ → Type 0} (s : Store) (t : ℕ) (x : Space) → A t
    → ChangesOnly A s (set_space s t x)
set_space_changes {A} s t x mine = record {
  classes = λ p. refl;
  next = refl;
  others = λ u n. space-set_other s t u x (λ e. n (subst A (sym e) mine));
}

-- a change of one port that keeps its class
pub set_port_changes : {A : ℕ → Type 0} (s : Store) (p : ℕ) (x y : Port) → get s.ports p ≡ Some x
    → y.class ≡ x.class
    → ChangesOnly A s (set_port s p y)
set_port_changes s p x y is same =
    record { classes = class_of-set_port s p x y is same; next = refl; others = λ u n. refl }

module _ (W : Wiring) (G : FactSet) (task : ℕ → ℕ) where
  -- a task's space changes, with the hand
  pub set_space_sound : (s : Store) (hand hand' : List Held) (t : ℕ) (x : Space)
      → SoundWith W G task s hand
      → ((p c : ℕ) → class_of s p ≡ Some c
      → space_receives p x + receives p hand' ≡ space_receives p (space s t) + receives p hand)
      → ((n : ℕ) (e : Entry) → get x n ≡ Some e
      → Known (class_of s) (MayHold G (task t)) (entry_rights e))
      → HasOneName x → SoundWith W G task (set_space s t x) hand'
  set_space_sound s hand hand' t x sound count known one = record {
    receive_once = λ p c is.
        let a = sound.receive_once p c is in
        let b = count p c is in let d = places-set_space p s t x in omega arith;
    numbers = sound.numbers;
    covers = record {
      held = λ u n e is. elim (cases_eq u t) [
        | inl same ↦ subst (λ v. Known (class_of s) (MayHold G (task v)) (entry_rights e))
            (sym same)
            (known n e (ap (λ y. get y n)
            (sym (ap (space (set_space s t x)) same ∙ space-set_same s t x)) ∙ is))
        | inr apart ↦ sound.covers.held u n e
            (ap (λ y. get y n) (sym (space-set_other s t u x apart)) ∙ is)
      ];
      carried = sound.covers.carried;
      backups = sound.covers.backups;
    };
    one_name = λ u. elim (cases_eq u t) [
      | inl same ↦ subst HasOneName (sym (ap (space (set_space s t x)) same
          ∙ space-set_same s t x)) one
      | inr apart ↦ subst HasOneName (sym (space-set_other s t u x apart)) (sound.one_name u)
    ];
  }

  -- a port changes, with the hand
  pub set_port_sound : (s : Store) (hand hand' : List Held) (p : ℕ) (x y : Port)
      → SoundWith W G task s hand
      → get s.ports p ≡ Some x → y.class ≡ x.class
      → ((q : ℕ) → receives q (queue_rights y.queue) + receives q hand' ≡ receives q
      (queue_rights x.queue) + receives q hand)
      → Known (class_of s) (MayCarry G x.class) (queue_rights y.queue)
      → IsBackup (class_of s) (λ d. G (BackupFact x.class d)) y.backup
      → SoundWith W G task (set_port s p y) hand'
  set_port_sound s hand hand' p x y sound is same count known saved =
      let along = class_of-set_port s p x y is same in
      record {
        receive_once = λ q c has.
            let a = sound.receive_once q c (sym (along q) ∙ has) in
            let b = count q in let d = places-set_port q s p x y is in omega arith;
        numbers = λ q c has. sound.numbers q c (sym (along q) ∙ has);
        covers = record {
          held = λ t n e at. Known-along along (sound.covers.held t n e at);
          carried = λ q z at. elim (cases_eq q p) [
            | inl e ↦
                let z_is : y ≡ z = same_Some y z (sym (get-insert_same s.ports p y)
                ∙ ap (get (set_port s p y).ports) (sym e) ∙ at) in
                subst (λ (v : Port). Known (class_of (set_port s p y)) (MayCarry G v.class)
                (queue_rights v.queue)) z_is
                (Known-along along (subst
                (λ k. Known (class_of s) (MayCarry G k) (queue_rights y.queue))
                (sym same) known))
            | inr n ↦ Known-along along
                (sound.covers.carried q z (sym (get-insert_other s.ports p y q n) ∙ at))
          ];
          backups = λ q z at. elim (cases_eq q p) [
            | inl e ↦
                let z_is : y ≡ z = same_Some y z (sym (get-insert_same s.ports p y)
                ∙ ap (get (set_port s p y).ports) (sym e) ∙ at) in
                subst (λ (v : Port). IsBackup (class_of (set_port s p y))
                (λ d. G (BackupFact v.class d)) v.backup) z_is
                (IsBackup-along along (subst
                (λ k. IsBackup (class_of s) (λ d. G (BackupFact k d)) y.backup)
                (sym same) saved))
            | inr n ↦ IsBackup-along along
                (sound.covers.backups q z (sym (get-insert_other s.ports p y q n) ∙ at))
          ];
        };
        one_name = sound.one_name;
      }

-- the hand may be exchanged for one with the same receive rights
pub exchange_hand : {W : Wiring} {G : FactSet} {task : ℕ → ℕ} {s : Store} {hand hand' : List Held}
    → ((q : ℕ) → receives q hand' ≡ receives q hand) → SoundWith W G task s hand
    → SoundWith W G task s hand'
exchange_hand same sound = record {
  receive_once = λ p c is. let a = sound.receive_once p c is in let b = same p in omega arith;
  numbers = sound.numbers;
  covers = sound.covers;
  one_name = sound.one_name;
}

-- the order in which rights come to hand does not matter
pub regroup_hand : {W : Wiring} {G : FactSet} {task : ℕ → ℕ} {s : Store} (xs ys hand : List Held)
    → SoundWith W G task s ((xs ++ ys) ++ hand) → SoundWith W G task s (xs ++ (ys ++ hand))
regroup_hand xs ys hand sound = exchange_hand (λ q.
    let a = receives-append q (xs ++ ys) hand in
    let b = receives-append q xs ys in
    let c = receives-append q xs (ys ++ hand) in
    let d = receives-append q ys hand in
    omega arith) sound

-- the hand counts for live ports alone
pub exchange_hand_live : {W : Wiring} {G : FactSet} {task : ℕ
    → ℕ} {s : Store} {hand hand' : List Held}
    → ((q c : ℕ) → class_of s q ≡ Some c → receives q hand' ≡ receives q hand)
    → SoundWith W G task s hand
    → SoundWith W G task s hand'
exchange_hand_live same sound = record {
  receive_once = λ p c is. let a = sound.receive_once p c is in let b = same p c is in omega arith;
  numbers = sound.numbers;
  covers = sound.covers;
  one_name = sound.one_name;
}

module _ (W : Wiring) (G : FactSet) (task : ℕ → ℕ) where
  -- a receive right in hand is nowhere else
  pub receive_in_hand_is_alone : (s : Store) (hand : List Held) (t p : ℕ) (r : PortRight) (F : ℕ
      → PortRight → Type 0)
      → SoundWith W G task s (right_on p r ∷ hand) → KnownAt (class_of s) F (right_on p r)
      → r ≡ Receive
      → space_receives p (space s t) ≡ 0
  receive_in_hand_is_alone s hand t p r F sound known is =
      let a = sound.receive_once p known.0 known.1 in
      let b = owed_at_most_one W known.0 in
      let c = space_at_most_places p s t in
      let d : receives p (right_on p r ∷ hand) ≡ 1 + receives p hand = rw is
      (rw (eq-eqb p p refl)) in
      omega arith

  -- the receive right of a port that is not live is nowhere
  pub unknown_is_nowhere : (s : Store) (hand : List Held) (p : ℕ) → SoundWith W G task s hand
      → class_of s p ≡ None
      → places p s ≡ 0
  unfolding places space_receives
  unknown_is_nowhere s hand p sound none =
      let a = total-same (λ t x. total (entry_receives p) x) (λ t x. 0) s.spaces (λ t x is.
      total-same (entry_receives p) (λ n e. 0) x
      (λ n e at. receives-unknown (class_of s) (MayHold G (task t)) p (entry_rights e) none
      (sound.covers.held t n e (ap (λ o. get (unwrap_or o empty) n) is ∙ at)).all)
      ∙ total-zero x) in
      let b = total-same (queue_receives p) (λ q x. 0) s.ports (λ q x is.
      receives-unknown (class_of s) (MayCarry G x.class) p (queue_rights x.queue) none
      (sound.covers.carried q x is).all) in
      let c = total-zero s.spaces in
      let d = total-zero s.ports in
      omega arith

  -- no port has the next number
  pub next_is_free : (s : Store) (hand : List Held) → SoundWith W G task s hand
      → class_of s s.next ≡ None
  next_is_free s hand sound =
      let go : (o : Option ℕ) → class_of s s.next ≡ o → o ≡ None =
      elim [
        | None ↦ λ e. refl
        | Some c ↦ λ e. let n = (sound.numbers s.next c e).0 in absurd
            (omega arith)
      ] in
      go (class_of s s.next) refl
