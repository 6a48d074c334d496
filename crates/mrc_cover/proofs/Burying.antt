-- What dead ports leave of a store is as sound, with the rights of their queues in hand.
use Rattle.std.proofs.Common.{Bool, List, None, Option, Some, [], ap, arith, false, if◌then◌else◌}
use Rattle.std.proofs.Common.{map, refl, subst, sym, true, ℕ, ◌++◌, ◌+◌, ◌∙◌, ◌∷◌, ◌≡◌, ◌≤◌}
use Rattle.std.specs.Option.{option_and_then, option_map, unwrap_or}
use Rattle.mrc_base.specs.declared.Fact.TheVariants.{Backup as BackupFact}
use Rattle.mrc_model.proofs.Maps.{at_or_0, get-alter_all, not_None, origin-alter_all}
use Rattle.mrc_model.proofs.Maps.{total-alter_all, total-plus, total-same}
use Rattle.mrc_model.specs.Covers.{HasOneName, IsBackup, Known}
use Rattle.mrc_model.specs.Death.{bury, has, perished_backup, perished_entry, perished_parcel}
use Rattle.mrc_model.specs.Death.{perished_port, queued_on, queued_rights}
use Rattle.mrc_model.specs.Map.{alter_all, empty, get, sum_list, total}
use Rattle.mrc_model.specs.Rules.{FactSet}
use Rattle.mrc_model.specs.Wiring.{Wiring}
use Rattle.mrc_model.specs.World.{Held, Port, Space, Store, class_of, entry_rights, places}
use Rattle.mrc_model.specs.World.{queue_rights, receives, space, space_receives}
use Rattle.mrc_cover.proofs.Altering.{at_opt}
use Rattle.mrc_cover.proofs.Entries.{rights_left}
use Rattle.mrc_cover.proofs.Pruning.{backup_stays, known-prune, perish, perish_space, perished_name}
use Rattle.mrc_cover.proofs.Pruning.{port_stays, prune, receives-prune, rights-perished_entry}
use Rattle.mrc_cover.proofs.Pruning.{rights-perished_queue}
use Rattle.mrc_cover.proofs.Rights.{MayCarry, MayHold, each_receives, entry_receives}
use Rattle.mrc_cover.proofs.Rights.{queue_receives, receives-append}
use Rattle.mrc_cover.proofs.Sound.{SoundWith}
use Rattle.mrc_cover.proofs.Taking.{one_name_if_traced}

module _ (s : Store) (dead : List ℕ) where
  -- the classes of ports after the burial
  pub class_of-bury : (p : ℕ)
      → class_of (bury s dead) p ≡ (if has dead p then None else class_of s p)
  unfolding bury
  class_of-bury p =
      ap (option_map (λ (x : Port). x.class)) (get-alter_all (perished_port dead) s.ports p)
      ∙ cases (get s.ports p)
    where
      at : (b : Bool) (x : Port)
          → option_map (λ (x : Port). x.class)
          (if b then None else Some (record x {
            queue = map (perished_parcel dead) x.queue;
            backup = perished_backup dead x.backup;
          })) ≡ (if b then None else Some x.class)
      at true x = refl
      at false x = refl

      none : (b : Bool) → ◌≡◌ {A = Option ℕ} None (if b then None else None)
      none true = refl
      none false = refl

      cases : (o : Option Port)
          → option_map (λ (x : Port). x.class)
          (option_and_then (perished_port dead p) o) ≡
          (if has dead p then None else option_map (λ (x : Port). x.class) o)
      cases None = none (has dead p)
      cases (Some x) = at (has dead p) x

  -- a port that stays keeps its class
  pub class_of-stays : (p : ℕ) → has dead p ≡ false → class_of (bury s dead) p ≡ class_of s p
  class_of-stays p h = class_of-bury p ∙ (rw h)

  -- a live port stayed
  pub stays : (p c : ℕ) → class_of (bury s dead) p ≡ Some c
      → (has dead p ≡ false) × (class_of s p ≡ Some c)
  stays p c e =
      let go : (b : Bool) → has dead p ≡ b → (if b then None else class_of s p) ≡ Some c
      → (has dead p ≡ false) × (class_of s p ≡ Some c) = elim [
        | true ↦ λ h z. absurd (not_None c (sym z))
        | false ↦ λ h z. (h, z)
      ] in
      go (has dead p) refl (sym (class_of-bury p) ∙ e)

  -- the spaces after the burial
  pub space-bury : (t : ℕ) → space (bury s dead) t ≡ alter_all (perish dead) (space s t)
  unfolding bury alter_all empty
  space-bury t =
      ap (λ o. unwrap_or o empty) (get-alter_all (perish_space dead) s.spaces t)
      ∙ cases (get s.spaces t)
    where
      cases : (o : Option Space)
          → unwrap_or (option_and_then (λ (x : Space). Some (alter_all (perish dead) x)) o) empty
          ≡ alter_all (perish dead) (unwrap_or o empty)
      cases None = refl
      cases (Some x) = refl

-- a space keeps the receive rights of ports that stay
space_receives-perished : (dead : List ℕ) (p : ℕ) (x : Space) → has dead p ≡ false
    → space_receives p (alter_all (perish dead) x) ≡ space_receives p x
unfolding space_receives
space_receives-perished dead p x h =
    total-alter_all (entry_receives p) (perish dead) x
    ∙ total-same _ (entry_receives p) x
    (λ k e is. at_opt p k (perished_entry dead e)
    ∙ ap (receives p) (rights-perished_entry dead e)
    ∙ receives-prune dead p (entry_rights e) h)

-- what stands on dead queues
on_dead : List ℕ → ℕ → ℕ → Port → ℕ
on_dead dead p q x = if has dead q then receives p (queue_rights x.queue) else 0

-- what stands on the queues of ports that stay
on_live : List ℕ → ℕ → ℕ → Port → ℕ
on_live dead p q x = if has dead q then 0 else receives p (queue_rights x.queue)

-- the rights of dead queues, counted
receives-queued_on : (dead : List ℕ) (p : ℕ) (es : List (ℕ × Port))
    → receives p (queued_on dead es) ≡ sum_list (on_dead dead p) es
unfolding on_dead
receives-queued_on dead p [] = refl
receives-queued_on dead p (e ∷ es) =
    let rest = receives-queued_on dead p es in
    elim (has dead e.0) as (λ b. receives p ((if b then queue_rights e.1.queue else [])
    ++ queued_on dead es)
    ≡ (if b then receives p (queue_rights e.1.queue) else 0) + sum_list (on_dead dead p) es) [
      | true ↦ let a = receives-append p (queue_rights e.1.queue) (queued_on dead es) in omega arith
      | false ↦ omega arith
    ]

-- the same for a store
receives-queued : (s : Store) (dead : List ℕ) (p : ℕ)
    → receives p (queued_rights s dead) ≡ total (on_dead dead p) s.ports
unfolding total
receives-queued s dead p = receives-queued_on dead p s.ports.list

-- each queue is live or dead
live_plus_dead : (dead : List ℕ) (p q : ℕ) (x : Port)
    → on_live dead p q x + on_dead dead p q x ≡ receives p (queue_rights x.queue)
unfolding on_live on_dead
live_plus_dead dead p q x = elim (has dead q) as (λ b. (if b then 0 else receives p
    (queue_rights x.queue)) + (if b then receives p (queue_rights x.queue) else 0) ≡ receives p
    (queue_rights x.queue)) [
      | true ↦ omega arith
      | false ↦ omega arith
    ]

-- what a port that stays keeps
at_perished_port : (dead : List ℕ) (p q : ℕ) (x : Port) → has dead p ≡ false
    → at_or_0 (queue_receives p) q (perished_port dead q x) ≡ on_live dead p q x
unfolding on_live
at_perished_port dead p q x h =
    let kept : receives p (queue_rights (map (perished_parcel dead) x.queue)) ≡ receives p
    (queue_rights x.queue) =
    ap (receives p) (rights-perished_queue dead x.queue)
    ∙ receives-prune dead p (queue_rights x.queue) h in
    elim (has dead q) as (λ b. at_or_0 (queue_receives p) q (if b then None else Some (record x {
      queue = map (perished_parcel dead) x.queue;
      backup = perished_backup dead x.backup;
    })) ≡ (if b then 0 else receives p (queue_rights x.queue))) [
      | true ↦ refl
      | false ↦ kept
    ]

-- a receive right is in a place that stays, or was on a dead queue
pub places-bury : (s : Store) (dead : List ℕ) (p : ℕ) → has dead p ≡ false
    → places p (bury s dead) + receives p (queued_rights s dead) ≡ places p s
unfolding places bury
places-bury s dead p h =
    let spaces : total (each_receives p) (alter_all (perish_space dead) s.spaces) ≡ total
    (each_receives p) s.spaces =
    total-alter_all (each_receives p) (perish_space dead) s.spaces
    ∙ total-same _ (each_receives p) s.spaces (λ t x is. space_receives-perished dead p x h) in
    let ports : total (queue_receives p) (alter_all (perished_port dead) s.ports) ≡ total
    (on_live dead p) s.ports =
    total-alter_all (queue_receives p) (perished_port dead) s.ports
    ∙ total-same _ (on_live dead p) s.ports (λ q x is. at_perished_port dead p q x h) in
    let split : total (on_live dead p) s.ports + total (on_dead dead p) s.ports ≡ total
    (queue_receives p) s.ports =
    sym (total-plus (on_live dead p) (on_dead dead p) s.ports)
    ∙ total-same _ (queue_receives p) s.ports (λ q x is. live_plus_dead dead p q x) in
    let queued = receives-queued s dead p in
    omega arith

-- what was on dead queues was somewhere
pub queued_at_most : (s : Store) (dead : List ℕ) (p : ℕ)
    → receives p (queued_rights s dead) ≤ places p s
unfolding places
queued_at_most s dead p =
    let split : total (on_live dead p) s.ports + total (on_dead dead p) s.ports ≡ total
    (queue_receives p) s.ports =
    sym (total-plus (on_live dead p) (on_dead dead p) s.ports)
    ∙ total-same _ (queue_receives p) s.ports (λ q x is. live_plus_dead dead p q x) in
    let queued = receives-queued s dead p in
    omega arith

-- the ports after the burial
pub bury_ports : (s : Store) (dead : List ℕ) (q : ℕ) (y : Port) → get (bury s dead).ports q ≡ Some y
    → get (alter_all (perished_port dead) s.ports) q ≡ Some y
unfolding bury
bury_ports s dead q y e = e

module _ (W : Wiring) (G : FactSet) (task : ℕ → ℕ) where
  -- the store is as sound, with the rights of dead queues in hand
  pub bury_sound : (s : Store) (hand : List Held) (dead : List ℕ) → SoundWith W G task s hand
      → SoundWith W G task (bury s dead) (hand ++ queued_rights s dead)
  unfolding bury
  bury_sound s hand dead sound = record {
    receive_once = λ p c is.
        let (live, was) = stays s dead p c is in
        let a = sound.receive_once p c was in
        let b = places-bury s dead p live in
        let d = receives-append p hand (queued_rights s dead) in omega arith;
    numbers = λ p c is. sound.numbers p c (stays s dead p c is).1;
    covers = record {
      held = λ t n f is.
          let (e, at, made) = origin-alter_all (perish dead) (space s t) n f
          (ap (λ x. get x n) (sym (space-bury s dead t)) ∙ is) in
          let rights : entry_rights f ≡ prune dead (entry_rights e) = ap rights_left (sym made)
          ∙ rights-perished_entry dead e in
          subst (Known (class_of (bury s dead)) (MayHold G (task t))) (sym rights)
          record {
            all =
                known-prune (class_of s) (class_of (bury s dead)) (MayHold G (task t)) dead
                (entry_rights e)
                (class_of-stays s dead) (sound.covers.held t n e at).all;
          };
      carried = λ q y is.
          let (x, at, made) = origin-alter_all (perished_port dead) s.ports q y (opened q y is) in
          let same = port_stays dead q x y made in
          subst (λ (v : Port). Known (class_of (bury s dead)) (MayCarry G v.class)
          (queue_rights v.queue)) same
          (subst (Known (class_of (bury s dead)) (MayCarry G x.class))
          (sym (rights-perished_queue dead x.queue))
          record {
            all =
                known-prune (class_of s) (class_of (bury s dead)) (MayCarry G x.class) dead
                (queue_rights x.queue)
                (class_of-stays s dead) (sound.covers.carried q x at).all;
          });
      backups = λ p y is.
          let (x, at, made) = origin-alter_all (perished_port dead) s.ports p y (opened p y is) in
          let same = port_stays dead p x y made in
          subst (λ (v : Port). IsBackup (class_of (bury s dead))
          (λ d. G (BackupFact v.class d)) v.backup) same
          record {
            live = λ q e.
                let (was, live) = backup_stays dead x.backup q e in
                let h = (sound.covers.backups p x at).live q was in
                (h.0, class_of-stays s dead q live ∙ h.1, h.2);
          };
    };
    one_name = λ t. subst HasOneName (sym (space-bury s dead t))
        (one_name_if_traced (space s t) (alter_all (perish dead) (space s t)) (sound.one_name t)
        (λ m f p is here.
        let (e, at, made) = origin-alter_all (perish dead) (space s t) m f is in
        (e, at, perished_name dead e f made p here)));
  }
    where
      opened : (q : ℕ) (y : Port) → get (bury s dead).ports q ≡ Some y
          → get (alter_all (perished_port dead) s.ports) q ≡ Some y
      opened q y e = bury_ports s dead q y e
