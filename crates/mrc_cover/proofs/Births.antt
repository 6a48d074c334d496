-- A port that is born: the task whose space it is born in gets its receive right.
use Rattle.std.proofs.Common.{None, Option, Some, [], ap, arith, false, inl, inr, refl, subst, sym}
use Rattle.std.proofs.Common.{true, ℕ, ◌+◌, ◌<◌, ◌∙◌, ◌∷◌, ◌≡◌, ◌≤◌, ◌⊎◌}
use Rattle.std.proofs.lemmas.Bool.{both_ways, cases_eq, eq-eqb, eqb-true}
use Rattle.std.specs.Option.{option_map, unwrap_or}
use Rattle.mrc_base.specs.declared.Fact.TheVariants.{Backup as BackupFact, Carry, Hold}
use Rattle.mrc_base.specs.declared.PortRight.{PortRight}
use Rattle.mrc_base.specs.declared.PortRight.TheVariants.{Receive}
use Rattle.mrc_model.proofs.Maps.{at_or_0, get-insert_other, get-insert_same, not_None}
use Rattle.mrc_model.proofs.Maps.{origin-insert, same_Some, total-insert}
use Rattle.mrc_model.proofs.Spaces.{get-unused}
use Rattle.mrc_model.specs.CallAllocate.{birth, new_port}
use Rattle.mrc_model.specs.Covers.{HasOneName, IsBackup, Known, owed}
use Rattle.mrc_model.specs.Map.{empty, get, insert, len}
use Rattle.mrc_model.specs.Rules.{FactSet}
use Rattle.mrc_model.specs.Space.{is_entry_of, unused}
use Rattle.mrc_model.specs.Target.{is_alive, with_store}
use Rattle.mrc_model.specs.Wiring.{Wiring, classes, numbers_of}
use Rattle.mrc_model.specs.World.{Port, Space, Store, World, class_of, entry_rights, places}
use Rattle.mrc_model.specs.World.{queue_rights, receives, space, task_class}
use Rattle.mrc_model.specs.declared.Entry.{Entry}
use Rattle.mrc_model.specs.declared.Entry.TheVariants.{DeadName as DeadEntry, SendOnce as OnceEntry}
use Rattle.mrc_model.specs.declared.Entry.TheVariants.{Receive as ReceiveEntry, Send as SendEntry}
use Rattle.mrc_model.specs.declared.Entry.TheVariants.{PortSet as SetEntry}
use Rattle.mrc_cover.proofs.Gaining.{HasGained, insert_new_gains}
use Rattle.mrc_cover.proofs.Kept.{IsAlive, Kept}
use Rattle.mrc_cover.proofs.Rights.{Known-grow, MayCarry, MayHold, each_receives, queue_receives}
use Rattle.mrc_cover.proofs.Rights.{right_on, unknown_right}
use Rattle.mrc_cover.proofs.Sound.{SoundWith, next_is_free, unknown_is_nowhere}
use Rattle.mrc_cover.proofs.Stores.{at_space, is_kernel_class, unborn}

-- a port new_receive shows a right on its port
shows_a_right : (k : ℕ → Option ℕ) (F : ℕ → PortRight → Type 0) (p : ℕ) (e : Entry)
    → is_entry_of p e ≡ true
    → Known k F (entry_rights e) → k p ≡ None → ⊥
shows_a_right k F p (ReceiveEntry q n i) is known none =
    let h = known.all.0 in
    not_None h.0 (sym h.1 ∙ ap k (eqb-true q p is) ∙ none)
shows_a_right k F p (SendEntry q n) is known none =
    let h = known.all.0 in not_None h.0 (sym h.1 ∙ ap k (eqb-true q p is) ∙ none)
shows_a_right k F p (OnceEntry q) is known none = both_ways false refl is
shows_a_right k F p SetEntry is known none = both_ways false refl is
shows_a_right k F p (DeadEntry n) is known none = both_ways false refl is

module _ (W : Wiring) (G : FactSet) (task : ℕ
    → ℕ) (s : Store) (t c : ℕ) (sound : SoundWith W G task s [])
    (range : c < classes W) (owes : owed (numbers_of W) c
    ≡ 1) (fact : G (Hold (task t) c Receive)) where
  -- the space of the task, before
  own_before : Space
  own_before = space s t

  -- no port has the next number
  fresh : class_of s s.next ≡ None
  fresh = next_is_free W G task s [] sound

  -- the store after the birth
  after : Store
  after = birth s t c

  -- the new port has its class
  born_here : class_of after s.next ≡ Some c
  unfolding after
  born_here = ap (option_map (λ (x : Port). x.class)) (get-insert_same s.ports s.next (new_port c))

  -- the others keep theirs
  born_other : (p : ℕ) → (p ≡ s.next → ⊥) → class_of after p ≡ class_of s p
  unfolding after
  born_other p n =
      ap (option_map (λ (x : Port). x.class)) (get-insert_other s.ports s.next (new_port c) p n)

  -- no live port has the next number
  not_next : (p d : ℕ) → class_of s p ≡ Some d → p ≡ s.next → ⊥
  not_next p d e same = not_None d (sym e ∙ ap (class_of s) same ∙ fresh)

  -- live ports stay live, with their classes
  grows : (p d : ℕ) → class_of s p ≡ Some d → class_of after p ≡ Some d
  grows p d e = born_other p (not_next p d e) ∙ e

  -- the new new_receive
  new_receive : Entry
  new_receive = ReceiveEntry s.next 0 None

  -- the space gains the receive right
  gained : HasGained (class_of after) (MayHold G (task t)) own_before
      (insert own_before (unused own_before) new_receive) s.next Receive
  unfolding own_before new_receive after
  gained =
      insert_new_gains (class_of after) (MayHold G (task t)) own_before
      (unused own_before) s.next Receive (get-unused own_before)
      (λ _ m e at here. shows_a_right (class_of s) (MayHold G (task t)) s.next e here
      (sound.covers.held t m e at) fresh)

  -- the next number is unused among the ports
  ports_empty : get s.ports s.next ≡ None
  ports_empty = unborn s s.next fresh

  -- the space of the task, after
  own_after : Space
  own_after = insert own_before (unused own_before) new_receive

  -- the task has that space
  space_born : space after t ≡ own_after
  unfolding after own_after own_before new_receive
  space_born =
      ap (λ o. unwrap_or o empty)
      (get-insert_same s.spaces t (insert own_before (unused own_before) new_receive))

  -- the other spaces stay
  space_other : (u : ℕ) → (u ≡ t → ⊥) → space after u ≡ space s u
  unfolding after
  space_other u n = ap (λ o. unwrap_or o empty)
      (get-insert_other s.spaces t
      (insert (space s t) (unused (space s t)) (ReceiveEntry s.next 0 None)) u n)

  -- the only new place is that of the new receive right
  places_born : (p : ℕ) → places p after ≡ places p s + receives p (right_on s.next Receive ∷ [])
  unfolding places after own_after own_before new_receive
  places_born p =
      let a = total-insert (each_receives p) s.spaces t own_after in
      let b = at_space p t (get s.spaces t) in
      let g = gained.count p in
      let d = total-insert (queue_receives p) s.ports s.next (new_port c) in
      let f = ap (at_or_0 (queue_receives p) s.next) ports_empty in
      omega arith

  -- which is no other port's
  receives_born : (p : ℕ) → (p ≡ s.next → ⊥) → receives p (right_on s.next Receive ∷ []) ≡ 0
  receives_born p n = unknown_right p s.next Receive (λ e. n (sym e))

  -- the store is as sound after the birth
  pub birth_sound : SoundWith W G task (birth s t c) []
  unfolding after own_before own_after
  birth_sound = record {
    receive_once = λ p d is. elim (cases_eq p s.next) [
      | inl e ↦
          let a = places_born p in
          let b = unknown_is_nowhere W G task s [] s.next sound fresh in
          let same : d ≡ c = same_Some d c (sym is ∙ ap (class_of after) e ∙ born_here) in
          let one : receives p (right_on s.next Receive ∷ []) ≡ 1 = rw e
          (rw (eq-eqb s.next s.next refl)) in
          let o : owed (numbers_of W) d ≡ 1 = rw same owes in
          let f : places p s ≡ 0 = rw e b in
          omega arith
      | inr n ↦
          let a = places_born p in
          let b = receives_born p n in
          let o = sound.receive_once p d (sym (born_other p n) ∙ is) in
          omega arith
    ];
    numbers = λ p d is. elim (cases_eq p s.next) [
      | inl e ↦ let same : d ≡ c = same_Some d c (sym is ∙ ap (class_of after) e
          ∙ born_here) in (omega arith, omega arith)
      | inr n ↦ let o = sound.numbers p d (sym (born_other p n) ∙ is) in (omega arith, o.1)
    ];
    covers = record {
      held = λ u n e at. elim (cases_eq u t) [
        | inl same ↦ subst (λ v. Known (class_of after) (MayHold G (task v)) (entry_rights e))
            (sym same)
            (gained.known (λ m f is. Known-grow grows (sound.covers.held t m f is))
            (c, born_here, fact) n e
            (ap (λ v. get v n) (sym (ap (space after) same ∙ space_born)) ∙ at))
        | inr apart ↦ Known-grow grows
            (sound.covers.held u n e (ap (λ v. get v n) (sym (space_other u apart)) ∙ at))
      ];
      carried = λ q x at. elim (origin-insert s.ports s.next (new_port c) q x at) [
        | inl h ↦ subst (λ (v : Port). Known (class_of (birth s t c)) (MayCarry G v.class)
            (queue_rights v.queue)) h.1 no_rights
        | inr h ↦ Known-grow grows (sound.covers.carried q x h.1)
      ];
      backups = λ q x at. elim (origin-insert s.ports s.next (new_port c) q x at) [
        | inl h ↦ subst (λ (v : Port). IsBackup (class_of (birth s t c))
            (λ d. G (BackupFact v.class d)) v.backup) h.1 no_backup
        | inr h ↦ record {
          live = λ b is. let r = (sound.covers.backups q x h.1).live b is in
              (r.0, grows b r.0 r.1, r.2);
        }
      ];
    };
    one_name = λ u. elim (cases_eq u t) [
      | inl same ↦ subst HasOneName (sym (ap (space after) same
          ∙ space_born)) (gained.one_name (sound.one_name t))
      | inr apart ↦ subst HasOneName (sym (space_other u apart)) (sound.one_name u)
    ];
  }
    where
      no_rights : Known (class_of (birth s t c)) (λ d r. G (Carry (new_port c).class d r))
          (queue_rights (new_port c).queue)
      no_rights = record { all = tt }

      no_backup : IsBackup (class_of (birth s t c)) (λ d. G (BackupFact (new_port c).class d))
          (new_port c).backup
      no_backup = record { live = λ q e. cc }

  -- live ports stay live, with their classes
  pub birth_grows : (p d : ℕ) → class_of s p ≡ Some d → class_of (birth s t c) p ≡ Some d
  unfolding after
  birth_grows p d e = grows p d e

  -- each class is that of a port from before, or the new port's
  pub birth_class : (p d : ℕ) → class_of (birth s t c) p ≡ Some d
      → (class_of s p ≡ Some d) ⊎ (d ≡ c)
  unfolding after
  birth_class p d is = elim (cases_eq p s.next) [
    | inl e ↦ inr (same_Some d c (sym is ∙ ap (class_of after) e ∙ born_here))
    | inr n ↦ inl (sym (born_other p n) ∙ is)
  ]

  -- one name more at most
  pub birth_small : len (space (birth s t c) t) ≤ len (space s t) + 1
  unfolding after own_before own_after new_receive
  birth_small = rw space_born gained.size

  -- the other spaces stay
  pub birth_other : (u : ℕ) → (u ≡ t → ⊥) → space (birth s t c) u ≡ space s u
  unfolding after
  birth_other u n = space_other u n

module _ (W : Wiring) (G : FactSet) where
  -- a birth of any class but a kernel port's, which the task may hold with its receive right, keeps
  -- the world
  pub birth_keeps : (w : World) (u c : ℕ) → IsAlive w u → c < classes W → owed (numbers_of W) c ≡ 1
      → is_kernel_class W c ≡ false
      → G (Hold (task_class w u) c Receive) → len (space (birth w.store u c) u) ≤ 4096 → Kept W G w
      → Kept W G (with_store w (birth w.store u c))
  birth_keeps w u c alive range owes plain fact room kept =
      let s = w.store in
      let sound = kept.sound in
      record {
        sound = birth_sound W G (task_class w) s u c sound range owes fact;
        few = λ v. elim (cases_eq v u) [
          | inl e ↦ rw e room
          | inr n ↦ rw (birth_other W G (task_class w) s u c sound range owes fact v n) (kept.few v)
        ];
        tasks = record {
          class = kept.tasks.class;
          below = λ t x e. let a = kept.tasks.below t x e in omega arith;
          kernel =
              λ t x e lives. birth_grows W G (task_class w) s u c sound range owes fact x.kernel
              (W.ports + x.class)
              (kept.tasks.kernel t x e lives);
          own = kept.tasks.own;
          only =
              λ p d e is. elim (birth_class W G (task_class w) s u c sound range owes fact p d e) [
                | inl old ↦ kept.tasks.only p d old is
                | inr new ↦ absurd (both_ways (is_kernel_class W d) (ap (is_kernel_class W) new
                    ∙ plain) is)
              ];
          gone = λ t n e. elim (cases_eq t u) [
            | inl same ↦ absurd (both_ways (is_alive (get w.tasks t)) e
                (ap (λ v. is_alive (get w.tasks v)) same ∙ alive.of))
            | inr apart ↦ ap (λ v. get v n) (birth_other W G
                (task_class w) s u c sound range owes fact t apart) ∙ kept.tasks.gone t n e
          ];
        };
        kernels = kept.kernels;
      }
