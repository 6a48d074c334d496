-- What every call keeps is that a world is well formed and covered, for the facts over the wiring's
-- tasks and classes.
use Rattle.std.proofs.Common.{List, None, Option, Some, [], arith, inl, inr, refl, subst, sym, true}
use Rattle.std.proofs.Common.{ℕ}
use Rattle.std.proofs.Common.{◌<◌, ◌∙◌, ◌∷◌, ◌≡◌}
use Rattle.std.proofs.lemmas.Bool.{cases_Bool}
use Rattle.std.specs.List.{AllByRecursion}
use Rattle.std.specs.Option.{option_map, unwrap_or}
use Rattle.mrc_base.specs.declared.Fact.{Fact}
use Rattle.mrc_base.specs.declared.Fact.TheVariants.{Backup as BackupFact, Carry, Hold}
use Rattle.mrc_base.specs.declared.PortRight.{PortRight}
use Rattle.mrc_base.specs.declared.PortRight.TheVariants.{Send}
use Rattle.mrc_model.proofs.Maps.{not_None, same_Some}
use Rattle.mrc_model.specs.Covers.{Covers, HasSpaces, IsManned, IsWellFormed, KnownAt}
use Rattle.mrc_model.specs.Map.{get}
use Rattle.mrc_model.specs.Rules.{FactSet}
use Rattle.mrc_model.specs.Step.{step}
use Rattle.mrc_model.specs.Target.{is_alive}
use Rattle.mrc_model.specs.Wiring.{Wiring, classes, kernel_class, numbers_of}
use Rattle.mrc_model.specs.World.{Held, Task, World, class_of, entry_rights, queue_rights, space}
use Rattle.mrc_model.specs.World.{task_class}
use Rattle.mrc_model.specs.declared.Entry.{Entry}
use Rattle.mrc_cover.proofs.Kept.{Kept}
use Rattle.mrc_cover.proofs.Obeyed.{Ranged}
use Rattle.mrc_cover.proofs.Rights.{Known-more, MayCarry, MayHold}
use Rattle.mrc_cover.proofs.Stores.{live_class}

module _ (W : Wiring) (F : FactSet) (w : World) where
  -- a task with an entry is alive
  pub alive_of_entry : IsManned (numbers_of W) w → (t n : ℕ) (e : Entry)
      → get (space w.store t) n ≡ Some e
      → is_alive (get w.tasks t) ≡ true
  alive_of_entry m t n e is = elim (cases_Bool (is_alive (get w.tasks t))) [
    | inl a ↦ a
    | inr b ↦ absurd (not_None e (sym is ∙ m.gone t n b))
  ]

  -- the class of a task that is alive is one of the wiring's
  pub class_of_alive : IsManned (numbers_of W) w → (t : ℕ) → is_alive (get w.tasks t) ≡ true
      → task_class w t < W.tasks
  class_of_alive m t alive =
      let go : (o : Option Task) → get w.tasks t ≡ o → is_alive o ≡ true
      → unwrap_or (option_map (λ (x : Task). x.class) o) t < W.tasks =
      elim [ None ↦ λ e a. cc | Some x ↦ λ e a. m.class t x e ] in
      go (get w.tasks t) refl alive

  -- rights on live ports are known for classes of the wiring
  all_ranged : (R : ℕ → PortRight → Type 0) (P : ℕ → PortRight → Type 0) (hs : List Held)
      → ((p c : ℕ) → class_of w.store p ≡ Some c → c < classes W)
      → ((c : ℕ) (r : PortRight) → c < classes W → P c r → R c r)
      → AllByRecursion (KnownAt (class_of w.store) P) hs
      → AllByRecursion (KnownAt (class_of w.store) R) hs
  all_ranged R P [] range step h = tt
  all_ranged R P (x ∷ xs) range step h = (
    (
      h.0.0,
      h.0.1,
      step h.0.0 x.right
          (range x.port h.0.0 h.0.1) h.0.2,
    ),
    all_ranged R P xs range step h.1,
  )

  -- a world that is well formed and covered is kept, for the facts in range
  pub kept_if_well_formed : IsWellFormed (numbers_of W) w → Covers F w → Kept W (Ranged W F) w
  kept_if_well_formed wf covers =
      let range : (p c : ℕ) → class_of w.store p ≡ Some c
      → c < classes W = λ p c e. (wf.numbers p c e).1 in
      record {
        few = wf.few;
        tasks = wf.tasks;
        kernels = λ t x at alive.
            let its = covers.kernels t x at alive in
            let same : its.0 ≡ kernel_class W x.class =
            same_Some _ _ (sym its.1 ∙ wf.tasks.kernel t x at alive) in
            let low = wf.tasks.class t x at in
            ((low, omega arith), subst (λ v. F (Hold x.class v Send)) same its.2);
        sound = record {
          receive_once = λ p c e. let a = wf.receive_once p c e in omega arith;
          numbers = wf.numbers;
          one_name = wf.one_name;
          covers = record {
            held =
                λ t n e is. let its = class_of_alive wf.tasks t
                (alive_of_entry wf.tasks t n e is) in
                record {
                  all =
                      all_ranged (MayHold (Ranged W F) (task_class w t))
                      (MayHold F (task_class w t))
                      (entry_rights e) range (λ c r l f. ((its, l), f))
                      (covers.store.held t n e is).all;
                };
            carried = λ q x is. let its = range q x.class (live_class w.store q x is) in
                record {
                  all =
                      all_ranged (MayCarry (Ranged W F) x.class) (MayCarry F x.class)
                      (queue_rights x.queue) range
                      (λ c r l f. ((its, l), f)) (covers.store.carried q x is).all;
                };
            backups = λ p x is. let its = range p x.class (live_class w.store p x is) in
                record {
                  live = λ q e. let h = (covers.store.backups p x is).live q e in
                      (h.0, h.1, ((its, range q h.0 h.1), h.2));
                };
          };
        };
      }

  -- what is kept is covered by each set that has the facts in range
  less : (P : FactSet) → ((f : Fact) → Ranged W F f → P f) → Kept W (Ranged W F) w → Covers P w
  less P step kept = record {
    store = record {
      held =
          λ t n e is. Known-more (λ c r. step (Hold (task_class w t) c r))
          (kept.sound.covers.held t n e is);
      carried =
          λ q x is. Known-more (λ c r. step (Carry x.class c r)) (kept.sound.covers.carried q x is);
      backups = λ p x is. record {
        live = λ q e.
            let h = (kept.sound.covers.backups p x is).live q e in
            (h.0, h.1, step (BackupFact x.class h.0) h.2);
      };
    };
    kernels = λ t x at alive. (
      kernel_class W x.class,
      kept.tasks.kernel t x at alive,
      step (Hold x.class (kernel_class W x.class) Send) (kept.kernels t x at alive),
    );
  }

  -- so it is covered
  pub kept_is_covered : Kept W (Ranged W F) w → Covers F w
  kept_is_covered kept = less F (λ f h. h.1) kept

  -- and well formed, where its spaces are spaces
  pub kept_is_well_formed : HasSpaces w → Kept W (Ranged W F) w → IsWellFormed (numbers_of W) w
  kept_is_well_formed spaces kept = record {
    receive_once = λ p c e. let a = kept.sound.receive_once p c e in omega arith;
    numbers = kept.sound.numbers;
    live = less (λ f. Unit {0}) (λ f h. tt) kept;
    one_name = kept.sound.one_name;
    spaces = spaces;
    few = kept.few;
    tasks = kept.tasks;
  }
