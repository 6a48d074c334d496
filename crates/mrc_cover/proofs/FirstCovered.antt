-- Every closed set covers the first state: each of its holdings is a fact by K1.
use Rattle.std.proofs.Common.{List, Some, [], subst, sym, true, ℕ, ◌<◌, ◌∙◌, ◌∷◌, ◌≡◌}
use Rattle.std.specs.List.{AllByRecursion}
use Rattle.mrc_base.specs.declared.Fact.TheVariants.{Hold}
use Rattle.mrc_base.specs.declared.PortRight.TheVariants.{Send}
use Rattle.mrc_model.proofs.FirstHeld.{first_kernels}
use Rattle.mrc_model.specs.Covers.{Covers, Known, KnownAt}
use Rattle.mrc_model.specs.First.{first, is_sound}
use Rattle.mrc_model.specs.IsIn.{IsIn, here, later}
use Rattle.mrc_model.specs.Map.{get}
use Rattle.mrc_model.specs.Rules.{Closed, FactSet, k1}
use Rattle.mrc_model.specs.Wiring.{Wiring, classes, kernel_class}
use Rattle.mrc_model.specs.World.{Held, class_of, entry_rights, queue_rights, space, task_class}
use Rattle.mrc_model.specs.declared.Backup.TheVariants.{Port as BackupPort, Absent as NoBackup}
use Rattle.mrc_model.specs.declared.Entry.{Entry}
use Rattle.mrc_cover.proofs.FirstLines.{first_keeps}
use Rattle.mrc_cover.proofs.FirstTask.{Any}
use Rattle.mrc_cover.proofs.Kept.{task_class_is}
use Rattle.mrc_cover.proofs.Obeyed.{Ranged}
use Rattle.mrc_cover.proofs.Rights.{MayCarry, MayHold}
use Rattle.mrc_cover.proofs.WellFormed.{alive_of_entry, class_of_alive}

module _ (W : Wiring) where
  -- each fact of the first holdings is a conclusion of the first rule
  from_entries : (F : FactSet) → Closed W F → (t n : ℕ) (e : Entry)
      → get (space (first W).store t) n ≡ Some e
      → task_class (first W) t < W.tasks → (hs gs : List Held)
      → ((h : Held) → IsIn h hs → IsIn h (entry_rights e))
      → AllByRecursion
      (KnownAt (class_of (first W).store) (MayHold (Ranged W Any) (task_class (first W) t))) hs
      → AllByRecursion (KnownAt (class_of (first W).store) (MayHold F (task_class (first W) t))) hs
  from_entries F closed t n e is its [] gs sub h = tt
  from_entries F closed t n e is its (x ∷ xs) gs sub h = (
    (
      h.0.0,
      h.0.1,
      closed 1 [] (Hold (task_class (first W) t) h.0.0 x.right)
          (k1 t x.port (n, e, is, sub x (here)) h.0.1) tt h.0.2.0,
    ),
    from_entries F closed t n e is its xs gs
        (λ v i. sub v (later i)) h.1,
  )

  -- so each closed set covers the first state, where no message and no request is
  pub first_covers : is_sound W ≡ true → (F : FactSet) → Closed W F → Covers F (first W)
  first_covers ok F closed =
      let (kept, idle) = first_keeps W ok in
      record {
        store = record {
          held = λ t n e is. record {
            all = from_entries F closed t n e is
                (class_of_alive W Any (first W) kept.tasks t
                (alive_of_entry W Any (first W) kept.tasks t n e is))
                (entry_rights e) [] (λ h i. i) (kept.sound.covers.held t n e is).all;
          };
          carried =
              λ q x is. subst
              (λ ms. Known (class_of (first W).store) (MayCarry F x.class) (queue_rights ms))
              (sym (idle q x is).0) record { all = tt };
          backups =
              λ p x is. record { live = λ q e. absurd (not_backed q (sym (idle p x is).1 ∙ e)) };
        };
        kernels = λ t x at alive.
            let class = kept.tasks.kernel t x at alive in
            let own = task_class_is W (Ranged W Any) (first W) t x at in
            let fact = closed 1 [] (Hold (task_class (first W) t) (kernel_class W x.class) Send)
            (k1 t x.kernel (first_kernels W ok t x at) class) tt
            (subst (λ v. (v < W.tasks) × (kernel_class W x.class < classes W)) (sym own)
            (kept.kernels t x at alive).0) in (
              kernel_class W x.class,
              class,
              subst (λ v. F (Hold v (kernel_class W x.class) Send)) own fact,
            );
      }
    where
      not_backed : (q : ℕ) → NoBackup ≡ BackupPort q → ⊥
      not_backed q e = cc
