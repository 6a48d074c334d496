-- What ending a task comes to, from what each step of code tells.
use Rattle.std.proofs.Common.{◌≡◌, ℕ, Option, Some, None, Ok, Err, refl, sym, ◌∙◌, ap}
use Rattle.std.proofs.Common.{subst}
use Rattle.std.specs.Prelude.{IsOk, option_map}
use Rattle.mrc_model.specs.declared.Code.TheVariants.{KernInvalidArgument}
use Rattle.mrc_model.specs.Map.{get}
use Rattle.mrc_model.specs.World.{Task, World}
use Rattle.mrc_model.specs.Reply.{Reply, Done, Refused, Try, ◌>>=◌, or_refuse}
use Rattle.mrc_model.specs.Destroyed.{TaskOf, destroyed}
use Rattle.mrc_model.specs.Target.{with_store}
use Rattle.mrc_model.specs.CallTerminate.{call_terminate, ended}
use Rattle.mrc_model.proofs.Maps.{same_Some}
use Rattle.mrc_machine.specs.Endings.{with_end}
use Rattle.mrc_machine.specs.Housing.{target_of}
use Rattle.mrc_machine.proofs.TargetLaws.{target_none, target_some}

-- what is answered for a task that is there
abbrev on_end : World → ℕ → Task → Try (World × Reply)
on_end w u x = Ok (ended w u x, Done)

module _ (w : World) (t task : ℕ) where
  pub terminate_no_task : target_of w t task ≡ None
      → call_terminate w t task ≡ Err (Refused KernInvalidArgument)
  unfolding call_terminate ◌>>=◌
  terminate_no_task none = rw (target_none w t task KernInvalidArgument none) refl

  module _ (u kernel : ℕ) (task_is : target_of w t task ≡ Some u)
      (kernel_is : option_map (λ (x : Task). x.kernel) (get w.tasks u) ≡ Some kernel) where
    -- the task, and the world after its end
    pub terminate_done : (z v : World)
        → z ≡ with_store w (destroyed w.store (TaskOf u kernel))
        → v ≡ with_end z u (get z.tasks u)
        → call_terminate w t task ≡ Ok (v, Done)
    unfolding call_terminate ◌>>=◌ or_refuse
    terminate_done z v gone end =
        rw (target_some w t task u KernInvalidArgument task_is)
        (go (get w.tasks u) refl kernel_is)
      where
        go : (o : Option Task)
            → get w.tasks u ≡ o
            → option_map (λ (x : Task). x.kernel) o ≡ Some kernel
            → (or_refuse o (Refused KernInvalidArgument)
            >>= on_end w u) ≡ Ok (v, Done)
        go None at is = cc
        go (Some x) at is =
            let tasks : get z.tasks u ≡ Some x = ap (λ (k : World). get k.tasks u) gone ∙ at in
            let end' : v ≡ with_end (with_store w (destroyed w.store (TaskOf u x.kernel))) u
            (Some x) =
            end ∙ ap (with_end z u) tasks ∙ ap (λ (k : World). with_end k u (Some x)) gone
            ∙ ap (λ k. with_end (with_store w (destroyed w.store (TaskOf u k))) u (Some x))
            (sym (same_Some x.kernel kernel is)) in
            ap (λ (k : World). Ok (k, Done)) (sym end')

    pub terminate_goes : IsOk (call_terminate w t task)
    terminate_goes = subst IsOk (sym (terminate_done _ _ refl refl)) refl
