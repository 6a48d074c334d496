use Rattle.std.proofs.Common.{subst}
use Rattle.std.proofs.Math.Facts.{Fits-of_lt}
use Rattle.std.specs.Prelude.{IsSome}
use Rattle.mrc_model.specs.Map.{get}
use Rattle.mrc_model.specs.World.{World}
use Rattle.mrc_machine.proofs.HousingLaws.{by_kernel, found_number}
use Rattle.mrc_machine.proofs.state.State.task_of.Goals as goal

pub first_task-requires : goal.first_task-requires
first_task-requires c = by_kernel _ _ _ c.self.invariant c.entries.ensures

pub overflow_cast-result : goal.overflow_cast-result
overflow_cast-result c =
    Fits-of_lt (found_number _ _ _ _ c.in-Some.task _ c.self.invariant c.entries.ensures
    c.first_task.ensures c.in-Some.is).1

pub returns-in-Some-clause-there : goal.returns-in-Some-clause-there
returns-in-Some-clause-there c =
    subst (λ (w : World). IsSome (get w.tasks c.in-Some.task)) c.self.view_is
    (found_number _ _ _ _ c.in-Some.task _ c.self.invariant c.entries.ensures
    c.first_task.ensures c.in-Some.is).0
