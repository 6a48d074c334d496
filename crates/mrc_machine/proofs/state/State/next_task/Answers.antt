use Rattle.std.proofs.Common.{sym, ap, ◌∙◌}
use Rattle.mrc_model.specs.CallCreateTask.{limit_of_task_numbers}
use Rattle.mrc_model.specs.Map.{next_key}
use Rattle.mrc_model.specs.World.{World}
use Rattle.mrc_map.specs.Entries.{below}
use Rattle.mrc_machine.proofs.HousingLaws.{next_number}
use Rattle.mrc_machine.proofs.state.State.next_task.Goals as goal

pub returns : goal.returns
returns c =
    c.next_task.ensures
    ∙ ap (below limit_of_task_numbers) (sym (next_number c.self.inside.tasks c.self.inside.store
    c.self.invariant)
    ∙ ap (λ (w : World). next_key w.tasks) c.self.view_is)
