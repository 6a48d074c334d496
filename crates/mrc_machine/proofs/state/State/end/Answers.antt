use Rattle.std.proofs.Common.{◌≡◌, Some, ap, rules}
use Rattle.mrc_model.specs.Map.{get}
use Rattle.mrc_model.specs.World.{Task}
use Rattle.mrc_machine.proofs.HousingLaws.{housed_end}
use Rattle.mrc_machine.proofs.state.State.end.Goals as goal

-- the task that has ended keeps its kernel port
pub invariant_of-self : goal.invariant_of-self
invariant_of-self c =
    let at : get c.self.inside.tasks c.from-key.result ≡ Some c.in-Some.found.now = search rules in
    housed_end c.self.inside.tasks _ _ c.from-key.result _ _ c.self.invariant at
    (ap (λ (x : Task). x.kernel) c.ended-ended.ensures) c.set.ensures
