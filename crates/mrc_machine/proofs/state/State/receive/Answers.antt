use Rattle.mrc_machine.proofs.HousingLaws.{housed_alike}
use Rattle.mrc_machine.proofs.state.State.receive.Goals as goal

pub invariant_of-self : goal.invariant_of-self
invariant_of-self c =
    housed_alike c.self.inside.tasks c.self.inside.store c.receive.new.store c.self.invariant
    c.receive.ensures.housed
