use Rattle.mrc_machine.proofs.DestroyLaws.{housed_carried}
use Rattle.mrc_machine.proofs.state.State.destroy.Goals as goal

pub apply-requires : goal.apply-requires
apply-requires c = c.in_ok-plan.ensures.ready

pub invariant_of-self : goal.invariant_of-self
invariant_of-self c =
    housed_carried c.self.inside.tasks c.self.inside.store c.apply.new.store c.in_ok-plan.plan
    c.self.invariant c.in_ok-plan.ensures.ready c.apply.ensures
