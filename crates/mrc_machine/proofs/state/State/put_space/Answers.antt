use Rattle.mrc_machine.proofs.HousingLaws.{has_space, task_in, housed_space}
use Rattle.mrc_machine.proofs.state.State.put_space.Goals as goal

pub invariant_of-self : goal.invariant_of-self
invariant_of-self c =
    let has = has_space _ _ c.args.self.now c.args.task c.self.invariant c.self.view_is
    c.requires in
    let there = task_in _ _ c.args.self.now c.args.task c.self.invariant c.self.view_is
    c.requires in
    housed_space _ _ _ c.args.task _ c.self.invariant there (c.put_space.ensures.put has).1
