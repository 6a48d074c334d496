use Rattle.std.proofs.Common.{ap, ◌∙◌}
use Rattle.mrc_model.specs.Map.{get}
use Rattle.mrc_model.specs.World.{World}
use Rattle.mrc_machine.proofs.HousingLaws.{has_space, task_in, housed_space, space_back}
use Rattle.mrc_machine.proofs.state.State.take_space.Goals as goal

pub invariant_of-self : goal.invariant_of-self
invariant_of-self c =
    let has = has_space _ _ c.args.self.now c.args.task c.self.invariant c.self.view_is
    c.requires in
    let there = task_in _ _ c.args.self.now c.args.task c.self.invariant c.self.view_is
    c.requires in
    housed_space _ _ _ c.args.task _ c.self.invariant there (c.put_space.ensures.put has).1

pub returns-clause-back : goal.returns-clause-back
returns-clause-back c =
    let has = has_space _ _ c.args.self.now c.args.task c.self.invariant c.self.view_is
    c.requires in
    space_back c.args.self.now c.args.task c.put_space.result
    ((c.put_space.ensures.put has).0
    ∙ ap (λ (w : World). get w.store.spaces c.args.task) c.self.view_is)
