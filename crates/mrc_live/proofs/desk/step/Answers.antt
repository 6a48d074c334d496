use Rattle.mrc_live.proofs.Growing.{reply_is, world_is}
use Rattle.mrc_machine.specs.Calls.{reply_of}
use Rattle.mrc_live.proofs.desk.step.Goals as goal

pub returns-clause-reply : goal.returns-clause-reply
returns-clause-reply c =
    let was = c.args.guarded.now in
    reply_is reply_of c.step.result was.confined was.world c.step.new.self.world c.args.task
    c.args.call.now c.step.ensures.step

pub returns-clause-world : goal.returns-clause-world
returns-clause-world c =
    let was = c.args.guarded.now in
    world_is reply_of c.step.result was.confined was.world c.step.new.self.world c.args.task
    c.args.call.now c.step.ensures.step
