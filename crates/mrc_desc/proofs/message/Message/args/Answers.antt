use Rattle.mrc_desc.proofs.Walks.{each_lawful}
use Rattle.mrc_desc.proofs.message.Message.args.Goals as goal

pub returns-clause-each : goal.returns-clause-each
returns-clause-each c =
    rw c.as_slice.ensures (each_lawful c.self.inside.args c.self.invariant.args.0)
