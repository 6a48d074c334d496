use Rattle.std.proofs.Common.{refl}
use Rattle.mrc_index.proofs.names.fn.Names.let_go.retain.Goals as goal

pub returns : goal.returns
returns c = record { stays = refl; outside = c.outside.ensures c.args._name.now }
