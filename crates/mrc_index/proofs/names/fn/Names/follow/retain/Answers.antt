use Rattle.std.proofs.Common.{refl}
use Rattle.mrc_index.proofs.names.fn.Names.follow.retain.Goals as goal

pub returns : goal.returns
returns c = record { stays = refl; renamed = c.in_renamed.ensures c.args._name.now }
