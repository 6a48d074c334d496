use Rattle.std.proofs.Common.{ap, length}
use Rattle.mrc_model.specs.Map.{len}
use Rattle.mrc_map.proofs.map.Map.len.Goals as goal

pub returns : goal.returns
unfolding len
returns g c = ap length c.entries.ensures
