use Rattle.std.proofs.Common.{ap}
use Rattle.mrc_map.specs.Lookups.{gathered}
use Rattle.mrc_map.proofs.lookup.Lookup.new.Goals as goal

pub returns : goal.returns
returns g c = ap gathered c.new.ensures.empty
