use Rattle.mrc_transit.proofs.CarriedLaws.{taken_carried}
use Rattle.mrc_transit.proofs.laws.taken_is_carried.Goals as goal

pub returns : goal.returns
returns c = taken_carried
