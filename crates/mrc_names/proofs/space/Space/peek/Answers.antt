use Rattle.std.proofs.Common.{}
use Rattle.mrc_names.proofs.SpaceExits.{port_parted}
use Rattle.mrc_names.proofs.space.Space.peek.Goals as goal

pub returns-clause-found : goal.returns-clause-found
returns-clause-found c =
    port_parted c.args.self.now c.args.name c.args.disp _ _ c.in_ok-taken.ensures.found
