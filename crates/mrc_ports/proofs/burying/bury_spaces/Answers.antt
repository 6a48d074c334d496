use Rattle.std.proofs.Common.{rules}
use Rattle.mrc_map.proofs.Changing.{changed_map}
use Rattle.mrc_ports.specs.Burials.{left_names}
use Rattle.mrc_ports.proofs.burying.bury_spaces.Goals as goal

pub returns : goal.returns
returns c =
    changed_map _ _ (left_names c.args.dead.now) c.args.spaces.now c.change.new.self
    (λ e d b g h. search rules) c.change.ensures
