use Rattle.std.proofs.Common.{◌≡◌, ◌++◌, drop}
use Rattle.mrc_death.specs.Plans.{once_ports}
use Rattle.mrc_death.proofs.planning.once_notices.Given as goal

abbrev pub invariant-loop-held : goal.invariant-loop-held
invariant-loop-held l =
    l.notices.items ++ once_ports (drop l.held-index l.rights) ≡ once_ports l.rights
