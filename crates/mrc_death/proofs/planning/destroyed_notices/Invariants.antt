use Rattle.std.proofs.Common.{◌≡◌, ◌++◌, ◌-◌, ◌^◌}
use Rattle.mrc_map.specs.Members.{above}
use Rattle.mrc_map.proofs.Walks.{since}
use Rattle.mrc_death.specs.Plans.{left_port, kept_ports}
use Rattle.mrc_death.proofs.planning.destroyed_notices.Given as goal

abbrev pub invariant-loop-port : goal.invariant-loop-port
invariant-loop-port l =
    l.notices.items ++ since (left_port l.deaths.dead) l.deaths.lost (above l.last)
    l.store.ports.list
    ≡ kept_ports l.deaths.dead l.deaths.lost l.store.ports.list

abbrev pub decreases-loop-port : goal.decreases-loop-port
decreases-loop-port l = 2 ^ 64 - above l.last
