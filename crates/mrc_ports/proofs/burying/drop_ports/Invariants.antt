use Rattle.std.proofs.Common.{◌-◌, ◌^◌}
use Rattle.mrc_map.specs.Members.{above}
use Rattle.mrc_ports.proofs.Dropping.{AreGone}
use Rattle.mrc_ports.proofs.burying.drop_ports.Given as goal

-- the dead ports so far are gone
abbrev pub invariant-loop-port : goal.invariant-loop-port
invariant-loop-port l = AreGone l.dead (above l.last) l.initial.ports l.ports

abbrev pub decreases-loop-port : goal.decreases-loop-port
decreases-loop-port l = 2 ^ 64 - above l.last
