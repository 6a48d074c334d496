use Rattle.std.proofs.Common.{◌≡◌, ◌++◌, ◌-◌, ◌^◌}
use Rattle.mrc_model.specs.Death.{queued_on}
use Rattle.mrc_map.specs.Members.{above}
use Rattle.mrc_map.proofs.Walks.{since}
use Rattle.mrc_death.specs.Rights.{rights_in}
use Rattle.mrc_death.proofs.going.add_queued.Given as goal

abbrev pub invariant-loop-port : goal.invariant-loop-port
invariant-loop-port l =
    l.rights.items ++ since (λ p x. rights_in x) l.dead (above l.last) l.store.ports.list
    ≡ l.fn.rights.items ++ queued_on l.dead l.store.ports.list

abbrev pub decreases-loop-port : goal.decreases-loop-port
decreases-loop-port l = 2 ^ 64 - above l.last
