use Rattle.std.proofs.Common.{ap, ◌++◌}
use Rattle.mrc_map.proofs.Walks.{walk_next, walk_end}
use Rattle.mrc_death.specs.Rights.{rights_in}
use Rattle.mrc_death.proofs.RightsLaws.{all_queued}
use Rattle.mrc_death.proofs.going.add_queued.Goals as goal

pub loop-port-init : goal.loop-port-init
loop-port-init c =
    ap (λ l. c.args.rights.now.items ++ l)
    (all_queued c.args.dead.now c.args.store.now.ports.list)

pub loop-port-preserved : goal.loop-port-preserved
loop-port-preserved c =
    walk_next (λ p x. rights_in x) c.args.dead.now c.loop-port.rights.items
    c.add_port.new.rights.items _ c.loop-port.last c.in-Some.port c.args.store.now.ports
    c.in-Some.ensures c.loop-port.invariant c.in_ok-add_port.ensures

pub returns : goal.returns
returns c =
    walk_end (λ p x. rights_in x) c.args.dead.now c.loop-port.rights.items _ c.loop-port.last
    c.args.store.now.ports c.in_default.ensures c.loop-port.invariant
