use Rattle.std.proofs.Common.{ap, ◌∙◌, ◌++◌}
use Rattle.mrc_map.proofs.Walks.{since, walk_next, walk_end}
use Rattle.mrc_death.specs.Plans.{left_port}
use Rattle.mrc_death.proofs.Telling.{all_kept}
use Rattle.mrc_death.proofs.planning.destroyed_notices.Goals as goal

pub loop-port-init : goal.loop-port-init
loop-port-init c =
    let deaths = c.args.deaths.now in
    let es = c.args.store.now.ports.list in
    ap (λ l. l ++ since (left_port deaths.dead) deaths.lost 0 es) c.new-notices.ensures.items
    ∙ all_kept deaths.dead deaths.lost es

pub loop-port-preserved : goal.loop-port-preserved
loop-port-preserved c =
    walk_next (left_port c.args.deaths.now.dead) c.args.deaths.now.lost
    c.loop-port.notices.items c.add_destroyed.new.notices.items _ c.loop-port.last
    c.in-Some.port c.args.store.now.ports c.in-Some.ensures c.loop-port.invariant
    c.in_ok-add_destroyed.ensures

pub returns : goal.returns
returns c =
    walk_end (left_port c.args.deaths.now.dead) c.args.deaths.now.lost
    c.loop-port.notices.items _ c.loop-port.last c.args.store.now.ports c.in_default.ensures
    c.loop-port.invariant
