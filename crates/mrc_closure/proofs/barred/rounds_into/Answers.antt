use Rattle.std.proofs.Common.{subst, sym}
use Rattle.mrc_wiring.specs.Table.{wiring_of}
use Rattle.mrc_closure.specs.Orders.{IsOnce, IsOrder}
use Rattle.mrc_closure.proofs.Barring.{barring_begun, barring_gone_on}
use Rattle.mrc_closure.proofs.Deriving.{order_more, once_more}
use Rattle.mrc_closure.proofs.barred.rounds_into.Goals as goal

pub loop-init : goal.loop-init
loop-init c =
    barring_begun (wiring_of c.args.rules.now) c.args.barred.now c.args.facts.now c.args.first
    c.merge.new.facts c.args.order.now.items c.merge.new.new c.requires.empty c.requires.none
    c.requires.first c.requires.barred c.in_ok-merge.ensures.merged

pub loop-preserved : goal.loop-preserved
loop-preserved c =
    barring_gone_on (wiring_of c.args.rules.now) c.args.barred.now c.loop.facts c.loop.order.items
    c.loop.new c.round_without.new.facts c.end_round.new.order.items c.round_without.new.new
    c.loop.invariant c.in_ok-end_round.ensures.ascending c.in_ok-round_without.ensures
    c.in_ok-end_round.ensures.listed

pub returns-clause-order : goal.returns-clause-order
returns-clause-order c =
    let W = wiring_of c.args.rules.now in
    subst (IsOrder W) (sym c.in_ok-end_round-2.ensures.listed)
    (order_more W c.loop.facts c.loop.order.items c.loop.new c.loop.invariant.ordered
    c.in_ok-end_round-2.ensures.ascending)

pub returns-clause-once : goal.returns-clause-once
returns-clause-once c =
    let W = wiring_of c.args.rules.now in
    subst IsOnce (sym c.in_ok-end_round-2.ensures.listed)
    (once_more W c.loop.facts c.loop.order.items c.loop.new c.loop.invariant.ordered
    c.in_ok-end_round-2.ensures.ascending)
