use Rattle.std.proofs.Common.{List, subst, sym, arith}
use Rattle.mrc_base.specs.declared.Fact.{Fact}
use Rattle.mrc_wiring.specs.Table.{wiring_of}
use Rattle.mrc_closure.proofs.Keeping.{IsRound, begun, gone_on, at_rest, some_there, none_there}
use Rattle.mrc_closure.proofs.Dealing.{from_alone}
use Rattle.mrc_closure.proofs.Counting.{small_at, fewer}
use Rattle.mrc_closure.proofs.Deriving.{IsOrdered, order_begun, order_gone_on, order_same}
use Rattle.mrc_closure.proofs.chains.rounds_in_order.Goals as goal

pub loop-alloc-init : goal.loop-alloc-init
loop-alloc-init c =
    let W = wiring_of c.args.rules.now in
    record {
      round = begun W c.args.facts.now c.args.first c.merge.new.facts c.merge.new.new
          c.requires.empty c.requires.first c.in_ok-merge.ensures.merged
          c.in_ok-merge.ensures.ascending;
      ordered = order_begun W c.args.facts.now c.args.first c.merge.new.facts
          c.new-order.result.items c.merge.new.new c.requires.empty c.new-order.ensures.items
          (λ g. (c.requires.first g).0) c.in_ok-merge.ensures.merged;
    }

pub loop-alloc-preserved : goal.loop-alloc-preserved
loop-alloc-preserved c =
    let W = wiring_of c.args.rules.now in
    let next = c.in_ok-next_round.ensures in
    let found = from_alone W c.loop-alloc.facts c.loop-alloc.new next.found
    c.loop-alloc.invariant.round.there next.all in
    record {
      round = gone_on W c.loop-alloc.facts c.loop-alloc.new next.found c.next_round.new.facts
          c.next_round.new.new c.loop-alloc.invariant.round found next.merged next.ascending;
      ordered = subst (λ (fs : List Fact). IsOrdered W c.next_round.new.facts fs
          c.next_round.new.new) (sym c.in_ok-list_all.ensures.listed)
          (order_gone_on W c.loop-alloc.facts c.loop-alloc.order.items c.loop-alloc.new
          c.loop-alloc.invariant.ordered c.in_ok-list_all.ensures.ascending next.found
          c.next_round.new.facts c.next_round.new.new (λ g. (found g).0) next.merged);
    }

pub loop-alloc-smaller : goal.loop-alloc-smaller
loop-alloc-smaller c =
    let W = wiring_of c.args.rules.now in
    let next = c.in_ok-next_round.ensures in
    let round : IsRound W c.next_round.new.facts c.next_round.new.new =
    (loop-alloc-preserved c).round in
    fewer W
    (small_at c.args.rules.now c.classes-classes.result c.classes-classes.ensures.exact
    (omega (arith, c.classes-classes.ensures.within))) c.loop-alloc.facts c.loop-alloc.new
    next.found c.next_round.new.facts c.next_round.new.new
    (some_there c.loop-alloc.new c.is_empty.result c.is_empty.ensures c.loop-alloc-test.true)
    round next.merged

pub returns-clause-least : goal.returns-clause-least
returns-clause-least c =
    let W = wiring_of c.args.rules.now in
    at_rest W c.loop-alloc.facts (subst (IsRound W c.loop-alloc.facts)
    (none_there c.loop-alloc.new c.is_empty.result c.is_empty.ensures c.loop-alloc-test.false)
    c.loop-alloc.invariant.round)

pub returns-clause-same : goal.returns-clause-same
returns-clause-same c =
    let W = wiring_of c.args.rules.now in
    order_same W c.loop-alloc.facts c.loop-alloc.order.items
    (subst (IsOrdered W c.loop-alloc.facts c.loop-alloc.order.items)
    (none_there c.loop-alloc.new c.is_empty.result c.is_empty.ensures c.loop-alloc-test.false)
    c.loop-alloc.invariant.ordered)
