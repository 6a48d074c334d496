use Rattle.std.proofs.Common.{arith}
use Rattle.mrc_wiring.specs.Table.{wiring_of}
use Rattle.mrc_closure.proofs.Keeping.{begun, gone_on, some_there, none_there}
use Rattle.mrc_closure.proofs.Dealing.{from_alone}
use Rattle.mrc_closure.proofs.Counting.{small_at, least_list, fewer}
use Rattle.mrc_closure.proofs.rounds.all_rounds.Goals as goal

pub loop-alloc-init : goal.loop-alloc-init
loop-alloc-init c =
    begun (wiring_of c.args.rules.now) c.args.facts.now c.args.first c.merge.new.facts
    c.merge.new.new c.requires.empty c.requires.first c.in_ok-merge.ensures.merged
    c.in_ok-merge.ensures.ascending

pub loop-alloc-preserved : goal.loop-alloc-preserved
loop-alloc-preserved c =
    let W = wiring_of c.args.rules.now in
    let next = c.in_ok-next_round.ensures in
    gone_on W c.loop-alloc.facts c.loop-alloc.new next.found c.next_round.new.facts
    c.next_round.new.new c.loop-alloc.invariant
    (from_alone W c.loop-alloc.facts c.loop-alloc.new next.found c.loop-alloc.invariant.there
    next.all) next.merged next.ascending

pub loop-alloc-smaller : goal.loop-alloc-smaller
loop-alloc-smaller c =
    let next = c.in_ok-next_round.ensures in
    fewer (wiring_of c.args.rules.now)
    (small_at c.args.rules.now c.classes-classes.result c.classes-classes.ensures.exact
    (omega (arith, c.classes-classes.ensures.within))) c.loop-alloc.facts c.loop-alloc.new
    next.found c.next_round.new.facts c.next_round.new.new
    (some_there c.loop-alloc.new c.is_empty.result c.is_empty.ensures c.loop-alloc-test.true)
    (loop-alloc-preserved c) next.merged

pub returns : goal.returns
returns c =
    least_list (wiring_of c.args.rules.now)
    (small_at c.args.rules.now c.classes-classes.result c.classes-classes.ensures.exact
    (omega (arith, c.classes-classes.ensures.within))) c.loop-alloc.facts c.loop-alloc.new
    (none_there c.loop-alloc.new c.is_empty.result c.is_empty.ensures c.loop-alloc-test.false)
    c.loop-alloc.invariant
