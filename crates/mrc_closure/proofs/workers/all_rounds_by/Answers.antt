use Rattle.std.proofs.Common.{arith}
use Rattle.mrc_wiring.specs.Table.{wiring_of}
use Rattle.mrc_closure.proofs.Keeping.{begun, gone_on, some_there, none_there}
use Rattle.mrc_closure.proofs.Dealing.{from_all}
use Rattle.mrc_closure.proofs.Counting.{small_at, least_list, fewer}
use Rattle.mrc_closure.proofs.workers.all_rounds_by.Goals as goal

pub loop-alloc-init : goal.loop-alloc-init
loop-alloc-init g c =
    let W = wiring_of c.args.rules.now in
    let workers = c.args.workers in
    let next = c.in_ok-next_round_by.ensures in
    let start = begun W c.args.facts.now c.args.first c.merge.new.facts c.merge.new.new
    c.requires.empty c.requires.first c.in_ok-merge.ensures.merged
    c.in_ok-merge.ensures.ascending in
    gone_on W c.merge.new.facts c.merge.new.new next.found c.next_round_by.new.facts
    c.next_round_by.new.new start
    (from_all W c.merge.new.facts c.merge.new.new workers next.found c.requires.some start.there
    next.all) next.merged next.ascending

pub loop-alloc-preserved : goal.loop-alloc-preserved
loop-alloc-preserved g c =
    let W = wiring_of c.args.rules.now in
    let workers = c.args.workers in
    let next = c.in_ok-next_round_by-2.ensures in
    gone_on W c.loop-alloc.facts c.loop-alloc.new next.found
    c.next_round_by-in-loop-alloc.new.facts c.next_round_by-in-loop-alloc.new.new
    c.loop-alloc.invariant
    (from_all W c.loop-alloc.facts c.loop-alloc.new workers next.found c.requires.some
    c.loop-alloc.invariant.there next.all) next.merged next.ascending

pub loop-alloc-smaller : goal.loop-alloc-smaller
loop-alloc-smaller g c =
    let next = c.in_ok-next_round_by-2.ensures in
    fewer (wiring_of c.args.rules.now)
    (small_at c.args.rules.now c.classes-classes.result c.classes-classes.ensures.exact
    (omega (arith, c.classes-classes.ensures.within))) c.loop-alloc.facts c.loop-alloc.new
    next.found c.next_round_by-in-loop-alloc.new.facts c.next_round_by-in-loop-alloc.new.new
    (some_there c.loop-alloc.new c.is_empty.result c.is_empty.ensures c.loop-alloc-test.true)
    (loop-alloc-preserved g c) next.merged

pub returns : goal.returns
returns g c =
    least_list (wiring_of c.args.rules.now)
    (small_at c.args.rules.now c.classes-classes.result c.classes-classes.ensures.exact
    (omega (arith, c.classes-classes.ensures.within))) c.loop-alloc.facts c.loop-alloc.new
    (none_there c.loop-alloc.new c.is_empty.result c.is_empty.ensures c.loop-alloc-test.false)
    c.loop-alloc.invariant
