-- Each step goes to the fact behind.
use Rattle.mrc_facts.proofs.Walking.{walk_begins, walk_goes_on, at_some, less_some}
use Rattle.mrc_draw.proofs.filter.facts_text.Goals as goal

pub loop-next-init : goal.loop-next-init
loop-next-init c =
    (walk_begins c.args.facts.now c.len-count.ensures.ascending c.first-next.result
    c.first-next.ensures.exact).1

pub loop-next-smaller : goal.loop-next-smaller
loop-next-smaller c =
    let at = at_some c.args.facts.now c.loop-next.next c.in-Some.fact c.in-Some.is
    c.loop-next.invariant in
    let step = walk_goes_on c.args.facts.now c.len-count.ensures.ascending c.in-Some.fact at _
    c.in_ok-next.ensures in
    less_some c.args.facts.now c.loop-next.next c.in-Some.fact c.in-Some.is _ step

pub loop-next-preserved : goal.loop-next-preserved
loop-next-preserved c =
    let at = at_some c.args.facts.now c.loop-next.next c.in-Some.fact c.in-Some.is
    c.loop-next.invariant in
    (walk_goes_on c.args.facts.now c.len-count.ensures.ascending c.in-Some.fact at _
    c.in_ok-next.ensures).next
