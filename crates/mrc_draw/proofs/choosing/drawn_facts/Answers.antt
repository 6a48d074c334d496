use Rattle.mrc_facts.specs.Sets.{has}
use Rattle.mrc_facts.proofs.Walking.{walk_begins, walk_goes_on, at_some, less_some}
use Rattle.mrc_draw.specs.Filters.{is_drawn}
use Rattle.mrc_draw.proofs.Chosen.{keeps_none, keeps_more, keeps_all}
use Rattle.mrc_draw.proofs.choosing.drawn_facts.Goals as goal

pub loop-next-init : goal.loop-next-init
loop-next-init c =
    let b = walk_begins c.args.facts.now c.len-count.ensures.ascending c.first-next.result
    c.first-next.ensures.exact in
    record {
      at = b.1;
      so_far = keeps_none (is_drawn c.args.asked.now c.args.holds) c.args.facts.now
          c.first-next.result c.new-kept.result b.0 c.new-kept.ensures;
    }

pub loop-next-smaller : goal.loop-next-smaller
loop-next-smaller c =
    let at = at_some c.args.facts.now c.loop-next.next c.in-Some.fact c.in-Some.is
    c.loop-next.invariant.at in
    let step = walk_goes_on c.args.facts.now c.len-count.ensures.ascending c.in-Some.fact at _
    c.in_ok-next.ensures.next in
    less_some c.args.facts.now c.loop-next.next c.in-Some.fact c.in-Some.is _ step

pub loop-next-preserved : goal.loop-next-preserved
loop-next-preserved c =
    let at = at_some c.args.facts.now c.loop-next.next c.in-Some.fact c.in-Some.is
    c.loop-next.invariant.at in
    let step = walk_goes_on c.args.facts.now c.len-count.ensures.ascending c.in-Some.fact at _
    c.in_ok-next.ensures.next in
    record {
      at = step.next;
      so_far = keeps_more (is_drawn c.args.asked.now c.args.holds) c.args.facts.now
          c.loop-next.next c.in-Some.fact c.in-Some.is _ step (has c.loop-next.kept)
          (has c.keep.new.kept) c.loop-next.invariant.so_far c.in_ok-next.ensures.kept;
    }

pub returns : goal.returns
returns c =
    keeps_all (is_drawn c.args.asked.now c.args.holds) c.args.facts.now c.loop-next.next
    c.in_default.is c.loop-next.kept c.len-count.ensures.ascending c.len-kept.ensures.ascending
    c.loop-next.invariant.so_far
