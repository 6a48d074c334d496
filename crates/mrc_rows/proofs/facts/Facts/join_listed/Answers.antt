use Rattle.mrc_facts.proofs.Walking.{walk_begins, walk_goes_on, at_some, less_some}
use Rattle.mrc_rows.proofs.Wholes.{begins_joined, more_joined, all_joined}
use Rattle.mrc_rows.proofs.facts.Facts.join_listed.Goals as goal

pub loop-next-init : goal.loop-next-init
loop-next-init c =
    let b = walk_begins c.args.list.now c.requires.list c.first-next.result
    c.first-next.ensures in
    record {
      ascending = c.requires.own;
      at = b.1;
      so_far = begins_joined c.args.list.now c.args.self.now c.first-next.result b.0;
    }

pub loop-next-smaller : goal.loop-next-smaller
loop-next-smaller c =
    let at = at_some c.args.list.now c.loop-next.next c.in-Some.fact c.in-Some.is
    c.loop-next.invariant.at in
    let step = walk_goes_on c.args.list.now c.requires.list c.in-Some.fact at _
    c.in_ok-next.ensures.next in
    less_some c.args.list.now c.loop-next.next c.in-Some.fact c.in-Some.is _ step

pub loop-next-preserved : goal.loop-next-preserved
loop-next-preserved c =
    let at = at_some c.args.list.now c.loop-next.next c.in-Some.fact c.in-Some.is
    c.loop-next.invariant.at in
    let step = walk_goes_on c.args.list.now c.requires.list c.in-Some.fact at _
    c.in_ok-next.ensures.next in
    record {
      ascending = c.put_listed.ensures.ascending;
      at = step.next;
      so_far = more_joined c.args.list.now c.args.self.now c.loop-next.self c.put_listed.new.self
          c.loop-next.next c.in-Some.fact _ c.in-Some.is step c.loop-next.invariant.so_far
          c.in_ok-next.ensures.put;
    }

pub returns-clause-ok : goal.returns-clause-ok
returns-clause-ok c =
    all_joined c.args.list.now c.args.self.now c.loop-next.self c.loop-next.next c.in_default.is
    c.loop-next.invariant.so_far
