use Rattle.std.proofs.Common.{◌++◌, ◌∙◌, ap}
use Rattle.mrc_closure.proofs.Cuts.{left_more, left_none}
use Rattle.mrc_closure.proofs.chains.list_all.Goals as goal

pub loop-fact-init : goal.loop-fact-init
loop-fact-init c = (
  tt,
  tt,
  ap (λ fs. c.args.list.now.items ++ fs)
      (c.into_iter-fact-iterator.ensures.into_iter_gives ∙ c.iter-fact-items.ensures.exact),
)

pub loop-fact-preserved : goal.loop-fact-preserved
loop-fact-preserved c = (
  tt,
  tt,
  left_more c.loop-fact.list.items c.push.new.self.items
      (c.args.list.now.items ++ c.args.facts.now) c.loop-fact.fact-iterator c.next.new.self
      c.in-Some.fact c.in-Some.ensures.steps c.in_ok-push.ensures.items c.loop-fact.invariant.2,
)

pub returns-clause-listed : goal.returns-clause-listed
returns-clause-listed c =
    left_none c.loop-fact.list.items (c.args.list.now.items ++ c.args.facts.now)
    c.loop-fact.fact-iterator c.in-None.ensures.steps.0 c.loop-fact.invariant.2
