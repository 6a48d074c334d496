use Rattle.std.proofs.Common.{◌++◌, ◌∙◌, ap}
use Rattle.mrc_certificate.specs.Spelling.{facts_bytes}
use Rattle.mrc_certificate.proofs.Runs.{bytes_more}
use Rattle.mrc_certificate.proofs.writing.put_facts.Goals as goal

pub loop-fact-init : goal.loop-fact-init
loop-fact-init c = (
  tt,
  tt,
  ap (λ fs. c.args.out.now.items ++ facts_bytes fs)
      (c.into_iter-fact-iterator.ensures.into_iter_gives ∙ c.iter-fact-items.ensures.exact),
)

pub loop-fact-preserved : goal.loop-fact-preserved
loop-fact-preserved c = (
  tt,
  tt,
  bytes_more c.loop-fact.out.items c.put_fact.new.out.items
      (c.args.out.now.items ++ facts_bytes c.args.facts.now) c.loop-fact.fact-iterator
      c.next.new.self c.in-Some.fact c.in-Some.ensures.steps c.in_ok-put_fact.ensures
      c.loop-fact.invariant.2,
)
