use Rattle.std.proofs.Common.{sym, ap, ◌∙◌}
use Rattle.std.specs.List.{list_all}
use Rattle.mrc_certificate.specs.Drafts.{is_within}
use Rattle.mrc_certificate.proofs.Runs.{passes, fails}
use Rattle.mrc_certificate.proofs.draft.are_within.Goals as goal

pub loop-fact-init : goal.loop-fact-init
loop-fact-init c = (
  tt,
  tt,
  ap (list_all (is_within c.args.tasks c.args.classes))
      (sym (c.into_iter-fact-iterator.ensures.into_iter_gives ∙ c.iter-fact-items.ensures.exact)),
)

pub loop-fact-preserved : goal.loop-fact-preserved
loop-fact-preserved c = (
  tt,
  tt,
  passes (is_within c.args.tasks c.args.classes) c.args.facts.now c.loop-fact.fact-iterator
      c.next.new.self c.in-Some.fact c.in-Some.ensures.steps
      (sym c.is_within.ensures ∙ c.if-not-is_within.false) c.loop-fact.invariant.2,
)

pub returns-then-not-is_within : goal.returns-then-not-is_within
returns-then-not-is_within c =
    fails (is_within c.args.tasks c.args.classes) c.args.facts.now c.loop-fact.fact-iterator
    c.next.new.self c.in-Some.fact c.in-Some.ensures.steps
    (sym c.is_within.ensures ∙ c.if-not-is_within.true) c.loop-fact.invariant.2
