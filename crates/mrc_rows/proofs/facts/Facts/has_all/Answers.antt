use Rattle.std.proofs.Common.{sym, ◌∙◌}
use Rattle.mrc_rows.proofs.Wholes.{all_had, none_had, one_had, not_had}
use Rattle.mrc_rows.proofs.facts.Facts.has_all.Goals as goal

pub loop-fact-init : goal.loop-fact-init
loop-fact-init c = (
  tt,
  tt,
  none_had c.args.other.now c.args.self.now c.into_iter-fact-iterator.result
      (c.into_iter-fact-iterator.ensures.into_iter_gives ∙ c.iter-fact-items.ensures.exact),
)

pub loop-fact-preserved : goal.loop-fact-preserved
loop-fact-preserved c = (
  tt,
  tt,
  one_had c.args.other.now c.args.self.now c.loop-fact.fact-iterator c.next.new.self
      c.in-Some.fact c.in-Some.ensures.steps (sym c.has.ensures ∙ c.if-not-has.false)
      c.loop-fact.invariant.2,
)

pub returns-then-not-has-clause-exact : goal.returns-then-not-has-clause-exact
returns-then-not-has-clause-exact c =
    not_had c.args.other.now c.args.self.now c.loop-fact.fact-iterator c.next.new.self
    c.in-Some.fact c.in-Some.ensures.steps (sym c.has.ensures ∙ c.if-not-has.true)
    c.loop-fact.invariant.2

pub returns-clause-exact : goal.returns-clause-exact
returns-clause-exact c =
    all_had c.args.other.now c.args.self.now c.loop-fact.fact-iterator c.in-None.ensures.steps.0
    c.loop-fact.invariant.2
