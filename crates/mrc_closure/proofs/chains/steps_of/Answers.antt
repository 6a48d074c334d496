use Rattle.std.proofs.Common.{sym, ◌∙◌}
use Rattle.mrc_closure.proofs.Placing.{placing_gone_on, placing_done, empty_of}
use Rattle.mrc_closure.proofs.chains.steps_of.Goals as goal

pub loop-link-preserved : goal.loop-link-preserved
loop-link-preserved c =
    λ W f d. placing_gone_on W f c.loop-link.left.items c.pop.new.self.items c.in-Some.link
    c.loop-link.steps.items c.add_step.new.steps.items (c.loop-link.invariant W f d)
    c.in-Some.ensures.items c.in_ok-add_step.ensures

pub returns : goal.returns
returns c =
    λ W f d. placing_done W f c.loop-link.left.items c.loop-link.steps.items
    (c.loop-link.invariant W f d)
    (empty_of c.loop-link.left.items (sym c.loop-link.left.ok.0 ∙ c.in_default.ensures.cases.0))
