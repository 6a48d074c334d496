use Rattle.std.proofs.Common.{IsTrue, subst, sym, ◌∙◌}
use Rattle.mrc_facts.specs.Sets.{has}
use Rattle.mrc_classes.specs.Concluding.{leads}
use Rattle.mrc_classes.specs.Instances.{IsSource}
use Rattle.mrc_classes.proofs.instances.Goal.leads.Goals as goal

pub returns-clause-only : goal.returns-clause-only
returns-clause-only c = λ h.
    subst (λ g. IsTrue (leads g.wiring (has c.args.facts.now) g.rule g.row c.args.source))
    c.self.view_is (sym c.leads.ensures ∙ h)

pub returns-clause-all : goal.returns-clause-all
returns-clause-all c = λ T x.
    let y = subst (λ g. IsSource (has c.args.facts.now) T g c.args.source) (sym c.self.view_is) x in
    c.leads.ensures ∙ y.first
