use Rattle.std.proofs.Common.{◌↔◌, subst}
use Rattle.mrc_classes.specs.Instances.{HavePremises, IsSource}
use Rattle.mrc_classes.proofs.instances.Goal.candidates.Goals as goal

pub returns-clause-premises : goal.returns-clause-premises
returns-clause-premises c = λ S T.
    let there = rw (c.sources.ensures, c.wired.ensures) at c.if-source-sources.false in
    let h = c.candidates_of.ensures.premises S T in
    subst (λ g. HavePremises S T c.candidates_of.result ↔ IsSource S T g c.args.source)
    c.self.view_is (
      λ x. let y = h.0 x in record { there = there; first = y.0; last = y.1 },
      λ x. h.1 (x.first, x.last),
    )
