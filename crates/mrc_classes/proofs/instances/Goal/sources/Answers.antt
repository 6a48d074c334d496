use Rattle.std.proofs.Common.{subst, sym}
use Rattle.mrc_classes.specs.Instances.{IsSource}
use Rattle.mrc_classes.proofs.instances.Goal.sources.Goals as goal

pub returns-clause-all : goal.returns-clause-all
returns-clause-all c = λ S T n x.
    let y = subst (λ g. IsSource S T g n) (sym c.self.view_is) x in
    c.sources_of.ensures T c.self.inside.row n y.there y.last
