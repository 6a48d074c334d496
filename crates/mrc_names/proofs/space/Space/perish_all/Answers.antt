use Rattle.std.proofs.Common.{sym, subst}
use Rattle.mrc_names.specs.Bounds.{IsBounded}
use Rattle.mrc_names.proofs.BoundLaws.{bounded_altered}
use Rattle.mrc_names.proofs.space.Space.perish_all.Goals as goal

pub invariant_of-self : goal.invariant_of-self
invariant_of-self c =
    subst IsBounded (sym c.perish_all.ensures) (bounded_altered _ _ c.self.invariant)
