use Rattle.std.proofs.Common.{sym, subst}
use Rattle.mrc_names.specs.Bounds.{IsBounded}
use Rattle.mrc_names.proofs.BoundLaws.{bounded_less, bounded_altered}
use Rattle.mrc_names.proofs.space.Space.remove.Goals as goal

pub invariant_of-self : goal.invariant_of-self
invariant_of-self c =
    subst IsBounded (sym c.let_go.ensures) (bounded_altered _ _
    (subst IsBounded (sym c.remove.ensures.removed) (bounded_less _ c.args.name c.self.invariant)))

pub invariant_of-self-else-is_set : goal.invariant_of-self-else-is_set
invariant_of-self-else-is_set c =
    subst IsBounded (sym c.remove.ensures.removed) (bounded_less _ c.args.name c.self.invariant)
