use Rattle.std.proofs.Common.{◌<◌, ◌^◌, sym, ap, ◌∙◌, subst, arith}
use Rattle.mrc_model.specs.Space.{is_full}
use Rattle.mrc_names.specs.Bounds.{IsBounded}
use Rattle.mrc_names.proofs.BoundLaws.{bounded_new}
use Rattle.mrc_names.proofs.space.Space.put.Goals as goal

pub invariant_of-self-2 : goal.invariant_of-self-2
invariant_of-self-2 c =
    let room = ap is_full c.self.view_is ∙ c.requires.room in
    let short : c.args.name < 2 ^ 32 = omega (arith, c.ranges.name.fits) in
    subst IsBounded (sym c.in_ok-put.ensures.ok)
    (bounded_new _ c.args.name c.args.entry c.self.invariant room short)
