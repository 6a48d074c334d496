use Rattle.std.proofs.Common.{ap, sym, ◌∙◌, slice_set}
use Rattle.std.proofs.lemmas.List.Edits.{map_over_more}
use Rattle.mrc_ports.specs.Parcels.{perished_argument}
use Rattle.mrc_ports.proofs.parcel.perish_arguments.Goals as goal

pub loop-argument-preserved : goal.loop-argument-preserved
loop-argument-preserved c =
    ap (slice_set c.loop-argument.arguments c.loop-argument.argument-index)
    c.perish_argument.ensures
    ∙ ap (λ x. slice_set c.loop-argument.arguments c.loop-argument.argument-index
    (perished_argument c.args.dead.now x))
    (sym c.argument-item.is)
    ∙ map_over_more (perished_argument c.args.dead.now) c.args.arguments.now
    c.loop-argument.arguments
    c.loop-argument.argument-index c.argument-item.result c.loop-argument-test.true
    c.loop-argument.invariant
    c.argument-item.is
