use Rattle.std.proofs.Common.{◌<◌, below_more, arith}
use Rattle.mrc_classes.specs.Concluding.{rows}
use Rattle.mrc_classes.proofs.lacking.first_lack.Goals as goal

pub loop-row-preserved : goal.loop-row-preserved
loop-row-preserved c =
    let there : c.loop-row.row < rows c.args.search.now.wiring c.args.rule =
    omega (arith, c.rows-row-end.ensures, c.loop-row-test.true) in
    below_more _ _ c.loop-row.invariant (c.in_default.ensures.none there)
