use Rattle.std.proofs.Common.{rules, of_calls}
use Rattle.std.proofs.lemmas.Fn.{always_returns_same}
use Rattle.mrc_wiring.specs.Births.{comes_before}
use Rattle.mrc_wiring.proofs.RowPlaces.{rows_parted, row_place}
use Rattle.mrc_wiring.proofs.births.place_of.Goals as goal

-- the rows that come before end at the place
pub returns-clause-exact : goal.returns-clause-exact
returns-clause-exact c =
    let bound = c.partition_point.ensures.bound in
    let parted = rows_parted c.args.task c.args.kind c.args.rows.now c.requires in
    let computes = c.partition_point.ensures.partitioned (comes_before c.args.task c.args.kind)
    (always_returns_same _ _ _ (λ a r f k. search (rules, of_calls))) parted in
    row_place c.args.task c.args.kind c.args.rows.now c.partition_point.result bound computes
