use Rattle.std.proofs.Common.{◌+◌, List, arith, subst, sym}
use Rattle.mrc_base.specs.declared.Fact.{Fact}
use Rattle.mrc_rows.specs.Rows.{Shows}
use Rattle.mrc_rows.specs.Joining.{ShowJoined}
use Rattle.mrc_rows.proofs.Rows.{few_shown}
use Rattle.mrc_rows.proofs.Kept.{all_joined}
use Rattle.mrc_rows.proofs.row_facts.set_both.Goals as goal

joined : (c : goal.After-join_in_row) (facts : List Fact)
    → Shows c.args.rows.now.items c.args.shown facts
    → ShowJoined c.args.row c.args.more.now c.args.mask.now facts c.join_in_row.new.rows.items
    (c.args.shown + c.join_in_row.result)
joined c facts shows =
    subst (λ n. ShowJoined c.args.row c.args.more.now c.args.mask.now facts
    c.join_in_row.new.rows.items (c.args.shown + n)) (sym c.join_in_row.ensures.fresh)
    (all_joined c.args.row c.args.more.now c.args.mask.now facts c.args.rows.now.items c.args.shown
    c.requires.row shows c.join_in_row.new.rows.items c.requires.room c.join_in_row.ensures.joined)

pub overflow_add-result : goal.overflow_add-result
overflow_add-result c =
    let all = joined c c.requires.shown.0 c.requires.shown.1 in
    let few = few_shown c.join_in_row.new.rows.items (c.args.shown + c.join_in_row.result)
    all.joined all.shows in
    omega (arith, few)

pub returns : goal.returns
returns c = joined c
