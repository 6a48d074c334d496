use Rattle.std.proofs.Common.{◌<◌, ◌≤◌, arith}
use Rattle.mrc_wiring.specs.Table.{wiring_of}
use Rattle.mrc_facts.specs.Sets.{has}
use Rattle.mrc_classes.specs.Marking.{is_marked}
use Rattle.mrc_classes.specs.Concluding.{rows}
use Rattle.mrc_classes.proofs.Putting.{put_new, no_row, idle_row}
use Rattle.mrc_classes.proofs.conclude.conclude_rule.Goals as goal

pub returns-then-row-rows : goal.returns-then-row-rows
returns-then-row-rows c =
    let e = rw c.wired.ensures at c.rows.ensures in
    let past : rows (wiring_of c.args.rules.now) c.args.rule ≤ c.args.row = omega arith in
    no_row (wiring_of c.args.rules.now) (has c.args.all.now) (has c.args.new.now)
    (has c.args.known.now) c.args.rule c.args.row (has c.args.found.now) past

pub returns : goal.returns
returns c =
    let e = rw c.wired.ensures at c.rows.ensures in
    let there : c.args.row < rows (wiring_of c.args.rules.now) c.args.rule = omega arith in
    put_new (wiring_of c.args.rules.now) (has c.args.all.now) (has c.args.new.now)
    (has c.args.known.now) c.args.rule c.args.row (is_marked c.none-marks.result)
    (is_marked c.new_row_of.new.out) (is_marked c.forget_known.new.marks) (has c.args.found.now)
    (has c.put_marked.new.found) there c.none-marks.ensures c.new_row_of.ensures
    c.forget_known.ensures c.in_ok-put_marked.ensures

pub returns-then-is_idle : goal.returns-then-is_idle
returns-then-is_idle c =
    idle_row (wiring_of c.args.rules.now) (has c.args.all.now) (has c.args.new.now)
    (has c.args.known.now) c.args.rule c.args.row (has c.args.found.now)
    (c.is_idle.ensures c.if-is_idle.true (has c.args.all.now) c.args.row)
