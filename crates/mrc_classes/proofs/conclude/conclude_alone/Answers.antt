use Rattle.mrc_wiring.specs.Table.{wiring_of}
use Rattle.mrc_facts.specs.Sets.{has}
use Rattle.mrc_classes.specs.Marking.{is_marked}
use Rattle.mrc_classes.proofs.Putting.{put_alone}
use Rattle.mrc_classes.proofs.conclude.conclude_alone.Goals as goal

pub returns : goal.returns
returns c =
    put_alone (wiring_of c.args.rules.now) c.args.rule c.args.row _
    (is_marked c.none-marks.result) (is_marked c.row_of.new.out) (has c.args.found.now)
    (has c.put_marked.new.found) c.none-marks.ensures c.row_of.ensures
    c.in_ok-put_marked.ensures
