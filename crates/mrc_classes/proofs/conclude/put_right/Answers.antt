use Rattle.mrc_wiring.specs.Table.{wiring_of}
use Rattle.mrc_facts.specs.Sets.{has}
use Rattle.mrc_classes.proofs.Putting.{put_there}
use Rattle.mrc_classes.proofs.conclude.put_right.Goals as goal

pub returns : goal.returns
returns c =
    put_there (wiring_of c.args.rules.now) c.args.rule c.args.row c.args.marks.now c.args.right
    c.row_with.result c.words.result.now c.all.result.now (has c.args.found.now)
    (has c.join.new.self) c.row_with.ensures.all c.row_with.ensures.only c.words.ensures
    c.all.ensures.shown c.in_ok-join.ensures.ok
