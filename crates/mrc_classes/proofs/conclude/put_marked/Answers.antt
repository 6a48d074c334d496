use Rattle.mrc_wiring.specs.Table.{wiring_of}
use Rattle.mrc_facts.specs.Sets.{has}
use Rattle.mrc_classes.proofs.Putting.{put_all}
use Rattle.mrc_classes.proofs.conclude.put_marked.Goals as goal

pub returns : goal.returns
returns c =
    put_all (wiring_of c.args.rules.now) c.args.rule c.args.row c.args.marks.now
    (has c.args.found.now) (has c.put_right.new.found) (has c.put_right-2.new.found)
    (has c.put_right-3.new.found) c.in_ok-put_right.ensures c.in_ok-put_right-2.ensures
    c.in_ok-put_right-3.ensures
