use Rattle.mrc_wiring.specs.Table.{wiring_of}
use Rattle.mrc_model.specs.declared.Verb.TheVariants.{Sends}
use Rattle.mrc_model.specs.Wiring.{classes, may}
use Rattle.mrc_facts.specs.Sets.{has}
use Rattle.mrc_classes.specs.Marking.{is_marked}
use Rattle.mrc_classes.specs.Concluding.{is_taken_of}
use Rattle.mrc_classes.proofs.Marking.{marked_both, asked}
use Rattle.mrc_classes.proofs.rules.add_source.Goals as goal

pub returns-in-Slot : goal.returns-in-Slot
returns-in-Slot c =
    let W = wiring_of c.args.rules.now in
    rw c.in-Slot.is (marked_both (classes W) (is_marked c.args.out.now)
    (is_marked c.add_taken.new.out) (λ k r. may W Sends c.args.source r k)
    (is_taken_of W (has c.args.last.now) c.args.row c.args.source)
    (rw c.rules.view_is at c.add_taken.ensures))

pub returns-in-Request : goal.returns-in-Request
returns-in-Request c =
    let W = wiring_of c.args.rules.now in
    rw c.in-Request.is (asked (classes W) (is_marked c.args.out.now)
    (is_marked c.add_requests.new.out) W (has c.args.last.now) c.args.row c.args.source
    (rw c.rules.view_is at c.add_requests.ensures))
