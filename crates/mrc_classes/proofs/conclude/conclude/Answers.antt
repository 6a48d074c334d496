use Rattle.mrc_wiring.specs.Table.{wiring_of}
use Rattle.mrc_facts.specs.Sets.{has}
use Rattle.mrc_classes.specs.Places.{AtPlace}
use Rattle.mrc_classes.proofs.Adding.{below_more}
use Rattle.mrc_classes.proofs.conclude.conclude.Goals as goal

pub loop-place-preserved : goal.loop-place-preserved
loop-place-preserved c =
    below_more c.loop-place.place (AtPlace (wiring_of c.args.rules.now) (has c.args.all.now)
    (has c.args.new.now) (has c.args.known.now)) c.loop-place.invariant c.in_ok-conclude_at.ensures
