use Rattle.mrc_wiring.specs.Table.{wiring_of}
use Rattle.mrc_closure.proofs.Dealing.{first_fresh}
use Rattle.mrc_closure.proofs.workers.next_round_by.Goals as goal

pub merge-requires : goal.merge-requires
merge-requires g c =
    first_fresh (wiring_of c.args.rules.now) c.args.facts.now c.args.new.now c.args.workers
    c.args.workers c.in_ok-found.found c.in_ok-found.ensures
