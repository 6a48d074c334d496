use Rattle.mrc_wiring.specs.Table.{wiring_of}
use Rattle.mrc_closure.proofs.Dealing.{dealt_fresh}
use Rattle.mrc_closure.proofs.barred.round_without.Goals as goal

pub merge-requires : goal.merge-requires
merge-requires c = λ g h.
    dealt_fresh (wiring_of c.args.rules.now) c.args.facts.now c.args.new.now 0 1
    c.in_ok-found.found c.in_ok-found.ensures g (c.bar.ensures.fewer g h)
