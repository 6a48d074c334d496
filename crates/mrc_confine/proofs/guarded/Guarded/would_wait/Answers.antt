use Rattle.mrc_confine.specs.Guards.{wiring_in}
use Rattle.mrc_confine.proofs.guarded.Guarded.would_wait.Goals as goal

pub returns : goal.returns
returns c = record {
  exact = rw (← c.self.view_is) (c.would_wait.ensures.exact (wiring_in c.self.inside.confined));
}
