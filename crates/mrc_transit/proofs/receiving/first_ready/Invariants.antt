use Rattle.std.proofs.Common.{◌≡◌}
use Rattle.mrc_model.specs.CallReceive.{first_ready}
use Rattle.mrc_transit.proofs.receiving.first_ready.Given as goal

abbrev pub invariant-loop-held : goal.invariant-loop-held
invariant-loop-held l =
    first_ready l.store l.set l.initial.held-iterator ≡ first_ready l.store l.set l.held-iterator
