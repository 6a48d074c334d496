use Rattle.std.proofs.Common.{◌≡◌, ◌++◌}
use Rattle.mrc_model.specs.Breach.{space_holdings}
use Rattle.mrc_machine.specs.Holdings.{holdings_of}
use Rattle.mrc_machine.proofs.holding.push_space.Given as goal

-- the holdings so far and those of what is left are all
abbrev pub invariant-loop-held : goal.invariant-loop-held
invariant-loop-held l =
    holdings_of l.holdings.items ++ space_holdings l.task l.held-iterator
    ≡ holdings_of l.fn.holdings.items ++ space_holdings l.task l.initial.held-iterator
