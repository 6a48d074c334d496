use Rattle.std.proofs.Common.{◌≡◌, ◌++◌, drop}
use Rattle.mrc_model.specs.Breach.{spaces_holdings}
use Rattle.mrc_machine.specs.Holdings.{holdings_of, AreShort}
use Rattle.mrc_machine.proofs.holding.spaces_holdings.Given as goal

-- the holdings so far and those of what is left are all
abbrev pub invariant-loop-space : goal.invariant-loop-space
invariant-loop-space l = record {
  told : holdings_of l.holdings.items ++ spaces_holdings (drop l.space-index l.spaces)
      ≡ holdings_of l.fn.holdings.items ++ spaces_holdings l.spaces;
  short : AreShort (drop l.space-index l.spaces);
}
