use Rattle.std.proofs.Common.{◌≡◌, ◌+◌, ◌≤◌, ◌++◌, drop, map}
use Rattle.mrc_model.specs.FirstHoldings.{line_holdings, given_holdings}
use Rattle.mrc_wiring.specs.Table.{wiring_of, task_lines, AreEarlier}
use Rattle.mrc_why.specs.Lines.{holding_of}
use Rattle.mrc_why.proofs.given_lines.given_of.Given as goal

-- what is given so far and what the lines that are left give are all
abbrev pub invariant-loop-line : goal.invariant-loop-line
invariant-loop-line l = record {
  told : map holding_of l.given.items ++ line_holdings l.tasks l.births (drop l.line-index
      l.line-items)
      ≡ given_holdings (wiring_of l.wired);
  tasks : l.tasks + task_lines (drop l.line-index l.line-items) ≤ 64;
  earlier : AreEarlier l.tasks l.births (drop l.line-index l.line-items);
  births : l.births ≤ l.line-index;
}
