use Rattle.std.proofs.Common.{◌≡◌, ◌+◌, ◌≤◌, ◌++◌, drop}
use Rattle.mrc_model.specs.FirstHoldings.{facts_by, line_holdings, given_holdings}
use Rattle.mrc_wiring.specs.Table.{wiring_of, task_lines, AreEarlier}
use Rattle.mrc_wiring.proofs.wired.Wired.line_holds.Given as goal

-- the holds so far and those of the lines that are left are all
abbrev pub invariant-loop-line : goal.invariant-loop-line
invariant-loop-line l = record {
  told : l.holds.items ++ facts_by l.classes (line_holdings l.tasks l.births (drop l.line-index
      l.line-items))
      ≡ facts_by l.classes (given_holdings (wiring_of l.self));
  tasks : l.tasks + task_lines (drop l.line-index l.line-items) ≤ 64;
  earlier : AreEarlier l.tasks l.births (drop l.line-index l.line-items);
  births : l.births ≤ l.line-index;
}
