use Rattle.std.proofs.Common.{◌≡◌, ◌+◌, ◌≤◌, ◌++◌, drop}
use Rattle.mrc_model.specs.FirstHoldings.{given_classes, line_classes}
use Rattle.mrc_wiring.specs.Table.{wiring_of, task_lines, port_lines}
use Rattle.mrc_wiring.proofs.holdings.first_classes.Given as goal

-- the classes so far and those of the lines that are left are all
abbrev pub invariant-loop-line : goal.invariant-loop-line
invariant-loop-line l = record {
  told : l.classes.items ++ line_classes (wiring_of l.table.table) l.tasks l.ports
      (drop l.line-index l.line-items)
      ≡ given_classes (wiring_of l.table.table);
  tasks : l.tasks + task_lines (drop l.line-index l.line-items) ≤ 64;
  ports : l.ports + port_lines (drop l.line-index l.line-items) ≤ 256;
}
