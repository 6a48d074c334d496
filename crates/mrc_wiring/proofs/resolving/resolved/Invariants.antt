use Rattle.std.proofs.Common.{◌≡◌, drop}
use Rattle.mrc_wiring.specs.State.{IsState}
use Rattle.mrc_wiring.specs.Resolving.{resolved, add_lines}
use Rattle.mrc_wiring.proofs.resolving.resolved.Given as goal

-- what is left, added to the table so far, is what all lines mean
abbrev pub invariant-loop-line : goal.invariant-loop-line
invariant-loop-line l = record {
  told : resolved l.fn.edition l.fn.interfaces l.lines ≡ add_lines l.resolving.table (drop l.line-index
      l.lines);
  state : IsState l.resolving;
  same : l.resolving.table.interfaces ≡ l.fn.interfaces;
}
