use Rattle.std.proofs.Common.{◌≡◌}
use Rattle.mrc_why.specs.Trees.{turns, at_first}
use Rattle.mrc_why.proofs.trees.tree_lines.Given as goal

-- so many turns so far
abbrev pub invariant-loop : goal.invariant-loop
invariant-loop l = l.telling ≡ turns l.steps l.counter (at_first l.steps)
