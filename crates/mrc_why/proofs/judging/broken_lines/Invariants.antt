use Rattle.std.proofs.Common.{◌≡◌, map, take}
use Rattle.std.specs.List.{All}
use Rattle.mrc_facts.specs.Sets.{has}
use Rattle.mrc_why.specs.Broken.{line_of, broken_lines, IsDerivedIn}
use Rattle.mrc_why.proofs.judging.broken_lines.Given as goal

-- of the lines so far those that are broken are told
abbrev pub invariant-loop-line : goal.invariant-loop-line
invariant-loop-line l = record {
  kept : l.derivations ≡ l.initial.derivations;
  lines : map line_of l.broken.items
      ≡ broken_lines (has l.initial.derivations.facts) (take l.line-index l.lines);
  chains : All (IsDerivedIn l.initial.derivations.table) l.broken.items;
}
