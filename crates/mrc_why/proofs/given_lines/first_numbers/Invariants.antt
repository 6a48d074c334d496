use Rattle.std.proofs.Common.{◌≡◌, ◌++◌, drop}
use Rattle.mrc_why.specs.Lines.{first_numbers}
use Rattle.mrc_why.proofs.given_lines.first_numbers.Given as goal

-- the numbers so far and those of the lines that are left are all
abbrev pub invariant-loop-line : goal.invariant-loop-line
invariant-loop-line l =
    l.numbers.items ++ first_numbers (drop l.line-index l.lines) ≡ first_numbers l.lines
