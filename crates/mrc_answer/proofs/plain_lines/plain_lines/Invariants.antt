use Rattle.std.proofs.Common.{◌≡◌, ◌++◌, ◌+◌, ◌≤◌, length}
use Rattle.mrc_wiring_text.specs.Lexis.{lines}
use Rattle.mrc_answer.specs.PlainLines.{plain_from, plain_lines}
use Rattle.mrc_answer.proofs.plain_lines.plain_lines.Given as goal

-- what was found, and what is left; no line is empty of bytes but for its line feed
abbrev pub invariant-loop-rest : goal.invariant-loop-rest
invariant-loop-rest l = record {
  same : l.plain.items ++ plain_from l.wired l.number (lines l.rest) ≡ plain_lines l.wired l.policy;
  within : l.number + length l.rest ≤ length l.policy + 1;
}

abbrev pub decreases-loop-rest : goal.decreases-loop-rest
decreases-loop-rest l = length l.rest
