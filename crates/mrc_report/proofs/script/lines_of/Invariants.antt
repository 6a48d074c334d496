-- What was said so far, and what the rest says.
use Rattle.std.proofs.Common.{◌≡◌, ◌≤◌, ◌+◌, length}
use Rattle.mrc_base.specs.Limits.{limit_of_lines}
use Rattle.mrc_wiring_text.specs.Lexis.{lines}
use Rattle.mrc_wiring_text.specs.Reading.{body}
use Rattle.mrc_wiring_text.proofs.BodyLemmas.{with_front}
use Rattle.mrc_report.specs.Calls.{line_says}
use Rattle.mrc_report.specs.Scripts.{script_of}
use Rattle.mrc_report.proofs.script.lines_of.Given as goal

abbrev pub invariant-loop-rest : goal.invariant-loop-rest
invariant-loop-rest l = record {
  same : with_front l.said.items (body (line_says l.live l.wired.names) l.number (lines l.rest))
      ≡ script_of l.live l.wired.names l.text;
  within : l.number ≤ limit_of_lines + 1;
}

abbrev pub decreases-loop-rest : goal.decreases-loop-rest
decreases-loop-rest l = length l.rest
