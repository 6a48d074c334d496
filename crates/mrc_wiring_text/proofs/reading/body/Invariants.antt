-- What was said so far, and what the rest says.
use Rattle.std.proofs.Common.{◌≡◌, ◌≤◌, ◌+◌, length}
use Rattle.mrc_base.specs.Limits.{limit_of_lines}
use Rattle.mrc_wiring_text.specs.Lexis.{lines}
use Rattle.mrc_wiring_text.specs.Reading.{body}
use Rattle.mrc_wiring_text.proofs.BodyLemmas.{with_front}
use Rattle.mrc_wiring_text.proofs.reading.body.Given as goal

abbrev pub invariant-loop-rest : goal.invariant-loop-rest
invariant-loop-rest g l =
    let meaning = g.S.Statement.meaning l.edition in
    record {
      same : with_front l.said.items (body meaning l.number (lines l.rest)) ≡ body meaning l.first
          (lines l.text);
      within : l.number ≤ limit_of_lines + 1;
    }

abbrev pub decreases-loop-rest : goal.decreases-loop-rest
decreases-loop-rest g l = length l.rest
