-- Those of the lines so far.
use Rattle.std.proofs.Common.{◌≡◌, take, map}
use Rattle.std.specs.Prelude.{filter}
use Rattle.mrc_wide_policy.specs.Asked.{waiver_number}
use Rattle.mrc_answer.specs.Notices.{is_idle}
use Rattle.mrc_answer.proofs.demands.idle_lines.Given as goal

abbrev pub invariant-loop-line : goal.invariant-loop-line
invariant-loop-line l =
    l.idle.items ≡ map waiver_number (filter (is_idle l.told) (take l.line-index l.lines))
