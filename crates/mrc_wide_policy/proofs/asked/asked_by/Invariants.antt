-- What was added so far.
use Rattle.std.proofs.Common.{◌≡◌, take}
use Rattle.std.specs.List.{flat_map}
use Rattle.mrc_wide_policy.specs.Asked.{line_asks}
use Rattle.mrc_wide_policy.proofs.asked.asked_by.Given as goal

abbrev pub invariant-loop-line : goal.invariant-loop-line
invariant-loop-line l =
    l.asked.items ≡ flat_map (line_asks l.stands.waived) (take l.line-index l.stands.lines)
