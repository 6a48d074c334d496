-- What was added so far.
use Rattle.std.proofs.Common.{◌≡◌, take, map}
use Rattle.mrc_wide_policy.specs.Asked.{older_line}
use Rattle.mrc_wide_policy.proofs.asked.older_stands.Given as goal

abbrev pub invariant-loop-line : goal.invariant-loop-line
invariant-loop-line l =
    l.stood ≡ map (older_line l.known) (take l.line-index l.lines)
