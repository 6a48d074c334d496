-- What was added so far.
use Rattle.std.proofs.Common.{◌≡◌}
use Rattle.mrc_wide_policy.specs.Facts.{new_facts}
use Rattle.mrc_wide_policy.proofs.facts.new_facts.Given as goal

abbrev pub invariant-loop-fact : goal.invariant-loop-fact
invariant-loop-fact l =
    l.list ≡ new_facts l.waived l.yielded
