-- What was added so far.
use Rattle.std.proofs.Common.{◌≡◌, take, []}
use Rattle.mrc_stand_for.specs.Once.{with_each, same_right}
use Rattle.mrc_wide_policy.proofs.facts.rights_once.Given as goal

abbrev pub invariant-loop-right : goal.invariant-loop-right
invariant-loop-right l =
    l.list ≡ with_each same_right [] (take l.right-index l.rights)
