use Rattle.std.proofs.Common.{◌≡◌, drop}
use Rattle.mrc_wiring.specs.Resolving.{has_twice}
use Rattle.mrc_wiring.proofs.resolving.has_twice.Given as goal

-- none so far has the name of another
abbrev pub invariant-loop-number : goal.invariant-loop-number
invariant-loop-number l = has_twice l.interfaces ≡ has_twice (drop l.number l.interfaces)
