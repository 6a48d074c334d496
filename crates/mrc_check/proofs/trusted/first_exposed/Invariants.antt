use Rattle.std.proofs.Common.{◌≡◌, take}
use Rattle.mrc_facts.specs.Sets.{has}
use Rattle.mrc_wiring.specs.Table.{wiring_of}
use Rattle.mrc_check.specs.Trusted.{AreSecure}
use Rattle.mrc_check.proofs.trusted.first_exposed.Given as goal

-- no line before this one has a task that another may rewrite
abbrev pub invariant-loop-line : goal.invariant-loop-line
invariant-loop-line l = record {
  lines : l.line-items ≡ l.wired.trusts;
  secure : AreSecure (wiring_of l.wired) (has l.facts) (take l.line-index l.line-items);
}
