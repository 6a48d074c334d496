use Rattle.std.proofs.Common.{◌≡◌, ◌<◌, ℕ, false}
use Rattle.mrc_facts.specs.Sets.{has}
use Rattle.mrc_wiring.specs.Table.{wiring_of}
use Rattle.mrc_check.specs.Trusted.{may_rewrite}
use Rattle.mrc_check.proofs.trusted.first_rewriter.Given as goal

-- no task before this one may rewrite the task
abbrev pub invariant-loop-by : goal.invariant-loop-by
invariant-loop-by l =
    (l.by-end ≡ (wiring_of l.wired).tasks)
    × ((v : ℕ) → v < l.by → may_rewrite (wiring_of l.wired) (has l.facts) l.task v ≡ false)
