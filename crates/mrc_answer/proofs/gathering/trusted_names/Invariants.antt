-- The names so far, with those of the tasks that are left, are all.
use Rattle.std.proofs.Common.{◌≡◌, ◌++◌, drop, map, string_bytes}
use Rattle.mrc_answer.specs.Notices.{trusted_from, trusted_names}
use Rattle.mrc_answer.proofs.gathering.trusted_names.Given as goal

abbrev pub invariant-loop-task : goal.invariant-loop-task
invariant-loop-task l =
    map string_bytes l.names.items
    ++ trusted_from l.wired.trusts l.task (drop l.task l.wired.names)
    ≡ trusted_names l.wired
