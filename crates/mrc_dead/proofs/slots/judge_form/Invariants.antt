use Rattle.std.proofs.Common.{◌≡◌, ◌++◌, drop}
use Rattle.mrc_dead.specs.Dead.{dead_from}
use Rattle.mrc_dead.specs.Searching.{wanted}
use Rattle.mrc_dead.proofs.slots.judge_form.Given as goal

-- those so far and those of the arguments that are left are all
abbrev pub invariant-loop-place : goal.invariant-loop-place
invariant-loop-place l =
    (l.argument-items ≡ l.form.arguments)
    × (l.dead.items
    ++ dead_from (wanted l.search) l.kind l.form l.place (drop l.place l.argument-items)
    ≡ l.initial.dead.items ++ dead_from (wanted l.search) l.kind l.form 0 l.form.arguments)
