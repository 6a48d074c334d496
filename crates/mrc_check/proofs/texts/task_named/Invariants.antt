use Rattle.std.proofs.Common.{◌≡◌, drop, slice_get}
use Rattle.mrc_wiring.specs.Resolving.{task_names}
use Rattle.mrc_check.proofs.texts.task_named.Given as goal

-- the name is that at this place among those of the lines that are left
abbrev pub invariant-loop-line : goal.invariant-loop-line
invariant-loop-line l =
    slice_get (task_names (drop l.line-index l.lines)) l.left
    ≡ slice_get (task_names l.lines) l.fn.number
