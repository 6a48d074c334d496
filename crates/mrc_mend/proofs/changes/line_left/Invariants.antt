-- What is left so far, changed by the rest, is what all changes leave.
use Rattle.std.proofs.Common.{◌≡◌, drop}
use Rattle.std.specs.Prelude.{fold}
use Rattle.mrc_mend.specs.Mending.{changed_line}
use Rattle.mrc_mend.proofs.changes.line_left.Given as goal

abbrev pub invariant-loop-change : goal.invariant-loop-change
invariant-loop-change l =
    fold (changed_line l.number) l.left (drop l.change-index l.changes)
    ≡ fold (changed_line l.number) l.line l.changes
