use Rattle.std.proofs.Common.{◌≡◌, take}
use Rattle.std.specs.List.{flat_map}
use Rattle.mrc_dead.specs.Dead.{idle_line}
use Rattle.mrc_dead.proofs.subjects.idle_lines.Given as goal

-- those of the lines so far
abbrev pub invariant-loop-line : goal.invariant-loop-line
invariant-loop-line l =
    l.idle.items ≡ flat_map (idle_line l.named) (take l.line-index l.lines)
