use Rattle.std.proofs.Common.{◌≡◌, ◌++◌, map, take, flat_map, string_bytes}
use Rattle.mrc_mend.specs.Mending.{ended}
use Rattle.mrc_mend.proofs.changes.add_lines.Given as goal

abbrev pub invariant-loop-line : goal.invariant-loop-line
invariant-loop-line l =
    l.text.items ≡ l.initial.text.items
    ++ flat_map ended (map string_bytes (take l.line-index l.line-items))
