use Rattle.std.proofs.Common.{◌≡◌, ◌++◌, map, take, string_bytes}
use Rattle.mrc_mend.specs.Texts.{restricting_line}
use Rattle.mrc_mend.proofs.printing.add_restricting.Given as goal

abbrev pub invariant-loop-line : goal.invariant-loop-line
invariant-loop-line l =
    map string_bytes l.told.items ≡ map string_bytes l.initial.told.items
    ++ map (restricting_line l.restriction) (map string_bytes (take l.line-index l.line-items))
