use Rattle.std.proofs.Common.{◌≡◌, ◌++◌, map, take, string_bytes}
use Rattle.mrc_mend.specs.Mending.{class_line}
use Rattle.mrc_mend.proofs.changes.add_class_lines.Given as goal

abbrev pub invariant-loop-class : goal.invariant-loop-class
invariant-loop-class l =
    map string_bytes l.added.items ≡ map string_bytes l.initial.added.items
    ++ map (class_line l.restriction) (take l.class-index l.restriction.classes.items)
