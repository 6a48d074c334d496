use Rattle.std.proofs.Common.{◌≡◌, ◌++◌, [], map, take, flat_map, string_bytes}
use Rattle.mrc_mend.specs.Texts.{numbered_line}
use Rattle.mrc_mend.proofs.printing.add_lines.Given as goal

abbrev pub invariant-loop-line : goal.invariant-loop-line
invariant-loop-line l =
    string_bytes l.text ≡ string_bytes l.initial.text
    ++ flat_map (numbered_line l.number []) (map string_bytes (take l.line-index l.lines))
