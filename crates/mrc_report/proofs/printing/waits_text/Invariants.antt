-- The numbers so far.
use Rattle.std.proofs.Common.{◌≡◌, ◌++◌, string_bytes, flat_map, codes, decimal, take}
use Rattle.mrc_report.proofs.printing.waits_text.Given as goal

abbrev pub invariant-loop-line : goal.invariant-loop-line
invariant-loop-line l =
    string_bytes l.text
    ≡ codes "AllWait" ++ flat_map (λ line. codes " " ++ decimal line) (take l.line-index l.lines)
