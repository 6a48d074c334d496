use Rattle.std.proofs.Common.{◌≡◌, ◌++◌, take, flat_map}
use Rattle.mrc_wiring_text.specs.Lexis.{lines}
use Rattle.mrc_mend.specs.Mending.{ended, all_added, lines_left}
use Rattle.mrc_mend.proofs.changes.mended.Given as goal

abbrev pub invariant-loop-change : goal.invariant-loop-change
invariant-loop-change l =
    l.text.items ≡ lines_left l.changes 1 (lines l.wiring)
    ++ flat_map ended (all_added (take l.change-index l.changes))
