use Rattle.std.proofs.Common.{◌≡◌, drop}
use Rattle.mrc_model.specs.First.{built, add_lines}
use Rattle.mrc_wiring.specs.Table.{wiring_of}
use Rattle.mrc_machine.proofs.first.built.Given as goal

-- what is left, added to the state so far, is the first state
abbrev pub invariant-loop-line : goal.invariant-loop-line
invariant-loop-line l =
    built (wiring_of l.wired)
    ≡ add_lines (wiring_of l.wired) l.start (drop l.line-index l.line-items)
