-- What was added so far.
use Rattle.std.proofs.Common.{◌≡◌, take, map}
use Rattle.mrc_wiring_text.specs.declared.wiring.WiringSays.TheVariants.{Task}
use Rattle.mrc_stand_for.proofs.products.task_lines.Given as goal

abbrev pub invariant-loop-name : goal.invariant-loop-name
invariant-loop-name l =
    l.lines ≡ map Task (take l.name-index l.names)
