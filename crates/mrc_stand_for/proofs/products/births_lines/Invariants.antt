-- What was added so far.
use Rattle.std.proofs.Common.{◌≡◌, take, map}
use Rattle.mrc_wiring_text.specs.declared.wiring.WiringSays.TheVariants.{Births}
use Rattle.mrc_stand_for.proofs.products.births_lines.Given as goal

abbrev pub invariant-loop-task : goal.invariant-loop-task
invariant-loop-task l =
    l.lines ≡ map (λ task. Births task l.kind l.accepts) (take l.task-index l.tasks)
