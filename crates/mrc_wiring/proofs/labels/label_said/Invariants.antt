use Rattle.std.proofs.Common.{◌≡◌, ◌++◌, drop, Ok}
use Rattle.mrc_base.specs.Reading.{◌>>=◌}
use Rattle.mrc_wiring.specs.Labels.{label_said}
use Rattle.mrc_wiring.proofs.labels.label_said.Given as goal

-- the items so far and what is left are what all items mean
abbrev pub invariant-loop-item : goal.invariant-loop-item
invariant-loop-item l =
    label_said l.interfaces l.line l.accepts ≡ (label_said l.interfaces l.line
    (drop l.item-index l.item-items) >>= λ others. Ok (l.items.items ++ others))
