use Rattle.mrc_wiring.specs.Table.{wiring_of}
use Rattle.mrc_model.specs.Wiring.{classes}
use Rattle.mrc_facts.specs.Sets.{has}
use Rattle.mrc_classes.specs.Marking.{is_marked, Marked}
use Rattle.mrc_classes.proofs.Marking.{ByFirst}
use Rattle.mrc_classes.proofs.rules.row_of.Given as goal

-- what comes by the sources up to here is marked
abbrev pub invariant-loop-source : goal.invariant-loop-source
invariant-loop-source l =
    Marked (classes (wiring_of l.rules)) (is_marked l.fn.out) (is_marked l.out)
    (ByFirst (wiring_of l.rules) (has l.first) (has l.last) l.rule l.row l.source)
