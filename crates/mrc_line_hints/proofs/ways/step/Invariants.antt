-- No way so far is one of the word.
use Rattle.std.proofs.Common.{◌≡◌, drop}
use Rattle.mrc_line_hints.specs.Ways.{ways, first_fit}
use Rattle.mrc_line_hints.proofs.ways.step.Given as goal

abbrev pub invariant-loop-way : goal.invariant-loop-way
invariant-loop-way l =
    first_fit l.word (drop l.way-index l.way-items)
    ≡ first_fit l.word (ways l.fn.edition l.fn.place)
