use Rattle.std.proofs.Common.{take}
use Rattle.mrc_wiring.specs.Marks.{AreMarked, AreWide}
use Rattle.mrc_wiring.proofs.marks.marked.Given as goal

-- the rows of the lines so far
abbrev pub invariant-loop-line : goal.invariant-loop-line
invariant-loop-line l = record {
  wide : AreWide l.width l.rows.items;
  marked : AreMarked l.width l.places (take l.line-index l.lines) l.rows.items;
}
