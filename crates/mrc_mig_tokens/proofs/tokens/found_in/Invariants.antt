use Rattle.std.proofs.Common.{◌≤◌, ◌-◌, length}
use Rattle.std.specs.Prelude.{All}
use Rattle.std.specs.Str.{IsCharBoundary}
use Rattle.mrc_mig_tokens.specs.Tokens.{IsCut}
use Rattle.mrc_mig_tokens.proofs.LexLemmas.{IsLexedTo}
use Rattle.mrc_mig_tokens.proofs.tokens.found_in.Given as goal

abbrev pub invariant-loop-first : goal.invariant-loop-first
invariant-loop-first l =
    (l.at ≤ length l.text) × IsCharBoundary l.text l.at
    × IsLexedTo l.text l.found.marks.items l.found.lines.items l.at l.fresh
    × All (IsCut l.text) l.found.marks.items

abbrev pub decreases-loop-first : goal.decreases-loop-first
decreases-loop-first l = length l.text - l.at
