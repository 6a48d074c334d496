use Rattle.std.proofs.Common.{◌≡◌, ◌-◌, ◌≤◌, ◌++◌, Ok, length, map}
use Rattle.mrc_base.specs.Reading.{◌>>=◌}
use Rattle.mrc_mig_lex.specs.Lexing.{tokens_behind}
use Rattle.mrc_mig_symbols.specs.Marks.{mark_of, marks_of}
use Rattle.mrc_mig_symbols.proofs.tokens.marks_of.Given as goal

abbrev pub invariant-loop-first : goal.invariant-loop-first
invariant-loop-first l = (l.at ≤ length l.text)
    × (marks_of l.text ≡ (tokens_behind l.fresh l.at l.text
    >>= λ later. Ok (l.marks.items ++ map mark_of later)))

abbrev pub decreases-loop-first : goal.decreases-loop-first
decreases-loop-first l = length l.text - l.at
