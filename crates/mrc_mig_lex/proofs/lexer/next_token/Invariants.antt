use Rattle.std.proofs.Common.{◌-◌, ◌≤◌, length}
use Rattle.mrc_mig_lex.specs.Lexing.{tokens_behind}
use Rattle.mrc_mig_lex.proofs.LexingLaws.{IsReadTo}
use Rattle.mrc_mig_lex.proofs.lexer.next_token.Given as goal

abbrev pub invariant-loop-first : goal.invariant-loop-first
invariant-loop-first l =
    (IsReadTo l.text (tokens_behind l.fn.fresh l.at l.text) l.place l.fresh) × (l.at ≤ l.place)

abbrev pub decreases-loop-first : goal.decreases-loop-first
decreases-loop-first l = length l.text - l.place
