use Rattle.std.proofs.Common.{◌≡◌, ◌+◌, drop, option_map}
use Rattle.mrc_mig_lex.specs.Pieces.{comment_len}
use Rattle.mrc_mig_lex.proofs.piece.comment_len.Given as goal

-- the comment ends where the rest of it does
abbrev pub invariant-loop-start : goal.invariant-loop-start
invariant-loop-start l = option_map (λ n. l.start + n) (comment_len (drop l.start l.rest))
    ≡ comment_len l.rest
