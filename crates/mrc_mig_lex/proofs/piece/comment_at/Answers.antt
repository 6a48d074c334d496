use Rattle.std.proofs.Common.{◌-◌, ◌≤◌, length, take, drop, arith, length-take, length-drop}
use Rattle.mrc_mig_lex.proofs.PieceLaws.{comment_len-le}
use Rattle.mrc_mig_lex.proofs.piece.comment_at.Goals as goal

-- a comment ends within the text
pub overflow_add-more : goal.overflow_add-more
overflow_add-more c =
    let rest = c.args.rest.now in
    let within : c.in-Some.more ≤ length (take (length rest - 1) (drop 1 rest)) =
    comment_len-le _ _ c.in-Some.ensures in
    omega (arith, length-take (length rest - 1) (drop 1 rest), length-drop 1 rest)
