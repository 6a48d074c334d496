use Rattle.std.proofs.Common.{sym, ◌∙◌, arith}
use Rattle.std.proofs.lemmas.List.{take_rest}
use Rattle.mrc_mig_lex.proofs.PieceLaws.{comment_len_step}
use Rattle.mrc_mig_lex.proofs.piece.comment_len.Goals as goal

-- no `*/` begins here, so the comment ends one character further on
pub loop-start-preserved : goal.loop-start-preserved
loop-start-preserved c =
    let begins = rw take_rest at c.starts_with.ensures.value in
    comment_len_step c.args.rest.now c.loop-start.start (omega arith) (sym begins
    ∙ c.if-starts_with.false) ∙ c.loop-start.invariant
