use Rattle.std.proofs.lemmas.Result.{err_from_is_err_and}
use Rattle.mrc_mig_lex.specs.Lexing.{tokens_of}
use Rattle.mrc_mig_symbols.specs.Marks.{marks_of}
use Rattle.mrc_mig_symbols.proofs.MarkLemmas.{are_marks, refused}
use Rattle.mrc_mig_symbols.proofs.tokens.tokens_of.Goals as goal

pub invariant_of-result : goal.invariant_of-result
invariant_of-result c = are_marks _ _ c.in_ok-marks.ensures

pub returns : goal.returns
returns c = (are_marks _ _ c.in_ok-marks.ensures).read

pub returns-in_err-marks : goal.returns-in_err-marks
unfolding marks_of
returns-in_err-marks c =
    let p = err_from_is_err_and c.from_residual.result c.from_residual.ensures.1 in
    rw (p.1, p.2) (refused _ (tokens_of c.args.text.now) c.in_err-marks.ensures)
