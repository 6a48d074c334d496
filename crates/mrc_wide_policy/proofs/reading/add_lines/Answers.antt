-- What each exit of the loop knows of what the lines say.
use Rattle.std.proofs.Common.{◌≡◌, subst, None, arith}
use Rattle.std.proofs.lemmas.Result.{err_from_is_err_and}
use Rattle.mrc_wiring_text.specs.Lexis.{lines}
use Rattle.mrc_wiring_text.proofs.HeadingLemmas.{is_nil}
use Rattle.mrc_wide_policy.specs.PolicyReading.{add_lines}
use Rattle.mrc_wide_policy.proofs.LineLemmas.{lines_go, lines_fail, lines_end}
use Rattle.mrc_wide_policy.proofs.reading.add_lines.Goals as goal

pub returns-in_err-add_line : goal.returns-in_err-add_line
returns-in_err-add_line c =
    let p = err_from_is_err_and c.from_residual.result c.from_residual.ensures.1 in
    rw (p.1, p.2) (lines_fail c.in_err-add_line.field-0.0 c.loop-rest.number _ _ _ _ _
    c.loop-rest.invariant.same c.first_line.ensures.cut c.in_err-add_line.ensures)

pub loop-rest-preserved : goal.loop-rest-preserved
loop-rest-preserved c = record {
  same = lines_go c.loop-rest.number _ _ _ _ _ _ c.loop-rest.invariant.same
      c.first_line.ensures.cut c.in_ok-add_line.ensures;
  room = omega arith;
}

pub returns : goal.returns
returns c =
    let none = is_nil c.loop-rest.rest.now _ c.is_empty.ensures c.loop-rest-test.false in
    lines_end c.loop-rest.number c.loop-rest.so_far _
    (subst (λ bs. add_lines c.loop-rest.number c.loop-rest.so_far (lines bs)
    ≡ add_lines 1 None (lines c.args.text.now)) none c.loop-rest.invariant.same)
