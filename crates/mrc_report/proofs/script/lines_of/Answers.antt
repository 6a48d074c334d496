-- What each exit of the loop knows of what the lines say.
use Rattle.std.proofs.Common.{◌≡◌, ◌+◌, ◌≤◌, subst, ap, sym, ◌∙◌, arith}
use Rattle.std.proofs.lemmas.Result.{err_from_is_err_and}
use Rattle.mrc_base.specs.Limits.{limit_of_lines}
use Rattle.mrc_wiring_text.specs.Lexis.{lines}
use Rattle.mrc_wiring_text.specs.Reading.{body}
use Rattle.mrc_wiring_text.proofs.HeadingLemmas.{is_nil}
use Rattle.mrc_wiring_text.proofs.BodyLemmas.{with_front, more, body_same, body_goes_on, body_fails}
use Rattle.mrc_wiring_text.proofs.BodyLemmas.{body_ends}
use Rattle.mrc_report.specs.Calls.{line_says}
use Rattle.mrc_report.specs.Scripts.{script_of}
use Rattle.mrc_report.proofs.script.lines_of.Goals as goal
use Rattle.mrc_report.proofs.script.lines_of.Goals.{in-Some+in_ok-push, in_default}

pub returns-in_err-says : goal.returns-in_err-says
returns-in_err-says c =
    let p = err_from_is_err_and c.from_residual.result c.from_residual.ensures.1 in
    let says = line_says c.args.live c.args.wired.now.names in
    rw (p.1, p.2) (body_fails c.in_err-says.field-0.0 says _ _ _ _ _ _
    c.loop-rest.invariant.same c.first_line.ensures.cut c.in_err-says.ensures.fault)

pub loop-rest-preserved : goal.loop-rest-preserved
loop-rest-preserved c =
    let goes = body_goes_on (line_says c.args.live c.args.wired.now.names) _ _ _ _ _ _ _
    c.loop-rest.invariant.same c.first_line.ensures.cut c.in_ok-says.ensures.fault in
    let n = c.loop-rest.number in
    let front = c.loop-rest.said.items in
    let within : n + 1 ≤ limit_of_lines + 1 = omega (arith, c.in_ok-says.ensures.within) in
    elim c.match-branch-2.branch [
      | in-Some+in_ok-push w ↦ record {
        same = body_same _ _ _ _
            (ap (λ v. v.items) w.said-is ∙ w.in_ok-push.ensures.items
            ∙ ap (λ s. more n s front) (sym w.in-Some.is)) goes;
        within = within;
      }
      | in_default w ↦ record {
        same = body_same _ _ _ _
            (ap (λ v. v.items) w.said-is ∙ ap (λ s. more n s front) (sym w.in_default.is)) goes;
        within = within;
      }
    ]

pub returns : goal.returns
returns c =
    let none = is_nil c.loop-rest.rest.now _ c.is_empty.ensures c.loop-rest-test.false in
    let says = line_says c.args.live c.args.wired.now.names in
    body_ends says c.loop-rest.said.items c.loop-rest.number _
    (subst (λ bs. with_front c.loop-rest.said.items (body says c.loop-rest.number (lines bs))
    ≡ script_of c.args.live c.args.wired.now.names c.args.text.now) none c.loop-rest.invariant.same)
