use Rattle.std.proofs.Common.{◌∙◌, ℕ, List, Option, ap, false, subst, sym}
use Rattle.std.specs.Prelude.{IfOk}
use Rattle.mrc_check.specs.declared.demands.Demand.{Demand}
use Rattle.mrc_why.specs.Answered.{has_line}
use Rattle.mrc_answer.specs.Judging.{IsBrokenReply}
use Rattle.mrc_answer.proofs.VerdictLaws.{passed_if, untold_verified, verified_broken}
use Rattle.mrc_answer.proofs.verify.stated_verified.Goals as goal

pub returns-in-None-clause-right : goal.returns-in-None-clause-right
returns-in-None-clause-right c =
    verified_broken c.args.line c.args.files.now c.broken_reply.result
    (subst (λ (l : Option ℕ). IfOk c.broken_reply.result (IsBrokenReply l c.args.files.now))
    (sym c.in-None.is) c.broken_reply.ensures)

pub returns-in-None-clause-only : goal.returns-in-None-clause-only
returns-in-None-clause-only c = λ has_yes nothing.
    passed_if c.args.stated c.in-Ok.found c.in-Ok.ensures has_yes nothing
    (sym c.is_passed.ensures ∙ c.if-is_passed.false)

pub returns-in-None-line_in-clause-right : goal.returns-in-None-line_in-clause-right
returns-in-None-line_in-clause-right c =
    let n = c.in-Some.number in
    untold_verified c.args.line n c.args.files.now c.args.stated c.in-Ok.found
    c.unbroken_reply.result c.in-Some.is c.requires c.in-Ok.ensures
    (ap (λ (ds : List Demand). has_line ds n) (sym c.as_slice.ensures.value)
    ∙ c.in-None-line_in.ensures.none)
    c.unbroken_reply.ensures.answer c.unbroken_reply.ensures.notices

pub returns-in-None-line_in-clause-only : goal.returns-in-None-line_in-clause-only
returns-in-None-line_in-clause-only c = λ has_yes nothing.
    passed_if c.args.stated c.in-Ok.found c.in-Ok.ensures has_yes nothing
    (sym c.is_passed.ensures ∙ c.if-is_passed.false)
