use Rattle.std.proofs.Common.{◌∙◌, ℕ, List, Option, Some, None, ap, false, subst, sym, true}
use Rattle.mrc_check.specs.declared.demands.Demand.{Demand}
use Rattle.mrc_why.specs.Answered.{has_line}
use Rattle.mrc_answer.specs.Judging.{IsShownLine}
use Rattle.mrc_answer.proofs.VerdictLaws.{attacks_so, shown_all, shown_line, untold_attacked}
use Rattle.mrc_answer.proofs.attack.stated_attacked.Goals as goal

pub returns-else-is_yes : goal.returns-else-is_yes
returns-else-is_yes g c =
    let found = c.in-Ok.found in
    attacks_so c.args.line None c.args.files.now c.args.stated found c.attacks_reply.result
    c.requires c.in-Ok.ensures (sym c.is_yes.ensures ∙ c.if-is_yes.false)
    (subst (λ (l : Option ℕ). IsShownLine l None found) (sym c.in-None.is) (shown_all found))
    c.attacks_reply.ensures

pub returns-else-is_yes-2 : goal.returns-else-is_yes-2
returns-else-is_yes-2 g c =
    let found = c.in-Ok.found in
    let own = c.in-Some-line_in.own in
    let n = c.in-Some.number in
    attacks_so c.args.line (Some own) c.args.files.now c.args.stated found
    c.attacks_reply-else-is_yes-2.result c.requires c.in-Ok.ensures
    (sym c.is_yes-in-Some-line_in.ensures ∙ c.if-is_yes-2.false)
    (shown_line c.args.line n own found c.in-Some.is c.in-Some-line_in.ensures.own
    (ap (λ (ds : List Demand). has_line ds n) (sym c.as_slice.ensures.value)
    ∙ c.in-Some-line_in.ensures.some))
    c.attacks_reply-else-is_yes-2.ensures

pub returns-in-None-line_in : goal.returns-in-None-line_in
returns-in-None-line_in g c =
    let n = c.in-Some.number in
    untold_attacked c.args.line n c.args.files.now c.args.stated c.in-Ok.found
    c.unbroken_reply.result c.in-Some.is c.requires c.in-Ok.ensures
    (ap (λ (ds : List Demand). has_line ds n) (sym c.as_slice.ensures.value)
    ∙ c.in-None-line_in.ensures.none)
    c.unbroken_reply.ensures.answer c.unbroken_reply.ensures.notices
