use Rattle.std.proofs.Common.{◌∙◌, ap, sym}
use Rattle.std.proofs.lemmas.Result.{IfOk-weaker}
use Rattle.mrc_model.specs.Reply.{Reply}
use Rattle.mrc_model.specs.World.{World}
use Rattle.mrc_report.specs.Printing.{event_line}
use Rattle.mrc_report.proofs.replaying.event_of.Goals as goal

pub returns-clause-text : goal.returns-clause-text
returns-clause-text c =
    IfOk-weaker c.event_line.result _ _
    (λ text shown. shown ∙ ap (event_line c.args.wired.now c.args.number c.args.task)
    (ap (λ (p : World × Reply). p.1) (sym c.in_ok-reply.ensures.step)))
    c.event_line.ensures

pub returns-clause-world : goal.returns-clause-world
returns-clause-world c =
    IfOk-weaker c.event_line.result _ _
    (λ text shown. ap (λ (p : World × Reply). p.0) (sym c.in_ok-reply.ensures.step))
    c.event_line.ensures
