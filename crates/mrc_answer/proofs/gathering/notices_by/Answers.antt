use Rattle.std.proofs.Common.{ap, map, string_bytes, ◌∙◌, ◌&&◌, not, List}
use Rattle.mrc_facts.specs.Sets.{has}
use Rattle.mrc_wiring.specs.declared.claim.ForbiddenLine.{ForbiddenLine}
use Rattle.mrc_wiring.specs.Table.{Table}
use Rattle.mrc_answer.specs.Files.{given}
use Rattle.mrc_answer.specs.Notices.{DemandNotices, is_empty, notification_from}
use Rattle.mrc_answer.specs.PlainLines.{plain_lines}
use Rattle.mrc_answer.specs.LeakyLines.{leaky_lines}
use Rattle.mrc_dead.specs.Dead.{dead_parts}
use Rattle.mrc_answer.proofs.NoticeLaws.{notices_made}
use Rattle.mrc_answer.proofs.gathering.notices_by.Goals as goal

pub returns : goal.returns
returns c =
    let files = c.args.files.now in
    let set = has c.args.facts.now in
    notices_made files c.args.lines.now c.args.claim.now c.args.demands set _ _ _ _ _ _ _
    (map string_bytes c.args.trusted.items)
    c.in_ok-left_out.ensures
    c.in_ok-cut_before.ensures
    (c.in_ok-notification.ensures
    ∙ (ap (notification_from 0) c.interfaces.ensures
    ∙ ap (λ (t : Table). notification_from 0 t.interfaces) c.wired-wired.ensures))
    (c.is_empty_policy.ensures
    ∙ ap (λ (ls : List ForbiddenLine). is_empty ls && not c.demands.inside.waives)
    c.lines-2.ensures
    ∙ ap (λ (d : DemandNotices). is_empty c.args.claim.now.lines && not d.waives)
    c.demands.view_is)
    (c.in_ok-plain.ensures
    ∙ ap (λ (t : Table). plain_lines t (given files.texts.policy)) c.wired-wired.ensures)
    (c.in_ok-leaky.ensures ∙ ap (leaky_lines set) c.lines.ensures)
    (c.in_ok-dead.ensures.all
    ∙ ap (λ (t : Table). dead_parts t c.args.lines.now set) c.wired-wired.ensures)
