use Rattle.std.proofs.Common.{◌∙◌, ap, subst, sym}
use Rattle.std.specs.Prelude.{◌≡◌, ◌&&◌, false}
use Rattle.mrc_base.specs.declared.PortRight.TheVariants.{SendOnce}
use Rattle.mrc_model.specs.declared.Backup.{Backup}
use Rattle.mrc_model.specs.Reply.{Refused}
use Rattle.mrc_model.specs.Space.{is_full, put_entry}
use Rattle.mrc_model.specs.CallRequestNotification.{is_live_backup}
use Rattle.mrc_names.specs.Refusals.{IsRefusal}
use Rattle.mrc_names.specs.Takes.{give_right}
use Rattle.mrc_machine.specs.Requests.{given_backup}
use Rattle.mrc_machine.proofs.TakeLaws.{not_given}
use Rattle.mrc_machine.proofs.RequestLaws.{given_new}
use Rattle.mrc_machine.proofs.request_notification.exchange_backup.Goals as goal

pub returns-in-Absent-clause-ok : goal.returns-in-Absent-clause-ok
returns-in-Absent-clause-ok c =
    ap (given_backup _) c.in-Absent.is ∙ ap (λ z. (z, 0)) (sym c.leave.ensures)

pub returns-in-Dead-clause-ok : goal.returns-in-Dead-clause-ok
returns-in-Dead-clause-ok c =
    ap (given_backup _) c.in-Dead.is ∙ ap (λ z. (z, 4294967295)) (sym c.leave-in-Dead.ensures)

pub unreachable-requires : goal.unreachable-requires
unreachable-requires c =
    let y = put_entry c.args.space.now c.args.name c.args.rest in
    let gone = subst (λ e. IsRefusal e (give_right y c.in-Port.port SendOnce))
    c.in-Err-Fault.field-0-is c.in-Err-Fault.ensures.refused in
    let room = subst (λ (b : Backup). (is_live_backup b && is_full y) ≡ false)
    c.in-Port.is c.requires.room in
    not_given y c.in-Port.port SendOnce (Refused c.in-Err-Fault.field-0-0) room gone

pub returns-in-Ok-clause-ok : goal.returns-in-Ok-clause-ok
returns-in-Ok-clause-ok c =
    let y = put_entry c.args.space.now c.args.name c.args.rest in
    ap (given_backup y) c.in-Port.is
    ∙ given_new y c.exchange.new.self c.in-Port.port c.in-Ok.given c.in-Ok.ensures.ok
