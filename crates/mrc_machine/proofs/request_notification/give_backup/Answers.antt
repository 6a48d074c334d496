use Rattle.std.proofs.Common.{◌∙◌, ap, subst}
use Rattle.std.specs.Prelude.{◌≡◌, ◌&&◌, false}
use Rattle.mrc_base.specs.declared.PortRight.TheVariants.{SendOnce}
use Rattle.mrc_model.specs.declared.Backup.{Backup}
use Rattle.mrc_model.specs.Reply.{Refused}
use Rattle.mrc_model.specs.Space.{is_full}
use Rattle.mrc_model.specs.CallRequestNotification.{is_live_backup}
use Rattle.mrc_names.specs.Refusals.{IsRefusal}
use Rattle.mrc_names.specs.Takes.{give_right}
use Rattle.mrc_machine.specs.Requests.{given_backup}
use Rattle.mrc_machine.proofs.TakeLaws.{not_given}
use Rattle.mrc_machine.proofs.RequestLaws.{given_new}
use Rattle.mrc_machine.proofs.request_notification.give_backup.Goals as goal

pub unreachable-requires : goal.unreachable-requires
unreachable-requires c =
    let gone = subst (λ e. IsRefusal e (give_right c.args.space.now c.in-Port.port SendOnce))
    c.in-Err-Fault.field-0-is c.in-Err-Fault.ensures.refused in
    let room = subst (λ (b : Backup). (is_live_backup b && is_full c.args.space.now) ≡ false)
    c.in-Port.is c.requires in
    not_given c.args.space.now c.in-Port.port SendOnce (Refused c.in-Err-Fault.field-0-0) room gone

pub returns-in-Ok : goal.returns-in-Ok
returns-in-Ok c = record {
  ok = ap (given_backup c.args.space.now) c.in-Port.is
      ∙ given_new c.args.space.now c.copyout.new.self c.in-Port.port c.in-Ok.name c.in-Ok.ensures.ok;
  err = tt;
}
