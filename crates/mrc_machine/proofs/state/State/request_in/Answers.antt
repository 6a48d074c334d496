use Rattle.std.proofs.Common.{sym, ap, ◌∙◌}
use Rattle.std.specs.Prelude.{◌&&◌}
use Rattle.mrc_model.specs.Reply.{Refused}
use Rattle.mrc_model.specs.Space.{is_full}
use Rattle.mrc_model.specs.CallRequestNotification.{is_live_backup}
use Rattle.mrc_wiring.specs.Table.{wiring_of}
use Rattle.mrc_names.proofs.Granting.{granted}
use Rattle.mrc_machine.specs.Calls.{refusal_reply}
use Rattle.mrc_machine.specs.Requests.{given_backup}
use Rattle.mrc_machine.proofs.Trying.{wanting_by}
use Rattle.mrc_machine.proofs.RequestLaws.{request_no_kind, request_no_name}
use Rattle.mrc_machine.proofs.RequestLaws.{request_no_backup, request_not_given, request_no_port}
use Rattle.mrc_machine.proofs.RequestLaws.{request_not_taken, request_full, takes_previous}
use Rattle.mrc_machine.proofs.RequestLaws.{request_goes, request_done, request_stored}
use Rattle.mrc_machine.proofs.RequestLaws.{left_there, port_there, port_gone}
use Rattle.mrc_machine.proofs.state.State.request_in.Goals as goal

pub returns-then-not-is_request-clause-refused : goal.returns-then-not-is_request-clause-refused
returns-then-not-is_request-clause-refused c =
    let W = wiring_of c.args.wired.now in
    let w = c.args.self.now in
    request_no_kind W w c.args.caller c.args.task c.args.name c.args.id c.args.sync c.args.notify
    c.args.disp
    c.args.target
    c.requires.target
    (sym c.is_request.ensures ∙ c.if-not-is_request.true)

pub returns-in-Err-clause-refused : goal.returns-in-Err-clause-refused
returns-in-Err-clause-refused c =
    let W = wiring_of c.args.wired.now in
    let w = c.args.self.now in
    request_no_name W w c.args.caller c.args.task c.args.name c.args.id c.args.sync c.args.notify
    c.args.disp
    c.args.target
    c.requires.target
    (sym c.is_request.ensures ∙ c.if-not-is_request.false) (Refused c.in-Err.code)
    c.in-Err.ensures.refused

pub returns-in-Err-named_backup-clause-refused : goal.returns-in-Err-named_backup-clause-refused
returns-in-Err-named_backup-clause-refused c =
    let W = wiring_of c.args.wired.now in
    let w = c.args.self.now in
    request_no_backup W w c.args.caller c.args.task c.args.name c.args.id c.args.sync c.args.notify
    c.args.disp
    c.args.target
    c.requires.target
    (sym c.is_request.ensures ∙ c.if-not-is_request.false)
    c.in-Ok.port c.in-Ok.ensures.ok c.housing.ensures.kept
    (refusal_reply c.in-Err-named_backup.refusal) c.in-Err-named_backup.ensures.refused

pub returns-then-not-may_backup-clause-refused :
    goal.returns-then-not-may_backup-clause-refused
returns-then-not-may_backup-clause-refused c =
    let W = wiring_of c.args.wired.now in
    let w = c.args.self.now in
    let (a, left) = left_there W w.store c.args.caller c.args.notify c.args.disp
    c.in-Ok-named_backup.backup c.in-Ok-named_backup.ensures.ok in
    request_not_given W w c.args.caller c.args.task c.args.name c.args.id c.args.sync
    c.args.notify c.args.disp c.args.target c.requires.target
    (sym c.is_request.ensures ∙ c.if-not-is_request.false)
    c.in-Ok.port c.in-Ok.ensures.ok c.housing.ensures.kept
    c.in-Ok-named_backup.backup c.in-Ok-named_backup.ensures.ok a left
    (sym c.may_backup.ensures ∙ c.if-not-may_backup.true)

pub returns-then-not-may_backup-2-clause-refused :
    goal.returns-then-not-may_backup-2-clause-refused
returns-then-not-may_backup-2-clause-refused c =
    let W = wiring_of c.args.wired.now in
    let w = c.args.self.now in
    let (a, left) = left_there W w.store c.args.caller c.args.notify c.args.disp
    c.in-Ok-named_backup.backup c.in-Ok-named_backup.ensures.ok in
    let (y, there, same) = port_there w.store c.in-Ok.port c.in-Some.previous
    (sym c.backup_of.ensures ∙ c.in-Some.is) in
    request_not_taken W w c.args.caller c.args.task c.args.name c.args.id c.args.sync
    c.args.notify c.args.disp c.args.target c.requires.target
    (sym c.is_request.ensures ∙ c.if-not-is_request.false)
    c.in-Ok.port c.in-Ok.ensures.ok c.housing.ensures.kept
    c.in-Ok-named_backup.backup c.in-Ok-named_backup.ensures.ok a left
    (sym c.may_backup.ensures ∙ c.if-not-may_backup.false) y there
    (takes_previous W w c.args.caller c.args.target y.backup c.in-Some.previous _ same
    c.may_backup-2.ensures ∙ c.if-not-may_backup-2.true)

pub returns-in_default-clause-refused : goal.returns-in_default-clause-refused
returns-in_default-clause-refused c =
    let W = wiring_of c.args.wired.now in
    let w = c.args.self.now in
    let (a, left) = left_there W w.store c.args.caller c.args.notify c.args.disp
    c.in-Ok-named_backup.backup c.in-Ok-named_backup.ensures.ok in
    request_no_port W w c.args.caller c.args.task c.args.name c.args.id c.args.sync c.args.notify
    c.args.disp
    c.args.target
    c.requires.target
    (sym c.is_request.ensures ∙ c.if-not-is_request.false)
    c.in-Ok.port c.in-Ok.ensures.ok c.housing.ensures.kept
    c.in-Ok-named_backup.backup c.in-Ok-named_backup.ensures.ok a left
    (sym c.may_backup.ensures ∙ c.if-not-may_backup.false)
    (port_gone w.store c.in-Ok.port (sym c.backup_of.ensures ∙ c.in_default.is))

pub returns-then-lacks_room-clause-refused : goal.returns-then-lacks_room-clause-refused
returns-then-lacks_room-clause-refused c =
    let W = wiring_of c.args.wired.now in
    let w = c.args.self.now in
    let (a, left) = left_there W w.store c.args.caller c.args.notify c.args.disp
    c.in-Ok-named_backup.backup c.in-Ok-named_backup.ensures.ok in
    let (y, there, same) = port_there w.store c.in-Ok.port c.in-Some.previous
    (sym c.backup_of.ensures ∙ c.in-Some.is) in
    request_full W w c.args.caller c.args.task c.args.name c.args.id c.args.sync c.args.notify
    c.args.disp
    c.args.target
    c.requires.target
    (sym c.is_request.ensures ∙ c.if-not-is_request.false)
    c.in-Ok.port c.in-Ok.ensures.ok c.housing.ensures.kept
    c.in-Ok-named_backup.backup c.in-Ok-named_backup.ensures.ok a left
    (sym c.may_backup.ensures ∙ c.if-not-may_backup.false) y there
    (takes_previous W w c.args.caller c.args.target y.backup c.in-Some.previous _ same
    c.may_backup-2.ensures ∙ c.if-not-may_backup-2.false)
    (ap (λ b. is_live_backup b && is_full a) same ∙ sym (c.lacks_room.ensures a left)
    ∙ c.if-lacks_room.true)

pub returns-in_err-given-clause-refused : goal.returns-in_err-given-clause-refused
returns-in_err-given-clause-refused c =
    let W = wiring_of c.args.wired.now in
    let w = c.args.self.now in
    let (a, left) = left_there W w.store c.args.caller c.args.notify c.args.disp
    c.in-Ok-named_backup.backup c.in-Ok-named_backup.ensures.ok in
    let (y, there, same) = port_there w.store c.in-Ok.port c.in-Some.previous
    (sym c.backup_of.ensures ∙ c.in-Some.is) in
    wanting_by c.from_residual.result _
    c.from_residual.ensures.1
    (request_goes W w c.args.caller c.args.task c.args.name c.args.id c.args.sync c.args.notify
    c.args.disp
    c.args.target
    c.requires.target
    (sym c.is_request.ensures ∙ c.if-not-is_request.false)
    c.in-Ok.port c.in-Ok.ensures.ok c.housing.ensures.kept
    c.in-Ok-named_backup.backup c.in-Ok-named_backup.ensures.ok a left
    (sym c.may_backup.ensures ∙ c.if-not-may_backup.false) y there
    (takes_previous W w c.args.caller c.args.target y.backup c.in-Some.previous _ same
    c.may_backup-2.ensures ∙ c.if-not-may_backup-2.false)
    (ap (λ b. is_live_backup b && is_full a) same ∙ sym (c.lacks_room.ensures a left)
    ∙ c.if-lacks_room.false))

pub returns-clause-ok : goal.returns-clause-ok
returns-clause-ok c =
    let W = wiring_of c.args.wired.now in
    let w = c.args.self.now in
    let (a, z, left, given, put) = c.in_ok-given.ensures.ok in
    let (y, there, same) = port_there w.store c.in-Ok.port c.in-Some.previous
    (sym c.backup_of.ensures ∙ c.in-Some.is) in
    request_done W w c.args.caller c.args.task c.args.name c.args.id c.args.sync c.args.notify
    c.args.disp
    c.args.target
    c.requires.target
    (sym c.is_request.ensures ∙ c.if-not-is_request.false)
    c.in-Ok.port c.in-Ok.ensures.ok c.housing.ensures.kept
    c.in-Ok-named_backup.backup c.in-Ok-named_backup.ensures.ok a left
    (sym c.may_backup.ensures ∙ c.if-not-may_backup.false) y there
    (takes_previous W w c.args.caller c.args.target y.backup c.in-Some.previous _ same
    c.may_backup-2.ensures ∙ c.if-not-may_backup-2.false)
    (ap (λ b. is_live_backup b && is_full a) same ∙ sym (c.lacks_room.ensures a left)
    ∙ c.if-lacks_room.false) z _ c.set_backup.new.self
    (ap (given_backup a) same ∙ given)
    (request_stored w c.set_backup.new.self c.replace_request.new.self c.args.caller c.in-Ok.port
    z c.in-Ok-named_backup.backup y put c.set_backup.ensures there)

pub replace_request-requires-clause-right : goal.replace_request-requires-clause-right
replace_request-requires-clause-right c =
    let W = wiring_of c.args.wired.now in
    let w = c.args.self.now in
    let (a, left) = left_there W w.store c.args.caller c.args.notify c.args.disp
    c.in-Ok-named_backup.backup c.in-Ok-named_backup.ensures.ok in
    granted _ a left

pub replace_request-requires-clause-room : goal.replace_request-requires-clause-room
replace_request-requires-clause-room c = λ y left.
    sym (c.lacks_room.ensures y left) ∙ c.if-lacks_room.false
