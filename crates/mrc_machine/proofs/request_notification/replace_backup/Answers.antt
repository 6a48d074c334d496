use Rattle.std.proofs.lemmas.Result.{IfOk-weaker}
use Rattle.mrc_model.specs.Space.{put_entry}
use Rattle.mrc_model.specs.Reply.{Refused}
use Rattle.mrc_machine.proofs.RequestLaws.{left_whole, left_of, not_left}
use Rattle.mrc_machine.proofs.request_notification.replace_backup.Goals as goal

pub give_backup-requires : goal.give_backup-requires
give_backup-requires c =
    c.requires.room c.args.space.now (left_whole _ _ c.args.disp c.if-name-eq0.true)

pub returns-then-name-eq0-clause-ok : goal.returns-then-name-eq0-clause-ok
returns-then-name-eq0-clause-ok c =
    IfOk-weaker c.give_backup.result _ _
    (λ given done. (c.args.space.now, left_whole _ _ _ c.if-name-eq0.true, done))
    c.give_backup.ensures.ok

pub exchange_backup-requires-clause-room : goal.exchange_backup-requires-clause-room
exchange_backup-requires-clause-room c =
    c.requires.room (put_entry c.args.space.now c.args.name c.in-Ok.taken.1)
    (left_of _ _ _ c.if-name-eq0.false _ c.in-Ok.taken.0 c.in-Ok.ensures.found)

pub returns-clause-ok : goal.returns-clause-ok
returns-clause-ok c =
    IfOk-weaker c.exchange_backup.result _ _ (λ given done. (
      put_entry c.args.space.now c.args.name c.in-Ok.taken.1,
      left_of _ _ _ c.if-name-eq0.false _ c.in-Ok.taken.0 c.in-Ok.ensures.found,
      done,
    )) c.exchange_backup.ensures.ok

pub unreachable-requires : goal.unreachable-requires
unreachable-requires c =
    not_left _ _ _ c.if-name-eq0.false (Refused c.in-Err.field-0) c.in-Err.ensures.refused
    c.requires.right
