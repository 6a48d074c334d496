use Rattle.std.proofs.Common.{sym, ap, ◌∙◌}
use Rattle.mrc_model.specs.Map.{get}
use Rattle.mrc_model.specs.Death.{append, notify_port}
use Rattle.mrc_death.proofs.Telling.{none_told, used_room, backup_told}
use Rattle.mrc_death.proofs.notices.DestroyedNotice.tell.Goals as goal

pub returns-in_default : goal.returns-in_default
returns-in_default c =
    let s = c.args.store.now in
    none_told s c.self.inside.port (get s.ports c.self.inside.port)
    (sym c.in_default.is ∙ c.backup_at.ensures)
    ∙ ap (λ p. notify_port s p (get s.ports p)) c.self.view_is

pub queue_notice-requires-clause-room : goal.queue_notice-requires-clause-room
queue_notice-requires-clause-room c =
    let s = c.args.store.now in
    used_room s c.use_up.new.store c.self.inside.port c.in-Some.backup
    (get s.ports c.self.inside.port) (λ i. get s.ports c.self.inside.port)
    (sym c.in-Some.is ∙ c.backup_at.ensures) c.use_up.ensures c.requires

pub returns : goal.returns
returns c =
    let s = c.args.store.now in
    c.queue_notice.ensures
    ∙ ap (append c.use_up.new.store c.in-Some.backup) c.self.invariant
    ∙ backup_told s c.use_up.new.store c.self.inside.port c.in-Some.backup
    (get s.ports c.self.inside.port) (λ i. get s.ports c.self.inside.port)
    (sym c.in-Some.is ∙ c.backup_at.ensures) c.use_up.ensures
    ∙ ap (λ p. notify_port s p (get s.ports p)) c.self.view_is
