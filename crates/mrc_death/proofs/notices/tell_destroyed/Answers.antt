use Rattle.std.proofs.Common.{refl}
use Rattle.std.specs.Vec.Iter.{into_iter_items, into_iter_len}
use Rattle.mrc_model.specs.Map.{get}
use Rattle.mrc_model.specs.Death.{notify_port}
use Rattle.mrc_death.proofs.Rooms.{room_notify}
use Rattle.mrc_death.specs.Plans.{tell_destroyed}
use Rattle.mrc_death.proofs.TellLoops.{told_begun, told_one, told_on, told_all}
use Rattle.mrc_death.proofs.notices.tell_destroyed.Goals as goal

pub loop-notice-init : goal.loop-notice-init
loop-notice-init c =
    let made = c.into_iter-notice-iterator.ensures.into_iter_gives in
    told_begun tell_destroyed c.args.store.now c.args.notices.items
    (into_iter_items c.into_iter-notice-iterator.result) _
    (into_iter_len c.into_iter-notice-iterator.result) made.0 made.1 c.args.notices.ok.0 c.requires

pub tell-requires : goal.tell-requires
tell-requires c =
    told_one c.loop-notice.store (into_iter_items c.loop-notice.notice-iterator)
    (into_iter_items c.next.new.self) c.in-Some.notice c.in-Some.ensures.steps.0
    c.loop-notice.invariant.room

pub loop-notice-preserved : goal.loop-notice-preserved
loop-notice-preserved c =
    let step = c.in-Some.ensures.steps in
    told_on tell_destroyed (λ z q. notify_port z q (get z.ports q)) c.args.store.now
    c.loop-notice.store c.tell.new.store c.args.notices.items (into_iter_items c.loop-notice.notice-iterator)
    (into_iter_items c.next.new.self) c.in-Some.notice
    (into_iter_len c.loop-notice.notice-iterator) (into_iter_len c.next.new.self)
    (λ z q qs. refl) (λ k z q. room_notify k z q (get z.ports q) (λ i. get z.ports q))
    c.loop-notice.invariant step.0 step.1 c.tell.ensures

pub returns : goal.returns
returns c =
    told_all tell_destroyed c.args.store.now c.loop-notice.store c.args.notices.items
    (into_iter_items c.loop-notice.notice-iterator) (into_iter_len c.loop-notice.notice-iterator)
    (λ z. refl) c.loop-notice.invariant c.in-None.ensures.steps.0
