use Rattle.std.specs.Option.{option_copied}
use Rattle.std.proofs.Common.{◌≡◌, List, Some, sym, ap, ◌∙◌, subst}
use Rattle.mrc_model.specs.World.{Parcel, queue_rights}
use Rattle.mrc_model.specs.Map.{get}
use Rattle.mrc_death.specs.Search.{Goes, Step}
use Rattle.mrc_death.proofs.Keeping.{live_not_absent, dying_live}
use Rattle.mrc_death.proofs.Following.{has_item, queue_goes, followed}
use Rattle.mrc_death.proofs.search.Search.follow.Goals as goal

pub unreachable-requires : goal.unreachable-requires
unreachable-requires c =
    let z = c.args.self.now in
    let x = c.index-port.result.now in
    live_not_absent c.args.store.now.ports x (sym c.in_default.ensures) (dying_live
    c.args.store.now c.args.doomed.now x (c.requires.going.kept.sound x (has_item z.dead.items
    z.done x c.requires.more c.index-port.ensures)))

pub lose_queue-requires-clause-goes : goal.lose_queue-requires-clause-goes
lose_queue-requires-clause-goes c =
    let z = c.args.self.now in
    let x = c.index-port.result.now in
    let v = c.in-Some.slot.now in
    let v_is : get c.args.store.now.ports x ≡ Some v = sym c.live.ensures
    ∙ ap (option_copied) c.in-Some.is in
    subst (λ (ms : List Parcel). Goes c.args.store.now c.args.doomed.now (queue_rights ms))
    (sym c.queue.ensures) (queue_goes c.args.store.now c.args.doomed.now z x v
    c.requires.going.kept (has_item z.dead.items z.done x c.requires.more c.index-port.ensures)
    v_is)

pub wake-requires-clause-found : goal.wake-requires-clause-found
wake-requires-clause-found c =
    let z = c.args.self.now in
    let x = c.index-port.result.now in
    c.in_ok-lose_queue.ensures.dead x (has_item z.dead.items z.done x c.requires.more
    c.index-port.ensures)

pub returns-clause-going : goal.returns-clause-going
returns-clause-going c =
    let s = c.args.store.now in
    let d = c.args.doomed.now in
    let z = c.args.self.now in
    let x = c.index-port.result.now in
    let v = c.in-Some.slot.now in
    let v_is : get s.ports x ≡ Some v = sym c.live.ensures
    ∙ ap (option_copied) c.in-Some.is in
    let queue : Step s d (queue_rights v.queue) z c.lose_queue.new.self =
    subst (λ (ms : List Parcel). Step s d (queue_rights ms) z c.lose_queue.new.self)
    c.queue.ensures c.in_ok-lose_queue.ensures in
    followed s d z c.lose_queue.new.self c.wake.new.self x v c.requires.going c.requires.more
    c.index-port.ensures v_is queue c.in_ok-wake.ensures.step c.in_ok-wake.ensures.woken
