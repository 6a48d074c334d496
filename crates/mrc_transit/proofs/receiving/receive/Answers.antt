use Rattle.std.proofs.Common.{Ok, ap, sym, ◌∙◌, subst}
use Rattle.std.specs.Prelude.{is_some}
use Rattle.mrc_model.specs.World.{Store, set_space, set_port}
use Rattle.mrc_model.specs.Reply.{Bytes}
use Rattle.mrc_ports.specs.Queues.{after_receipt}
use Rattle.mrc_model.specs.CallReceive.{call_receive}
use Rattle.mrc_transit.specs.Receiving.{IsFirst, IsReceiveRefusal}
use Rattle.mrc_ports.proofs.TableLaws.{put_twice}
use Rattle.mrc_transit.proofs.StagingLaws.{put_same}
use Rattle.mrc_transit.proofs.ReceiveCalls.{received_left, done, refused_so}
use Rattle.mrc_transit.proofs.ReceiveCalls.{told_ok, told_err, told_on_err, has_room}
use Rattle.mrc_transit.proofs.ReceiveCalls.{alike_put, alike_same}
use Rattle.mrc_transit.proofs.receiving.receive.Goals as goal

pub returns-in-Ok-told-clause-ok : goal.returns-in-Ok-told-clause-ok
returns-in-Ok-told-clause-ok c = λ tasks.
    let s = c.args.store.now in
    let t = c.args.task in
    let j = c.in-Ok.ensures.found.next in
    let y = c.give_first-space.result.0 in
    let both = put_twice s c.put_space-space.new.self c.put_space.new.self t
    c.put_space-space.result y c.new.result (ap is_some j.there) c.put_space-space.ensures.put
    (λ h. (c.put_space.ensures.put h).1) in
    let waits = subst (λ k. IsFirst k c.in-Ok.found.1 j.port j.parcel j.others)
    (sym (c.put_space-space.ensures.put (ap is_some j.there)).1)
    (record { live = j.waits.live; first = j.waits.first }) in
    let left = received_left s c.put_space.new.self c.dequeue.new.self t c.in-Ok.found.1 y j.port
    j.parcel j.others c.dequeue.result j.waits both.1 c.dequeue.ensures in
    let l = set_port s c.in-Ok.found.1 (after_receipt j.port j.others) in
    done tasks s t c.args.name c.args.limit c.in-Ok.found j.from j.port j.waits.live j.parcel
    j.others j.waits.first c.in-Ok.ensures.found.fits c.put_space-space.result both.0 y c.in-Ok-told.bytes
    (told_ok _ c.give_first-space.result.1 c.in-Ok-told.bytes c.in-Ok-told.is
    (c.give_first-space.ensures.given j.port j.parcel j.others waits) l t)
    (told_ok _ c.give_first-space.result.1 c.in-Ok-told.bytes c.in-Ok-told.is
    (c.give_first-space.ensures.written j.port j.parcel j.others waits) l t)
    (has_room y c.bounds.ensures.kept)
    ∙ ap (λ (z : Store). Ok (record { tasks = tasks; store = z }, Bytes c.in-Ok-told.bytes))
    (sym left)

pub returns-in-Ok-told-clause-housed : goal.returns-in-Ok-told-clause-housed
returns-in-Ok-told-clause-housed c =
    let s = c.args.store.now in
    let t = c.args.task in
    let j = c.in-Ok.ensures.found.next in
    let y = c.give_first-space.result.0 in
    let both = put_twice s c.put_space-space.new.self c.put_space.new.self t
    c.put_space-space.result y c.new.result (ap is_some j.there) c.put_space-space.ensures.put
    (λ h. (c.put_space.ensures.put h).1) in
    let left = received_left s c.put_space.new.self c.dequeue.new.self t c.in-Ok.found.1 y j.port
    j.parcel j.others c.dequeue.result j.waits both.1 c.dequeue.ensures in
    alike_put s c.dequeue.new.self t y (ap is_some j.there) (ap (λ (z : Store). z.spaces) left)
    (ap (λ (z : Store). z.next) left)

pub returns-in-Err-told-clause-refused : goal.returns-in-Err-told-clause-refused
returns-in-Err-told-clause-refused c = λ tasks.
    let s = c.args.store.now in
    let t = c.args.task in
    let j = c.in-Ok.ensures.found.next in
    let y = c.give_first-space.result.0 in
    let both = put_twice s c.put_space-space.new.self c.put_space.new.self t
    c.put_space-space.result y c.new.result (ap is_some j.there) c.put_space-space.ensures.put
    (λ h. (c.put_space.ensures.put h).1) in
    let waits = subst (λ k. IsFirst k c.in-Ok.found.1 j.port j.parcel j.others)
    (sym (c.put_space-space.ensures.put (ap is_some j.there)).1)
    (record { live = j.waits.live; first = j.waits.first }) in
    let l = set_port s c.in-Ok.found.1 (after_receipt j.port j.others) in
    subst (λ k. IsReceiveRefusal k (call_receive (record { tasks = tasks; store = s }) t
    c.args.name c.args.limit)) (sym c.no_space.ensures)
    (refused_so tasks s t c.args.name c.args.limit c.in-Ok.found j.from j.port j.waits.live
    j.parcel j.others j.waits.first c.in-Ok.ensures.found.fits c.put_space-space.result both.0 c.in-Err-told.e
    (told_err _ c.give_first-space.result.1 c.in-Err-told.e c.in-Err-told.is
    (c.give_first-space.ensures.refused j.port j.parcel j.others waits) l t))

pub returns-in-Err-told-clause-err : goal.returns-in-Err-told-clause-err
returns-in-Err-told-clause-err c =
    let s = c.args.store.now in
    let t = c.args.task in
    let j = c.in-Ok.ensures.found.next in
    let y = c.give_first-space.result.0 in
    let both = put_twice s c.put_space-space.new.self c.put_space.new.self t
    c.put_space-space.result y c.new.result (ap is_some j.there) c.put_space-space.ensures.put
    (λ h. (c.put_space.ensures.put h).1) in
    both.1
    ∙ ap (set_space s t) (told_on_err _ c.give_first-space.result.1 c.in-Err-told.e c.in-Err-told.is
    c.give_first-space.ensures.err)
    ∙ put_same s t c.put_space-space.result both.0

pub returns-in-Err-told-clause-housed : goal.returns-in-Err-told-clause-housed
returns-in-Err-told-clause-housed c =
    let s = c.args.store.now in
    let t = c.args.task in
    let j = c.in-Ok.ensures.found.next in
    let y = c.give_first-space.result.0 in
    let both = put_twice s c.put_space-space.new.self c.put_space.new.self t
    c.put_space-space.result y c.new.result (ap is_some j.there) c.put_space-space.ensures.put
    (λ h. (c.put_space.ensures.put h).1) in
    alike_same s c.put_space.new.self (
    both.1
    ∙ ap (set_space s t) (told_on_err _ c.give_first-space.result.1 c.in-Err-told.e c.in-Err-told.is
    c.give_first-space.ensures.err)
    ∙ put_same s t c.put_space-space.result both.0
    )
