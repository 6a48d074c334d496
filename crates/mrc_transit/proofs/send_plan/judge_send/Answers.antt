use Rattle.std.proofs.Common.{◌≡◌, Bool, true, false, not, refl, sym, ap, subst, ◌∙◌, arith}
use Rattle.std.proofs.lemmas.Result.{err_from_is_err_and}
use Rattle.mrc_model.specs.Rights.{is_once}
use Rattle.mrc_model.specs.Map.{get}
use Rattle.mrc_model.specs.Wiring.{form_shapes}
use Rattle.mrc_wiring.specs.Table.{wiring_of}
use Rattle.mrc_desc.specs.Lawful.{AreLawful}
use Rattle.mrc_desc.specs.View.{arguments_of}
use Rattle.mrc_names.proofs.LeavingLaws.{no_rests}
use Rattle.mrc_ports.specs.Parcels.{AreCarried}
use Rattle.mrc_ports.specs.Tables.{Table}
use Rattle.mrc_filter.proofs.Few.{few}
use Rattle.mrc_transit.specs.Staging.{Scratch}
use Rattle.mrc_transit.specs.Sending.{judge_reply}
use Rattle.mrc_transit.proofs.StagingLaws.{room_first, room_later}
use Rattle.mrc_transit.proofs.CarriedLaws.{taken_carried}
use Rattle.mrc_transit.proofs.QueueLaws.{judged_items, few_names}
use Rattle.mrc_transit.proofs.PlanLaws.{plan_no_disp, plan_no_space, plan_no_right, plan_no_port}
use Rattle.mrc_transit.proofs.PlanLaws.{plan_denied, plan_no_reply, plan_unfit, plan_no_args}
use Rattle.mrc_transit.proofs.PlanLaws.{plan_at_limit, plan_done, plan_ready}
use Rattle.mrc_transit.proofs.send_plan.judge_send.Goals as goal

not_true : (b : Bool) → not b ≡ true → b ≡ false
not_true true is = cc
not_true false is = refl

pub take-requires : goal.take-requires
take-requires c =
    room_first c.clear.new.self 1 c.clear.ensures (omega arith)

pub take_reply-requires : goal.take_reply-requires
take_reply-requires c =
    c.take.ensures.room 1 (room_first c.clear.new.self 2 c.clear.ensures (omega arith))

pub take_args-requires-clause-few : goal.take_args-requires-clause-few
take_args-requires-clause-few c =
    few c.args.message.now c.args-2.result.now c.args-2.ensures.lawful c.args-2.ensures.exact

pub take_args-requires-clause-room : goal.take_args-requires-clause-room
take_args-requires-clause-room c =
    room_later c.clear.new.self c.take.new.self c.take_reply.new.self _ c.clear.ensures (few_names
    (arguments_of c.args-2.result.now) (subst AreLawful (sym c.args-2.ensures.exact)
    c.args-2.ensures.lawful.args)) c.take.ensures.room c.take_reply.ensures.room

pub returns-in_default-clause-refused : goal.returns-in_default-clause-refused
returns-in_default-clause-refused c =
    plan_no_disp (wiring_of c.args.wired.now) c.args.store.now c.args.own c.args.sender
    c.args.message.now c.header-header.result c.header-header.ensures (sym
    c.destination_disp.ensures ∙ c.in_default.is)

pub returns-in_default-space-clause-refused : goal.returns-in_default-space-clause-refused
returns-in_default-space-clause-refused c =
    plan_no_space (wiring_of c.args.wired.now) c.args.store.now c.args.own c.args.sender
    c.args.message.now c.header-header.result c.header-header.ensures c.in-Some.disp (sym
    c.destination_disp.ensures ∙ c.in-Some.is) (sym c.in_default-space.ensures)

pub returns-in_default-take-clause-refused : goal.returns-in_default-take-clause-refused
returns-in_default-take-clause-refused c =
    plan_no_right (wiring_of c.args.wired.now) c.args.store.now c.args.own c.args.sender
    c.args.message.now c.header-header.result c.header-header.ensures c.in-Some.disp (sym
    c.destination_disp.ensures ∙ c.in-Some.is) c.in-Some-space.space.now (sym
    c.in-Some-space.ensures) c.clear.new.self c.clear.ensures (λ e.
    c.in_default-take.ensures.refused c.args.store.now c.args.sender e)

pub returns-in_default-get-clause-refused : goal.returns-in_default-get-clause-refused
returns-in_default-get-clause-refused c =
    plan_no_port (wiring_of c.args.wired.now) c.args.store.now c.args.own c.args.sender
    c.args.message.now c.header-header.result c.header-header.ensures c.in-Some.disp (sym
    c.destination_disp.ensures ∙ c.in-Some.is) c.in-Some-space.space.now (sym
    c.in-Some-space.ensures) c.clear.new.self c.clear.ensures c.take.new.self c.in-Ok.destination (λ
    e. c.in-Ok.ensures.taken c.args.store.now c.args.sender e) (sym (c.in_default-get.ensures ∙ ap
    (λ (t : Table). get t.ports c.in-Ok.destination) c.ports.ensures))

pub returns-in-Err-clause-refused : goal.returns-in-Err-clause-refused
returns-in-Err-clause-refused c =
    plan_denied (wiring_of c.args.wired.now) c.args.store.now c.args.own c.args.sender
    c.args.message.now c.header-header.result c.header-header.ensures c.in-Some.disp (sym
    c.destination_disp.ensures ∙ c.in-Some.is) c.in-Some-space.space.now (sym
    c.in-Some-space.ensures) c.clear.new.self c.clear.ensures c.take.new.self c.in-Ok.destination (λ
    e. c.in-Ok.ensures.taken c.args.store.now c.args.sender e) c.in-Some-get.port.now (sym
    (c.in-Some-get.ensures ∙ ap (λ (t : Table). get t.ports c.in-Ok.destination) c.ports.ensures))
    c.class.result c.class.ensures c.in-Err.denied c.in-Err.ensures.exact

pub returns-in_default-take_reply-clause-refused : goal.returns-in_default-take_reply-clause-refused
returns-in_default-take_reply-clause-refused c =
    plan_no_reply (wiring_of c.args.wired.now) c.args.store.now c.args.own c.args.sender
    c.args.message.now c.header-header.result c.header-header.ensures c.in-Some.disp (sym
    c.destination_disp.ensures ∙ c.in-Some.is) c.in-Some-space.space.now (sym
    c.in-Some-space.ensures) c.clear.new.self c.clear.ensures c.take.new.self c.in-Ok.destination (λ
    e. c.in-Ok.ensures.taken c.args.store.now c.args.sender e) c.in-Some-get.port.now (sym
    (c.in-Some-get.ensures ∙ ap (λ (t : Table). get t.ports c.in-Ok.destination) c.ports.ensures))
    c.class.result c.class.ensures c.in-Ok-judge.form c.in-Ok-judge.ensures.exact
    c.local_disp-reply_disp.result c.local_disp-reply_disp.ensures (λ e.
    c.in_default-take_reply.ensures.refused c.args.store.now c.args.sender e)

pub returns-in_err-judge_reply-clause-refused : goal.returns-in_err-judge_reply-clause-refused
returns-in_err-judge_reply-clause-refused c =
    let p = err_from_is_err_and c.from_residual.result c.from_residual.ensures.1 in
    rw (p.1, p.2) (plan_unfit (wiring_of c.args.wired.now) c.args.store.now c.args.own c.args.sender
    c.args.message.now c.header-header.result c.header-header.ensures c.in-Some.disp (sym
    c.destination_disp.ensures ∙ c.in-Some.is) c.in-Some-space.space.now (sym
    c.in-Some-space.ensures) c.clear.new.self c.clear.ensures c.take.new.self c.in-Ok.destination (λ
    e. c.in-Ok.ensures.taken c.args.store.now c.args.sender e) c.in-Some-get.port.now (sym
    (c.in-Some-get.ensures ∙ ap (λ (t : Table). get t.ports c.in-Ok.destination) c.ports.ensures))
    c.class.result c.class.ensures c.in-Ok-judge.form c.in-Ok-judge.ensures.exact
    c.local_disp-reply_disp.result c.local_disp-reply_disp.ensures c.take_reply.new.self
    c.in-Ok-take_reply.reply (λ e. c.in-Ok-take_reply.ensures.taken c.args.store.now c.args.sender
    e) c.in_err-judge_reply.field-0.0 (ap (λ k. judge_reply (wiring_of c.args.wired.now)
    c.args.store.now c.args.own k c.header-header.result.id c.in-Ok-take_reply.reply)
    (c.class.ensures ∙ sym c.class-2.ensures) ∙ c.in_err-judge_reply.ensures.refused))

pub returns-in_err-take_args-clause-refused : goal.returns-in_err-take_args-clause-refused
returns-in_err-take_args-clause-refused c =
    let p = err_from_is_err_and c.from_residual-in_err-take_args.result
    c.from_residual-in_err-take_args.ensures.1 in
    rw (p.1, p.2) (plan_no_args (wiring_of c.args.wired.now) c.args.store.now c.args.own
    c.args.sender c.args.message.now c.header-header.result c.header-header.ensures c.in-Some.disp
    (sym c.destination_disp.ensures ∙ c.in-Some.is) c.in-Some-space.space.now (sym
    c.in-Some-space.ensures) c.clear.new.self c.clear.ensures c.take.new.self c.in-Ok.destination (λ
    e. c.in-Ok.ensures.taken c.args.store.now c.args.sender e) c.in-Some-get.port.now (sym
    (c.in-Some-get.ensures ∙ ap (λ (t : Table). get t.ports c.in-Ok.destination) c.ports.ensures))
    c.class.result c.class.ensures c.in-Ok-judge.form c.in-Ok-judge.ensures.exact
    c.local_disp-reply_disp.result c.local_disp-reply_disp.ensures c.take_reply.new.self
    c.in-Ok-take_reply.reply (λ e. c.in-Ok-take_reply.ensures.taken c.args.store.now c.args.sender
    e) (ap (λ k. judge_reply (wiring_of c.args.wired.now) c.args.store.now c.args.own k
    c.header-header.result.id c.in-Ok-take_reply.reply) (c.class.ensures ∙ sym c.class-2.ensures) ∙
    c.in_ok-judge_reply.ensures.ok) (arguments_of c.args-2.result.now) c.args-2.ensures.exact
    c.in_err-take_args.field-0.0 (c.in_err-take_args.ensures.refused c.args.sender))

pub returns-then-is_full_for-clause-refused : goal.returns-then-is_full_for-clause-refused
returns-then-is_full_for-clause-refused c =
    plan_at_limit (wiring_of c.args.wired.now) c.args.store.now c.args.own c.args.sender
    c.args.message.now c.header-header.result c.header-header.ensures c.in-Some.disp (sym
    c.destination_disp.ensures ∙ c.in-Some.is) c.in-Some-space.space.now (sym
    c.in-Some-space.ensures) c.clear.new.self c.clear.ensures c.take.new.self c.in-Ok.destination (λ
    e. c.in-Ok.ensures.taken c.args.store.now c.args.sender e) c.in-Some-get.port.now (sym
    (c.in-Some-get.ensures ∙ ap (λ (t : Table). get t.ports c.in-Ok.destination) c.ports.ensures))
    c.class.result c.class.ensures c.in-Ok-judge.form c.in-Ok-judge.ensures.exact
    c.local_disp-reply_disp.result c.local_disp-reply_disp.ensures c.take_reply.new.self
    c.in-Ok-take_reply.reply (λ e. c.in-Ok-take_reply.ensures.taken c.args.store.now c.args.sender
    e) (ap (λ k. judge_reply (wiring_of c.args.wired.now) c.args.store.now c.args.own k
    c.header-header.result.id c.in-Ok-take_reply.reply) (c.class.ensures ∙ sym c.class-2.ensures) ∙
    c.in_ok-judge_reply.ensures.ok) (arguments_of c.args-2.result.now) c.args-2.ensures.exact
    c.take_args.new.self c.in_ok-take_args.ensures.taken.0 (c.in_ok-take_args.ensures.taken.2
    c.args.sender) c.is_once-by_once.result (c.is_once-by_once.ensures ∙ ap is_once c.give.ensures)
    (sym c.is_full_for.ensures ∙ c.if-is_full_for.true)

pub returns-clause-ok : goal.returns-clause-ok
returns-clause-ok c =
    plan_done (wiring_of c.args.wired.now) c.args.store.now c.args.own c.args.sender
    c.args.message.now c.header-header.result c.header-header.ensures c.in-Some.disp (sym
    c.destination_disp.ensures ∙ c.in-Some.is) c.in-Some-space.space.now (sym
    c.in-Some-space.ensures) c.clear.new.self c.clear.ensures c.take.new.self c.in-Ok.destination (λ
    e. c.in-Ok.ensures.taken c.args.store.now c.args.sender e) c.in-Some-get.port.now (sym
    (c.in-Some-get.ensures ∙ ap (λ (t : Table). get t.ports c.in-Ok.destination) c.ports.ensures))
    c.class.result c.class.ensures c.in-Ok-judge.form c.in-Ok-judge.ensures.exact
    c.local_disp-reply_disp.result c.local_disp-reply_disp.ensures c.take_reply.new.self
    c.in-Ok-take_reply.reply (λ e. c.in-Ok-take_reply.ensures.taken c.args.store.now c.args.sender
    e) (ap (λ k. judge_reply (wiring_of c.args.wired.now) c.args.store.now c.args.own k
    c.header-header.result.id c.in-Ok-take_reply.reply) (c.class.ensures ∙ sym c.class-2.ensures) ∙
    c.in_ok-judge_reply.ensures.ok) (arguments_of c.args-2.result.now) c.args-2.ensures.exact
    c.take_args.new.self c.in_ok-take_args.ensures.taken.0 (c.in_ok-take_args.ensures.taken.2
    c.args.sender) c.is_once-by_once.result (c.is_once-by_once.ensures ∙ ap is_once c.give.ensures)
    (sym c.is_full_for.ensures ∙ c.if-is_full_for.false) (judged_items (wiring_of c.args.wired.now)
    c.args.own c.args.sender 0 (form_shapes c.in-Ok-judge.form.found.now) _ _ (arguments_of
    c.args-2.result.now) c.args.message.now.args c.in_ok-take_args.ensures.taken.0
    c.take_reply.new.self.items c.take_args.new.self.items (c.in_ok-take_args.ensures.taken.2
    c.args.sender) c.args-2.ensures.exact c.in_ok-take_args.ensures.taken.1
    (c.take_reply.ensures.items ∙ c.take.ensures.items ∙ ap (λ (k : Scratch). k.items)
    c.clear.ensures)).1

pub returns-clause-ready : goal.returns-clause-ready
returns-clause-ready c =
    λ room. plan_ready (wiring_of c.args.wired.now) c.args.store.now c.args.own c.args.sender
    c.args.message.now c.header-header.result c.header-header.ensures c.in-Some.disp (sym
    c.destination_disp.ensures ∙ c.in-Some.is) c.in-Some-space.space.now (sym
    c.in-Some-space.ensures) c.clear.new.self c.clear.ensures c.take.new.self c.in-Ok.destination (λ
    e. c.in-Ok.ensures.taken c.args.store.now c.args.sender e) c.in-Some-get.port.now (sym
    (c.in-Some-get.ensures ∙ ap (λ (t : Table). get t.ports c.in-Ok.destination) c.ports.ensures))
    c.class.result c.class.ensures c.in-Ok-judge.form c.in-Ok-judge.ensures.exact
    c.local_disp-reply_disp.result c.local_disp-reply_disp.ensures c.take_reply.new.self
    c.in-Ok-take_reply.reply (λ e. c.in-Ok-take_reply.ensures.taken c.args.store.now c.args.sender
    e) (ap (λ k. judge_reply (wiring_of c.args.wired.now) c.args.store.now c.args.own k
    c.header-header.result.id c.in-Ok-take_reply.reply) (c.class.ensures ∙ sym c.class-2.ensures) ∙
    c.in_ok-judge_reply.ensures.ok) (arguments_of c.args-2.result.now) c.args-2.ensures.exact
    c.take_args.new.self c.in_ok-take_args.ensures.taken.0 (c.in_ok-take_args.ensures.taken.2
    c.args.sender) c.is_once-by_once.result (c.is_once-by_once.ensures ∙ ap is_once c.give.ensures)
    (sym c.is_full_for.ensures ∙ c.if-is_full_for.false) (judged_items (wiring_of c.args.wired.now)
    c.args.own c.args.sender 0 (form_shapes c.in-Ok-judge.form.found.now) _ _ (arguments_of
    c.args-2.result.now) c.args.message.now.args c.in_ok-take_args.ensures.taken.0
    c.take_reply.new.self.items c.take_args.new.self.items (c.in_ok-take_args.ensures.taken.2
    c.args.sender) c.args-2.ensures.exact c.in_ok-take_args.ensures.taken.1
    (c.take_reply.ensures.items ∙ c.take.ensures.items ∙ ap (λ (k : Scratch). k.items)
    c.clear.ensures)).1 (c.take_args.ensures.rests (c.take_reply.ensures.rests (c.take.ensures.rests
    (no_rests c.in-Some-space.space.now c.clear.new.self.rests (ap (λ (k : Scratch). k.rests)
    c.clear.ensures))))) (sym c.is_out_of_room.ensures ∙ not_true c.is_out_of_room.result room)

pub returns-clause-many : goal.returns-clause-many
returns-clause-many c =
    (judged_items (wiring_of c.args.wired.now) c.args.own c.args.sender 0 (form_shapes
    c.in-Ok-judge.form.found.now) _ _ (arguments_of c.args-2.result.now) c.args.message.now.args
    c.in_ok-take_args.ensures.taken.0 c.take_reply.new.self.items c.take_args.new.self.items
    (c.in_ok-take_args.ensures.taken.2 c.args.sender) c.args-2.ensures.exact
    c.in_ok-take_args.ensures.taken.1 (c.take_reply.ensures.items ∙ c.take.ensures.items ∙ ap (λ (k
    : Scratch). k.items) c.clear.ensures)).0

pub returns-clause-carried : goal.returns-clause-carried
returns-clause-carried c =
    subst AreCarried (sym (judged_items (wiring_of c.args.wired.now) c.args.own c.args.sender 0
    (form_shapes c.in-Ok-judge.form.found.now) _ _ (arguments_of c.args-2.result.now)
    c.args.message.now.args c.in_ok-take_args.ensures.taken.0 c.take_reply.new.self.items
    c.take_args.new.self.items (c.in_ok-take_args.ensures.taken.2 c.args.sender)
    c.args-2.ensures.exact c.in_ok-take_args.ensures.taken.1 (c.take_reply.ensures.items ∙
    c.take.ensures.items ∙ ap (λ (k : Scratch). k.items) c.clear.ensures)).1) (taken_carried _ _
    c.args.sender _ _ _ _ _ _ (c.in_ok-take_args.ensures.taken.2 c.args.sender) (subst AreLawful
    (sym c.args-2.ensures.exact) c.args-2.ensures.lawful.args))
