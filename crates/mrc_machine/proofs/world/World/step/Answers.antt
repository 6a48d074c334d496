use Rattle.std.proofs.Common.{sym, ap, ◌∙◌, subst}
use Rattle.mrc_model.specs.Map.{get}
use Rattle.mrc_model.specs.World.{World}
use Rattle.mrc_model.specs.Target.{is_alive}
use Rattle.mrc_model.specs.Step.{step, try_call}
use Rattle.mrc_model.specs.Covers.{HasSpaces, IsWellFormed}
use Rattle.mrc_model.specs.Wiring.{numbers_of}
use Rattle.mrc_wiring.specs.Table.{wiring_of}
use Rattle.mrc_machine.specs.Calls.{call_of, refusal_reply, IsRefusedBy}
use Rattle.mrc_machine.specs.Rooms.{size_of_call, Fits}
use Rattle.mrc_machine.proofs.RoomLaws.{answer_fits, refusal_fits}
use Rattle.mrc_machine.proofs.StepLaws.{step_dead, step_done, step_refused}
use Rattle.mrc_machine.proofs.StepLaws.{formed_after, spaces_after}
use Rattle.mrc_machine.proofs.world.World.step.Goals.{in-Ok, in-Err-Fault, in-Err-Memory}
use Rattle.mrc_machine.proofs.world.World.step.Goals as goal

pub returns-then-not-is_alive-clause-step : goal.returns-then-not-is_alive-clause-step
returns-then-not-is_alive-clause-step c =
    step_dead (wiring_of c.args.wired.now) c.args.self.now c.args.caller (call_of c.args.call.now)
    (ap (λ (v : World). is_alive (get v.tasks c.args.caller)) (sym c.self.view_is)
    ∙ sym c.is_alive.ensures.exact ∙ c.if-not-is_alive.true)

pub invariant_of-self : goal.invariant_of-self
invariant_of-self c =
    let W = wiring_of c.args.wired.now in
    let alive = sym c.is_alive.ensures.exact ∙ c.if-not-is_alive.false in
    elim c.match-call.branch [
      | in-Ok w ↦ spaces_after W c.self.inside.state c.args.caller (call_of c.args.call.now) _ _
          (step_done W c.self.inside.state c.args.caller (call_of c.args.call.now) alive _ _
          w.in-Ok.ensures.0) c.self.invariant
      | in-Err-Fault w ↦ subst HasSpaces (sym w.in-Err-Fault.ensures.1) c.self.invariant
      | in-Err-Memory w ↦ subst HasSpaces (sym w.in-Err-Memory.ensures.1) c.self.invariant
    ]

pub returns-clause-step : goal.returns-clause-step
returns-clause-step c =
    let W = wiring_of c.args.wired.now in
    let call = call_of c.args.call.now in
    let was = c.self.inside.state in
    let alive = sym c.is_alive.ensures.exact ∙ c.if-not-is_alive.false in
    elim c.match-call.branch [
      | in-Ok w ↦ rw w.result-is (ap (λ (v : World). step W v c.args.caller call)
          (sym c.self.view_is)
          ∙ step_done W was c.args.caller call alive _ _ w.in-Ok.ensures.0)
      | in-Err-Fault w ↦
          let refused = subst
          (λ e. IsRefusedBy e (try_call W was c.args.caller call))
          w.in-Err-Fault.field-0-is w.in-Err-Fault.ensures.0 in
          rw w.result-is (ap (λ (v : World). step W v c.args.caller call) (sym c.self.view_is)
          ∙ step_refused W was c.args.caller call alive (refusal_reply w.in-Err-Fault.refusal)
          refused
          ∙ ap (λ (v : World). (v, refusal_reply w.in-Err-Fault.refusal))
          (sym w.in-Err-Fault.ensures.1)
          ∙ ap (λ e. (c.call.new.self, e)) (sym w.reply.ensures.exact))
      | in-Err-Memory w ↦ rw w.result-is tt
    ]

pub returns-clause-fits : goal.returns-clause-fits
returns-clause-fits c =
    let alive = sym c.is_alive.ensures.exact ∙ c.if-not-is_alive.false in
    elim c.match-call.branch [
      | in-Ok w ↦ rw w.result-is (subst
          (λ (v : World). Fits (size_of_call v c.args.caller c.args.call.now) w.in-Ok.reply)
          c.self.view_is
          (answer_fits (wiring_of c.args.wired.now) c.self.inside.state c.args.caller
          c.args.call.now _ w.in-Ok.reply alive w.in-Ok.ensures.0))
      | in-Err-Fault w ↦ rw w.result-is (refusal_fits _ _ w.reply.ensures.refused)
      | in-Err-Memory w ↦ rw w.result-is tt
    ]

pub returns-clause-well_formed : goal.returns-clause-well_formed
returns-clause-well_formed c formed =
    let W = wiring_of c.args.wired.now in
    let call = call_of c.args.call.now in
    let was = c.self.inside.state in
    let alive = sym c.is_alive.ensures.exact ∙ c.if-not-is_alive.false in
    let before = subst (IsWellFormed (numbers_of W)) (sym c.self.view_is) formed in
    elim c.match-call.branch [
      | in-Ok w ↦ formed_after c.step_covered.ensures.kept W was _ c.args.caller call _
          (step_done W was c.args.caller call alive _ _ w.in-Ok.ensures.0) before
      | in-Err-Fault w ↦ subst (IsWellFormed (numbers_of W)) (sym w.in-Err-Fault.ensures.1) before
      | in-Err-Memory w ↦ subst (IsWellFormed (numbers_of W)) (sym w.in-Err-Memory.ensures.1) before
    ]
