use Rattle.std.proofs.Common.{◌≡◌, Ok, ap, ◌∙◌, sym, subst, refl}
use Rattle.std.specs.Prelude.{IsSome}
use Rattle.mrc_model.specs.declared.Verb.TheVariants.{Takes}
use Rattle.mrc_model.specs.Map.{get}
use Rattle.mrc_model.specs.World.{World}
use Rattle.mrc_model.specs.Space.{put_entry, is_full}
use Rattle.mrc_model.specs.Target.{with_space}
use Rattle.mrc_model.specs.Reply.{Refused}
use Rattle.mrc_model.specs.CallInsertRight.{call_extract_right}
use Rattle.mrc_wiring.specs.Table.{wiring_of}
use Rattle.mrc_machine.specs.Calls.{IsRefusedBy}
use Rattle.mrc_index.specs.Undo.{CanPut}
use Rattle.mrc_names.specs.Takes.{take_right}
use Rattle.mrc_machine.proofs.MoveLaws.{extract_not_taken, extract_denied, extract_full}
use Rattle.mrc_machine.proofs.MoveLaws.{extract_not_given, extract_given, moved_across, beside_other}
use Rattle.mrc_machine.proofs.MoveLaws.{other_space, may_given}
use Rattle.mrc_machine.proofs.state.State.extract_across.Goals as goal

pub returns-in-Err-clause-refused : goal.returns-in-Err-clause-refused
returns-in-Err-clause-refused c =
    extract_not_taken (wiring_of c.args.wired.now) c.args.self.now c.args.caller c.args.task
    c.args.name c.args.disp
    c.args.target c.requires.target _ c.space.ensures (Refused c.in-Err.code)
    c.in-Err.ensures.refused

pub returns-then-not-may_on-clause-refused : goal.returns-then-not-may_on-clause-refused
returns-then-not-may_on-clause-refused c =
    let w = c.args.self.now in
    extract_denied (wiring_of c.args.wired.now) w c.args.caller c.args.task c.args.name c.args.disp
    c.args.target c.requires.target _ c.space.ensures _ _ c.in-Ok.taken.0 c.in-Ok.ensures.found
    (beside_other w.store c.args.target c.args.caller _ c.requires.apart)
    (may_given (wiring_of c.args.wired.now) w Takes c.args.caller c.args.target c.in-Ok.taken.0
    c.give-right.result c.args.disp _ c.give-right.ensures c.may_on.ensures
    ∙ c.if-not-may_on.true)

pub returns-then-is_full-clause-refused : goal.returns-then-is_full-clause-refused
returns-then-is_full-clause-refused c =
    let w = c.args.self.now in
    extract_full (wiring_of c.args.wired.now) w c.args.caller c.args.task c.args.name c.args.disp
    c.args.target c.requires.target _ c.space.ensures _ _ c.in-Ok.taken.0 c.in-Ok.ensures.found
    (beside_other w.store c.args.target c.args.caller _ c.requires.apart)
    (may_given (wiring_of c.args.wired.now) w Takes c.args.caller c.args.target c.in-Ok.taken.0
    c.give-right.result c.args.disp _ c.give-right.ensures c.may_on.ensures
    ∙ c.if-not-may_on.false)
    (ap is_full (sym c.space-2.ensures) ∙ sym c.is_full.ensures ∙ c.if-is_full.true)

pub returns-in-Err-copyout-clause-refused : goal.returns-in-Err-copyout-clause-refused
returns-in-Err-copyout-clause-refused c =
    let w = c.args.self.now in
    subst (λ e. IsRefusedBy e (call_extract_right (wiring_of c.args.wired.now) w c.args.caller
    c.args.task c.args.name c.args.disp)) (sym c.refusal_of.ensures) (extract_not_given (wiring_of
    c.args.wired.now) w c.args.caller c.args.task c.args.name c.args.disp
    c.args.target c.requires.target _ c.space.ensures _ _ c.in-Ok.taken.0 c.in-Ok.ensures.found
    (beside_other w.store c.args.target c.args.caller _ c.requires.apart)
    (may_given (wiring_of c.args.wired.now) w Takes c.args.caller c.args.target c.in-Ok.taken.0
    c.give-right.result c.args.disp _ c.give-right.ensures c.may_on.ensures
    ∙ c.if-not-may_on.false)
    (ap is_full (sym c.space-2.ensures) ∙ sym c.is_full.ensures ∙ c.if-is_full.false)
    c.give-right.result c.give-right.ensures _ c.in-Err-copyout.ensures.refused)

pub leave-requires-clause-there : goal.leave-requires-clause-there
leave-requires-clause-there c =
    subst (λ (v : World). IsSome (get v.tasks c.args.target))
    (sym c.in-Ok-copyout.ensures.ok.2) c.requires.there

pub leave-requires-clause-left : goal.leave-requires-clause-left
leave-requires-clause-left c =
    let w = c.args.self.now in
    subst (λ x. CanPut x c.args.name c.in-Ok.taken.1)
    (c.space.ensures ∙ sym (other_space w c.copyout.new.self c.args.target c.args.caller
    c.in-Ok-copyout.ensures.ok.0 c.requires.apart c.in-Ok-copyout.ensures.ok.2))
    c.in-Ok.ensures.alike

pub returns-clause-ok : goal.returns-clause-ok
returns-clause-ok c =
    let w = c.args.self.now in
    let rest = c.in-Ok.taken.1 in
    let put = c.in-Ok-copyout.ensures.ok in
    let took = subst (λ x. take_right x c.args.name c.args.disp
    ≡ Ok (put_entry x c.args.name rest, c.in-Ok.taken.0)) c.space.ensures
    c.in-Ok.ensures.found in
    let left = c.leave.ensures
    ∙ ap (λ x. with_space c.copyout.new.self c.args.target (put_entry x c.args.name rest))
    (other_space w c.copyout.new.self c.args.target c.args.caller put.0 c.requires.apart put.2) in
    extract_given (wiring_of c.args.wired.now) w c.args.caller c.args.task c.args.name c.args.disp
    c.args.target c.requires.target _ refl _ _ c.in-Ok.taken.0 took
    (beside_other w.store c.args.target c.args.caller _ c.requires.apart)
    (may_given (wiring_of c.args.wired.now) w Takes c.args.caller c.args.target c.in-Ok.taken.0
    c.give-right.result c.args.disp _ c.give-right.ensures c.may_on.ensures
    ∙ c.if-not-may_on.false)
    (ap is_full (sym c.space-2.ensures) ∙ sym c.is_full.ensures ∙ c.if-is_full.false)
    c.give-right.result c.give-right.ensures put.0 c.in-Ok-copyout.given c.give-right.result _ put.1
    c.give-right.ensures
    (moved_across w c.copyout.new.self c.leave.new.self _ c.args.target c.args.caller
    c.in-Ok.taken.0 _ put.0 c.give-right.result c.requires.apart put.2 left
    c.restart_moved.ensures)
