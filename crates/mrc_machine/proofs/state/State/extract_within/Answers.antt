use Rattle.std.proofs.Common.{◌≡◌, Ok, refl, sym, ap, ◌∙◌, subst}
use Rattle.std.specs.Prelude.{IsSome}
use Rattle.mrc_model.specs.declared.Verb.TheVariants.{Takes}
use Rattle.mrc_base.specs.Disposition.{given}
use Rattle.mrc_model.specs.Map.{get}
use Rattle.mrc_model.specs.World.{space}
use Rattle.mrc_model.specs.Space.{put_entry}
use Rattle.mrc_model.specs.Reply.{Refused}
use Rattle.mrc_model.specs.CallInsertRight.{call_extract_right}
use Rattle.mrc_machine.specs.Calls.{IsRefusedBy}
use Rattle.mrc_index.specs.Undo.{CanPut}
use Rattle.mrc_names.specs.Takes.{take_right}
use Rattle.mrc_machine.proofs.MoveLaws.{extract_not_taken, extract_full, extract_not_given}
use Rattle.mrc_machine.proofs.MoveLaws.{extract_given, moved_within, beside_same, may_own}
use Rattle.mrc_machine.proofs.state.State.extract_within.Goals as goal

pub returns-in-Err-clause-refused : goal.returns-in-Err-clause-refused
returns-in-Err-clause-refused c W =
    extract_not_taken W c.args.self.now c.args.caller c.args.task c.args.name c.args.disp
    c.args.caller c.requires.target _ c.space.ensures (Refused c.in-Err.code)
    c.in-Err.ensures.refused

pub returns-then-is_full_after-clause-refused : goal.returns-then-is_full_after-clause-refused
returns-then-is_full_after-clause-refused c W =
    let w = c.args.self.now in
    let h = put_entry (space w.store c.args.caller) c.args.name c.in-Ok.taken.1 in
    let took = subst (λ x. take_right x c.args.name c.args.disp
    ≡ Ok (put_entry x c.args.name c.in-Ok.taken.1, c.in-Ok.taken.0)) c.space.ensures
    c.in-Ok.ensures.found in
    let here = ap (λ x. take_right x c.args.name c.args.disp) c.space-2.ensures ∙ took in
    extract_full W w c.args.caller c.args.task c.args.name c.args.disp
    c.args.caller c.requires.target _ refl h _ c.in-Ok.taken.0 took
    (beside_same w.store c.args.caller c.args.caller h refl)
    (may_own W w Takes c.args.caller c.in-Ok.taken.0 (given c.args.disp))
    (sym (c.is_full_after.ensures h _ here) ∙ c.if-is_full_after.true)

pub exchange-requires-clause-used : goal.exchange-requires-clause-used
exchange-requires-clause-used c =
    subst (λ x. IsSome (get x c.args.name)) c.space.ensures c.in-Ok.ensures.there

pub exchange-requires-clause-left : goal.exchange-requires-clause-left
exchange-requires-clause-left c =
    subst (λ x. CanPut x c.args.name c.in-Ok.taken.1) c.space.ensures c.in-Ok.ensures.alike

pub returns-in-Err-exchange-clause-refused : goal.returns-in-Err-exchange-clause-refused
returns-in-Err-exchange-clause-refused c W =
    let w = c.args.self.now in
    let h = put_entry (space w.store c.args.caller) c.args.name c.in-Ok.taken.1 in
    let took = subst (λ x. take_right x c.args.name c.args.disp
    ≡ Ok (put_entry x c.args.name c.in-Ok.taken.1, c.in-Ok.taken.0)) c.space.ensures
    c.in-Ok.ensures.found in
    let here = ap (λ x. take_right x c.args.name c.args.disp) c.space-2.ensures ∙ took in
    subst (λ e. IsRefusedBy e (call_extract_right W w c.args.caller c.args.task c.args.name
    c.args.disp)) (sym c.refusal_of.ensures) (extract_not_given W w c.args.caller c.args.task
    c.args.name c.args.disp
    c.args.caller c.requires.target _ refl h h c.in-Ok.taken.0 took
    (beside_same w.store c.args.caller c.args.caller h refl)
    (may_own W w Takes c.args.caller c.in-Ok.taken.0 (given c.args.disp))
    (sym (c.is_full_after.ensures h _ here) ∙ c.if-is_full_after.false)
    c.give-right.result c.give-right.ensures _ c.in-Err-exchange.ensures.refused)

pub returns-clause-ok : goal.returns-clause-ok
returns-clause-ok c W =
    let w = c.args.self.now in
    let h = put_entry (space w.store c.args.caller) c.args.name c.in-Ok.taken.1 in
    let took = subst (λ x. take_right x c.args.name c.args.disp
    ≡ Ok (put_entry x c.args.name c.in-Ok.taken.1, c.in-Ok.taken.0)) c.space.ensures
    c.in-Ok.ensures.found in
    let here = ap (λ x. take_right x c.args.name c.args.disp) c.space-2.ensures ∙ took in
    let put = c.in-Ok-exchange.ensures.ok in
    extract_given W w c.args.caller c.args.task c.args.name c.args.disp
    c.args.caller c.requires.target _ refl h h c.in-Ok.taken.0 took
    (beside_same w.store c.args.caller c.args.caller h refl)
    (may_own W w Takes c.args.caller c.in-Ok.taken.0 (given c.args.disp))
    (sym (c.is_full_after.ensures h _ here) ∙ c.if-is_full_after.false)
    c.give-right.result c.give-right.ensures put.0 c.in-Ok-exchange.given
    c.give-right.result _ put.1 c.give-right.ensures
    (moved_within w c.exchange.new.self _ c.args.caller c.in-Ok.taken.0 h put.0
    c.give-right.result put.2 c.restart_moved.ensures)
