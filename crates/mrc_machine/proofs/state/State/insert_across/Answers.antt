use Rattle.std.proofs.Common.{◌≡◌, Ok, ap, ◌∙◌, sym, subst}
use Rattle.std.specs.Prelude.{IsSome}
use Rattle.mrc_model.specs.Map.{get}
use Rattle.mrc_model.specs.World.{World}
use Rattle.mrc_model.specs.declared.Verb.TheVariants.{Gives}
use Rattle.mrc_model.specs.Space.{put_entry}
use Rattle.mrc_model.specs.Target.{with_space}
use Rattle.mrc_model.specs.Reply.{Refused}
use Rattle.mrc_index.specs.Undo.{CanPut}
use Rattle.mrc_names.specs.Takes.{take_right}
use Rattle.mrc_wiring.specs.Table.{wiring_of}
use Rattle.mrc_machine.specs.Calls.{IsRefusedBy}
use Rattle.mrc_machine.specs.Moves.{with_moved}
use Rattle.mrc_machine.proofs.MoveLaws.{moved_not_taken, moved_denied, moved_not_put, moved_put}
use Rattle.mrc_machine.proofs.MoveLaws.{moved_across, beside_other, other_space, may_given}
use Rattle.mrc_machine.proofs.state.State.insert_across.Goals as goal

pub returns-in-Err-clause-refused : goal.returns-in-Err-clause-refused
returns-in-Err-clause-refused c =
    moved_not_taken (wiring_of c.args.wired.now) c.args.self.now c.args.first c.args.from
    c.args.second c.args.name c.args.disp (Refused c.in-Err.code)
    (ap (λ x. take_right x c.args.from c.args.disp) (sym c.space.ensures)
    ∙ c.in-Err.ensures.refused)

pub returns-then-not-may_on-clause-refused : goal.returns-then-not-may_on-clause-refused
returns-then-not-may_on-clause-refused c =
    let W = wiring_of c.args.wired.now in
    let w = c.args.self.now in
    let took = subst (λ x. take_right x c.args.from c.args.disp
    ≡ Ok (put_entry x c.args.from c.in-Ok.taken.1, c.in-Ok.taken.0)) c.space.ensures
    c.in-Ok.ensures.found in
    moved_denied W w c.args.first c.args.from c.args.second c.args.name c.args.disp
    _ c.in-Ok.taken.0 took
    (may_given W w Gives c.args.first c.args.second c.in-Ok.taken.0 c.give-right.result c.args.disp
    _ c.give-right.ensures c.may_on.ensures ∙ c.if-not-may_on.true)

pub returns-in-Err-insert_at-clause-refused : goal.returns-in-Err-insert_at-clause-refused
returns-in-Err-insert_at-clause-refused c =
    let W = wiring_of c.args.wired.now in
    let w = c.args.self.now in
    let took = subst (λ x. take_right x c.args.from c.args.disp
    ≡ Ok (put_entry x c.args.from c.in-Ok.taken.1, c.in-Ok.taken.0)) c.space.ensures
    c.in-Ok.ensures.found in
    subst (λ e. IsRefusedBy e (with_moved W w c.args.first c.args.from c.args.disp c.args.second
    c.args.name)) (sym c.refusal_of.ensures)
    (moved_not_put W w c.args.first c.args.from c.args.second c.args.name c.args.disp
    _ c.in-Ok.taken.0 took
    (may_given W w Gives c.args.first c.args.second c.in-Ok.taken.0 c.give-right.result c.args.disp
    _ c.give-right.ensures c.may_on.ensures ∙ c.if-not-may_on.false) _
    (beside_other w.store c.args.first c.args.second _ c.requires.apart) c.give-right.result
    c.give-right.ensures _ c.in-Err-insert_at.ensures.refused)

pub leave-requires-clause-there : goal.leave-requires-clause-there
leave-requires-clause-there c =
    subst (λ (v : World). IsSome (get v.tasks c.args.first))
    (sym c.in-Ok-insert_at.ensures.ok.2) c.requires.first

pub leave-requires-clause-left : goal.leave-requires-clause-left
leave-requires-clause-left c =
    let w = c.args.self.now in
    subst (λ x. CanPut x c.args.from c.in-Ok.taken.1)
    (c.space.ensures ∙ sym (other_space w c.insert_at.new.self c.args.first c.args.second
    c.in-Ok-insert_at.ensures.ok.0 c.requires.apart c.in-Ok-insert_at.ensures.ok.2))
    c.in-Ok.ensures.alike

pub returns-clause-ok : goal.returns-clause-ok
returns-clause-ok c =
    let W = wiring_of c.args.wired.now in
    let w = c.args.self.now in
    let rest = c.in-Ok.taken.1 in
    let put = c.in-Ok-insert_at.ensures.ok in
    let took = subst (λ x. take_right x c.args.from c.args.disp
    ≡ Ok (put_entry x c.args.from rest, c.in-Ok.taken.0)) c.space.ensures
    c.in-Ok.ensures.found in
    let left = c.leave.ensures
    ∙ ap (λ x. with_space c.insert_at.new.self c.args.first (put_entry x c.args.from rest))
    (other_space w c.insert_at.new.self c.args.first c.args.second put.0 c.requires.apart put.2) in
    moved_put W w c.args.first c.args.from c.args.second c.args.name c.args.disp
    _ c.in-Ok.taken.0 took
    (may_given W w Gives c.args.first c.args.second c.in-Ok.taken.0 c.give-right.result c.args.disp
    _ c.give-right.ensures c.may_on.ensures ∙ c.if-not-may_on.false) _
    (beside_other w.store c.args.first c.args.second _ c.requires.apart) c.give-right.result
    c.give-right.ensures put.0 _ put.1
    (moved_across w c.insert_at.new.self c.leave.new.self _ c.args.first c.args.second
    c.in-Ok.taken.0 _ put.0 c.give-right.result c.requires.apart put.2 left
    c.restart_moved.ensures)
