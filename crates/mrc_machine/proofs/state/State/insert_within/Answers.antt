use Rattle.std.proofs.Common.{ap, ◌∙◌, sym, subst}
use Rattle.mrc_model.specs.Target.{with_space}
use Rattle.mrc_names.specs.Refusals.{IsRefusal}
use Rattle.mrc_names.specs.Takes.{taken_port, move_right}
use Rattle.mrc_machine.specs.Calls.{IsRefusedBy}
use Rattle.mrc_machine.specs.Moves.{with_moved}
use Rattle.mrc_machine.proofs.AllocateLaws.{put_after}
use Rattle.mrc_machine.proofs.MoveLaws.{moved_own, own_refused}
use Rattle.mrc_machine.proofs.state.State.insert_within.Goals as goal

pub returns-in-Err-clause-refused : goal.returns-in-Err-clause-refused
returns-in-Err-clause-refused c W =
    subst (λ e. IsRefusedBy e (with_moved W c.args.self.now c.args.task c.args.from c.args.disp
    c.args.task c.args.name)) (sym c.refusal_of.ensures)
    (own_refused W c.args.self.now c.args.task c.args.from c.args.name c.args.disp c.in-Err.fault
    (subst (λ x. IsRefusal c.in-Err.fault (move_right x c.args.from c.args.disp c.args.name))
    c.take_space-space.ensures.out c.in-Err.ensures.refused))

pub returns-in-Err-clause-err : goal.returns-in-Err-clause-err
returns-in-Err-clause-err c =
    put_after c.args.self.now _ _ c.args.task _ c.move_right-moved.new.self
    c.take_space-space.ensures.left c.put_space.ensures
    ∙ ap (with_space c.args.self.now c.args.task) c.in-Err.ensures.err
    ∙ c.take_space-space.ensures.back

pub returns-clause-ok : goal.returns-clause-ok
returns-clause-ok c W =
    moved_own W c.args.self.now c.put_space.new.self _ c.args.task c.args.from c.args.name
    c.in-Ok.port c.args.disp c.move_right-moved.new.self c.give.result
    (ap (λ x. taken_port x c.args.from c.args.disp) (sym c.take_space-space.ensures.out)
    ∙ c.in-Ok.ensures.port)
    (ap (λ x. move_right x c.args.from c.args.disp c.args.name)
    (sym c.take_space-space.ensures.out) ∙ c.in-Ok.ensures.ok)
    c.give.ensures
    (put_after c.args.self.now _ _ c.args.task _ c.move_right-moved.new.self
    c.take_space-space.ensures.left c.put_space.ensures)
    c.restart_moved.ensures
