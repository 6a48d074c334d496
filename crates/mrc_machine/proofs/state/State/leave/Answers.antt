use Rattle.std.proofs.Common.{sym, ap, ◌∙◌, subst}
use Rattle.mrc_model.specs.Space.{put_entry}
use Rattle.mrc_model.specs.Target.{with_space}
use Rattle.mrc_index.specs.Undo.{CanPut}
use Rattle.mrc_machine.proofs.AllocateLaws.{put_after}
use Rattle.mrc_machine.proofs.state.State.leave.Goals as goal

pub leave-requires : goal.leave-requires
leave-requires c =
    subst (λ x. CanPut x c.args.name c.args.rest) (sym c.take_space-space.ensures.out)
    c.requires.left

pub returns : goal.returns
returns c =
    put_after c.args.self.now _ _ c.args.task _ c.leave.new.self c.take_space-space.ensures.left
    c.put_space.ensures
    ∙ ap (with_space c.args.self.now c.args.task) (c.leave.ensures
    ∙ ap (λ x. put_entry x c.args.name c.args.rest) c.take_space-space.ensures.out)
