use Rattle.std.proofs.Common.{sym, subst}
use Rattle.mrc_death.specs.Removing.{CanBeRemoved}
use Rattle.mrc_death.proofs.Leaving.{put_back, taken_space}
use Rattle.mrc_death.proofs.removal.Removal.apply.Goals as goal

pub left-requires : goal.left-requires
left-requires c =
    subst (CanBeRemoved c.args.self)
    (sym (taken_space c.args.store.now c.put_space-space.new.self c.args.task
    c.put_space-space.result c.new.result c.put_space-space.ensures.put
    c.put_space-space.ensures.absent c.new.ensures)) c.requires

pub returns : goal.returns
returns c =
    put_back c.args.store.now c.put_space-space.new.self c.args.task c.put_space-space.result
    c.new.result c.put_space-space.ensures.put c.put_space-space.ensures.absent
    c.put_space.new.self c.left.result c.args.self c.left.ensures
    (λ there. (c.put_space.ensures.put there).1) (λ none. (c.put_space.ensures.absent none).1)
