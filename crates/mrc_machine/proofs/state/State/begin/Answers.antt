use Rattle.std.proofs.Common.{◌∙◌}
use Rattle.mrc_machine.proofs.CreateLaws.{begun_housed, begun_is, undone_housed, undone_is}
use Rattle.mrc_machine.proofs.state.State.begin.Goals as goal

pub invariant_of-self-in-Ok : goal.invariant_of-self-in-Ok
invariant_of-self-in-Ok c =
    begun_housed c.self.inside.tasks _ c.self.inside.store c.args.self.now c.args.number
    c.from-key.result c.new.result c.self.invariant c.self.view_is c.requires.next
    (c.from-key.ensures ∙ c.number.view_is) c.in_ok-insert.ensures.ok _ c.in_ok-space.space
    c.args.class c.next_port-kernel.result c.args.wired c.in-Ok.ensures.added
    c.next_port-kernel.ensures c.new.ensures

pub invariant_of-self-in-Err : goal.invariant_of-self-in-Err
invariant_of-self-in-Err c =
    undone_housed c.self.inside.tasks _ c.self.inside.store c.args.self.now c.args.number
    c.from-key.result c.new.result c.self.invariant c.self.view_is c.requires.next
    (c.from-key.ensures ∙ c.number.view_is) c.in_ok-insert.ensures.ok _ _ c.remove.ensures
    c.in-Err.ensures.err

pub returns-in-Ok-clause-ok : goal.returns-in-Ok-clause-ok
returns-in-Ok-clause-ok c =
    begun_is c.self.inside.tasks _ c.self.inside.store c.args.self.now c.args.number
    c.from-key.result c.new.result c.self.invariant c.self.view_is c.requires.next
    (c.from-key.ensures ∙ c.number.view_is) c.in_ok-insert.ensures.ok _ c.in_ok-space.space
    c.args.class c.next_port-kernel.result c.args.wired c.in-Ok.ensures.added
    c.next_port-kernel.ensures c.in_ok-space.ensures c.new.ensures

pub returns-in-Err-clause-err : goal.returns-in-Err-clause-err
returns-in-Err-clause-err c =
    undone_is c.self.inside.tasks _ c.self.inside.store c.args.self.now c.args.number
    c.from-key.result c.new.result c.self.invariant c.self.view_is c.requires.next
    (c.from-key.ensures ∙ c.number.view_is) c.in_ok-insert.ensures.ok _ _ c.remove.ensures
    c.in-Err.ensures.err
