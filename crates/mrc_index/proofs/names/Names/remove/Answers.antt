use Rattle.std.proofs.Common.{◌∙◌, sym}
use Rattle.mrc_index.proofs.IndexLaws.{removed_after, absent_after}
use Rattle.mrc_index.proofs.names.Names.remove.Goals as goal

pub invariant_of-self : goal.invariant_of-self
invariant_of-self c =
    removed_after c.self.inside.entries c.remove.new.self c.self.inside.held c.self.inside.once
    c.forget.new.held c.forget.new.once c.self.inside.free c.free_name.new.free c.from.result
    c.args.name c.in-Some.entry c.self.invariant c.from.ensures
    (sym c.remove.ensures.out ∙ c.in-Some.is) c.remove.ensures.removed
    c.forget.ensures.held c.forget.ensures.once c.free_name.ensures.bits c.free_name.ensures.len

pub invariant_of-self-in-None : goal.invariant_of-self-in-None
invariant_of-self-in-None c =
    absent_after c.self.inside.entries c.remove.new.self c.self.inside.held c.self.inside.once
    c.self.inside.free c.from.result c.self.invariant (sym c.remove.ensures.out ∙ c.in-None.is)
    c.remove.ensures.removed
