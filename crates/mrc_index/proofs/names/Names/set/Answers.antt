use Rattle.std.proofs.Common.{◌∙◌, ap}
use Rattle.mrc_model.specs.Map.{get}
use Rattle.mrc_index.proofs.IndexLaws.{set_after}
use Rattle.mrc_index.proofs.names.Names.set.Goals as goal

pub invariant_of-self : goal.invariant_of-self
invariant_of-self c =
    set_after c.self.inside.entries c.set.new.self c.self.inside.held c.self.inside.once
    c.self.inside.free c.from.result c.requires.0 c.args.entry c.self.invariant
    (ap (get c.self.inside.entries) c.from.ensures ∙ ap (λ z. get z c.args.name) c.self.view_is
    ∙ c.requires.1) c.requires.2 c.set.ensures
