use Rattle.std.proofs.Common.{◌∙◌, ap}
use Rattle.mrc_model.specs.Map.{get}
use Rattle.mrc_map.proofs.LookupLaws.{gathered_get, gathered_remove}
use Rattle.mrc_map.proofs.lookup.Lookup.remove.Goals as goal

pub returns-clause-out : goal.returns-clause-out
returns-clause-out g c =
    c.swap_remove.ensures.value ∙ gathered_get c.args.key c.self.inside.entries.entries
    ∙ ap (λ m. get m c.args.key) c.self.view_is

pub returns-clause-removed : goal.returns-clause-removed
returns-clause-removed g c =
    gathered_remove c.args.key c.self.inside.entries.entries c.swap_remove.new.self.entries _
    c.self.view_is c.swap_remove.ensures.updates.0
