use Rattle.std.proofs.Common.{◌∙◌, ap}
use Rattle.mrc_model.specs.Map.{get}
use Rattle.mrc_map.specs.Rooms.{Roomy}
use Rattle.mrc_map.proofs.LookupLaws.{gathered_get}
use Rattle.mrc_map.proofs.roomy.Roomy.get.Goals as goal

pub returns : goal.returns
returns g c =
    c.get.ensures.value ∙ gathered_get c.args.key c.self.inside.entries.entries
    ∙ ap (λ (r : Roomy _). get r.map c.args.key) c.self.view_is
