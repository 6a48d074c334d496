use Rattle.std.proofs.Common.{◌∙◌, ap, sym}
use Rattle.mrc_model.specs.Map.{len}
use Rattle.mrc_map.proofs.LookupLaws.{gathered_len}
use Rattle.mrc_map.proofs.lookup.Lookup.len.Goals as goal

pub returns : goal.returns
returns g c =
    c.len.ensures.len ∙ sym (gathered_len c.self.inside.entries.entries c.len.ensures.unique)
    ∙ ap len c.self.view_is
