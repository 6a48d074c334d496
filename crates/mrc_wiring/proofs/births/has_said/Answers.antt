use Rattle.std.proofs.Common.{◌∙◌, ℕ, ap, sym}
use Rattle.mrc_wiring.specs.RowPlaces.{said_at}
use Rattle.mrc_wiring.proofs.RowPlaces.{said_placed}
use Rattle.mrc_wiring.proofs.births.has_said.Goals as goal

pub returns : goal.returns
returns c =
    c.said_at.ensures
    ∙ ap (λ (n : ℕ). said_at c.args.rows.now n c.args.task c.args.kind) c.place_of.ensures.exact
    ∙ sym (said_placed c.args.task c.args.kind c.args.rows.now c.requires)
