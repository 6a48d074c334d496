use Rattle.std.proofs.Common.{◌∙◌, ℕ, ap, sym}
use Rattle.mrc_wiring.specs.RowPlaces.{stands_at}
use Rattle.mrc_wiring.proofs.RowPlaces.{has_placed}
use Rattle.mrc_wiring.proofs.births.has_row.Goals as goal

pub returns : goal.returns
returns c =
    c.stands_at.ensures
    ∙ ap (λ (n : ℕ). stands_at c.args.rows.now n c.args.task c.args.kind) c.place_of.ensures.exact
    ∙ sym (has_placed c.args.task c.args.kind c.args.rows.now c.requires)
