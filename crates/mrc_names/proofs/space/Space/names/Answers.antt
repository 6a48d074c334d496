use Rattle.std.proofs.Common.{◌∙◌}
use Rattle.mrc_names.proofs.ListingLaws.{none_listed, listed_few}
use Rattle.mrc_names.proofs.space.Space.names.Goals as goal

pub loop-held-init : goal.loop-held-init
loop-held-init c =
    none_listed c.self.inside.entries c.into_iter-held-iterator.result c.in_ok-names.names.items
    c.self.invariant
    (c.into_iter-held-iterator.ensures.into_iter_gives ∙ c.iter-held-items.ensures)
    c.in_ok-names.ensures.items

pub new-requires : goal.new-requires
new-requires c =
    listed_few c.self.inside.entries c.into_iter-held-iterator.result c.loop-held.held-iterator
    c.loop-held.names.items c.self.invariant
    (c.into_iter-held-iterator.ensures.into_iter_gives ∙ c.iter-held-items.ensures)
    c.loop-held.invariant
