use Rattle.std.proofs.Common.{◌≡◌, ◌≤◌, length, take, vec_capacity}
use Rattle.mrc_names.proofs.listing.Listing.fill.Given as goal

abbrev pub invariant-loop-name : goal.invariant-loop-name
invariant-loop-name l = (l.copy.items ≡ take l.name-index l.name-items)
    × (length l.name-items ≤ vec_capacity l.copy)
