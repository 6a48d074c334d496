use Rattle.std.proofs.Common.{◌≡◌, ◌↔◌, drop}
use Rattle.mrc_names.specs.Listings.{names_of}
use Rattle.mrc_names.proofs.listing.Listing.same_names.Given as goal

abbrev pub invariant-loop-i : goal.invariant-loop-i
invariant-loop-i l = (names_of (drop l.i l.names) ≡ names_of (drop l.i l.others))
    ↔ (names_of l.names ≡ names_of l.others)
