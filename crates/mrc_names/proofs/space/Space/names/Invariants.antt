use Rattle.mrc_names.proofs.ListingLaws.{IsListed}
use Rattle.mrc_names.proofs.space.Space.names.Given as goal

-- the names so far are listed
abbrev pub invariant-loop-held : goal.invariant-loop-held
invariant-loop-held l = IsListed l.initial.held-iterator l.held-iterator l.names.items
