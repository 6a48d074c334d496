use Rattle.std.proofs.Common.{refl}
use Rattle.mrc_mig_parse.specs.Places.{place_of}
use Rattle.mrc_mig_parse.proofs.table.Types.new.Goals as goal

-- nothing has a place
pub invariant_of-result : goal.invariant_of-result
unfolding place_of
invariant_of-result c = λ name. rw (c.new-2.ensures.empty, c.new.ensures.items) refl
