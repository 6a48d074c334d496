use Rattle.std.proofs.Common.{false}
use Rattle.mrc_wiring.proofs.GivenLemmas.{given_nothing, replicated}
use Rattle.mrc_wiring.proofs.first_names.NamesGiven.new.Goals as goal

-- no name, and no mark
pub returns : goal.returns
returns c =
    let counts = c.in_ok-vec.ensures.items_if_clones_equal in
    let marks = c.in_ok-vec-2.ensures.items_if_clones_equal in
    given_nothing _ (replicated _ _ 0 (counts (λ y e. e)))
    (replicated _ _ false (marks (λ y e. e)))
