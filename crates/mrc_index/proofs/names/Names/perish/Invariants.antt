use Rattle.std.proofs.Common.{◌≡◌, [], ◌∷◌}
use Rattle.mrc_model.specs.Map.{alter_all, total}
use Rattle.mrc_model.specs.Death.{perished_entry}
use Rattle.mrc_index.specs.Names.{count_on}
use Rattle.mrc_index.proofs.names.Names.perish.Given as goal

-- what has turned is as good as what will turn
abbrev pub invariant-loop-name : goal.invariant-loop-name
invariant-loop-name l = alter_all (λ n e. perished_entry (l.port ∷ []) e) l.self
    ≡ alter_all (λ n e. perished_entry (l.port ∷ []) e) l.initial.self

abbrev pub decreases-loop-name : goal.decreases-loop-name
decreases-loop-name l = total (count_on l.port) l.self
