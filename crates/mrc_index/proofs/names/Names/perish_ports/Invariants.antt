use Rattle.std.proofs.Common.{◌≡◌}
use Rattle.mrc_model.specs.Map.{alter_all}
use Rattle.mrc_model.specs.Death.{perished_entry}
use Rattle.mrc_index.proofs.names.Names.perish_ports.Given as goal

-- what is left of the ports that are still to die is what all leave
abbrev pub invariant-loop-number : goal.invariant-loop-number
invariant-loop-number l =
    alter_all (λ n e. perished_entry l.number-iterator e) l.self
    ≡ alter_all (λ n e. perished_entry l.initial.number-iterator e) l.initial.self
