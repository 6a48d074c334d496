use Rattle.std.proofs.Common.{◌≡◌, ◌++◌}
use Rattle.mrc_model.specs.Destroyed.{all_rights}
use Rattle.mrc_death.proofs.taking.all_rights.Given as goal

-- the rights so far and those of the entries that are left are all
abbrev pub invariant-loop-entry : goal.invariant-loop-entry
invariant-loop-entry l =
    l.rights.items ++ all_rights l.entry-iterator ≡ all_rights l.initial.entry-iterator
