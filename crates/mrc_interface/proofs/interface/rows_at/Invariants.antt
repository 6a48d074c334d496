use Rattle.std.proofs.Common.{◌≡◌, ◌++◌, map, drop, Ok, length}
use Rattle.mrc_base.specs.Reading.{◌>>=◌}
use Rattle.mrc_mig_parse.specs.Meanings.{row_of}
use Rattle.mrc_interface.specs.Subsystems.{rows_at}
use Rattle.mrc_interface.proofs.interface.rows_at.Given as goal

abbrev pub invariant-loop-entry : goal.invariant-loop-entry
invariant-loop-entry l =
    ((rows_at l.id (map row_of (drop l.entry-index l.entries))
    >>= λ more. Ok (l.rows.items ++ more)) ≡ rows_at l.first (map row_of l.entries))
    × (length l.rows.items ≡ l.entry-index)
