use Rattle.std.proofs.Common.{◌≡◌, ◌+◌, ◌≤◌, length}
use Rattle.mrc_mig_tokens.specs.Reading.{left}
use Rattle.mrc_mig_rows.specs.Ends.{end_from}
use Rattle.mrc_mig_rows.proofs.ends.part_end.Given as goal

abbrev pub invariant-loop : goal.invariant-loop
invariant-loop l =
    (end_from l.depth (left l.rest) ≡ end_from 0 (left l.fn.rest))
    × (l.depth ≤ l.counter) × (l.counter + length (left l.rest) ≤ l.count)
