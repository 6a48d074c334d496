use Rattle.std.proofs.Common.{◌≡◌, ◌-◌, length}
use Rattle.mrc_mig_tokens.specs.Reading.{many, left}
use Rattle.mrc_mig_rows.specs.Files.{goes_on, one_at}
use Rattle.mrc_mig_rows.specs.Readers.{state_of}
use Rattle.mrc_mig_rows.proofs.file.each_statement.Given as goal

abbrev pub invariant-loop : goal.invariant-loop
invariant-loop l =
    many goes_on (one_at l.received) (l.count - l.counter) (state_of l.said, left l.rest)
    ≡ many goes_on (one_at l.received) (length (left l.fn.rest))
    (state_of l.fn.said, left l.fn.rest)
