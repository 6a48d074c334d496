use Rattle.std.proofs.Common.{◌≡◌, ◌-◌, length}
use Rattle.mrc_mig_symbols.specs.Symbols.{many, many_stop}
use Rattle.mrc_mig_symbols.specs.Readers.{left}
use Rattle.mrc_mig_parse.specs.Files.{has_more, statement_at}
use Rattle.mrc_mig_parse.specs.Stops.{statement_stop, each_statement_stop}
use Rattle.mrc_mig_parse.specs.Readers.{state_of}
use Rattle.mrc_mig_parse.proofs.file.each_statement.Given as goal

abbrev pub invariant-loop : goal.invariant-loop
invariant-loop l = (many has_more statement_at (l.count - l.counter) (state_of l.file, left l.rest)
    ≡ many has_more statement_at (length (left l.fn.rest)) (state_of l.fn.file, left l.fn.rest))
    × (many_stop has_more statement_at statement_stop (l.count - l.counter)
    (state_of l.file, left l.rest)
    ≡ each_statement_stop (state_of l.fn.file) (left l.fn.rest))
