use Rattle.std.proofs.Common.{◌≡◌, ◌-◌}
use Rattle.mrc_mig_symbols.specs.Symbols.{many, many_stop}
use Rattle.mrc_mig_symbols.specs.Readers.{left}
use Rattle.mrc_mig_parse.specs.Files.{begins_line, line_at, lines_at}
use Rattle.mrc_mig_parse.specs.Stops.{line_stop, lines_stop}
use Rattle.mrc_mig_parse.specs.Readers.{state_of}
use Rattle.mrc_mig_parse.proofs.file.lines.Given as goal

abbrev pub invariant-loop : goal.invariant-loop
invariant-loop l = (many begins_line line_at (l.count - l.counter) (state_of l.file, left l.rest)
    ≡ lines_at (state_of l.fn.file) (left l.fn.rest))
    × (many_stop begins_line line_at line_stop (l.count - l.counter) (state_of l.file, left l.rest)
    ≡ lines_stop (state_of l.fn.file) (left l.fn.rest))
