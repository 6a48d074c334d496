use Rattle.std.proofs.Common.{◌≡◌}
use Rattle.std.specs.Prelude.{string_bytes}
use Rattle.mrc_why.specs.Texts.{deeper}
use Rattle.mrc_why.proofs.printing.deeper.Given as goal

-- so many blanks so far
abbrev pub invariant-loop : goal.invariant-loop
invariant-loop l = string_bytes l.blanks ≡ deeper l.counter
