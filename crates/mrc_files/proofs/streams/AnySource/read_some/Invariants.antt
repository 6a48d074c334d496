use Rattle.std.specs.Io.KnownBytes.{Keeps}
use Rattle.mrc_files.proofs.streams.AnySource.read_some.Given as goal

-- a read that was interrupted took nothing
abbrev pub invariant-loop : goal.invariant-loop
invariant-loop g l = Keeps (g.R.Read.remaining l.fn.self) (g.R.Read.remaining l.self)
