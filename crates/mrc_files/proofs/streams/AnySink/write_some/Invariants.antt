use Rattle.std.specs.Io.KnownBytes.{Keeps}
use Rattle.mrc_files.proofs.streams.AnySink.write_some.Given as goal

-- a write that was interrupted changed nothing
abbrev pub invariant-loop : goal.invariant-loop
invariant-loop g l = Keeps (g.W.Write.contents l.fn.self) (g.W.Write.contents l.self)
