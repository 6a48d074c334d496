use Rattle.std.specs.Io.KnownBytes.{Keeps}
use Rattle.mrc_files.proofs.streams.AnySink.is_flushed.Given as goal

-- a flush that was interrupted changed nothing
abbrev pub invariant-loop : goal.invariant-loop
invariant-loop g l = Keeps (g.W.Write.contents l.fn.self) (g.W.Write.contents l.self)
