-- What is done with the files that are left is done with all.
use Rattle.std.proofs.Common.{ℕ, List, drop}
use Rattle.mrc_base.specs.declared.memory.OrMemory.{OrMemory}
use Rattle.mrc_files.specs.Files.{Held}
use Rattle.mrc_files.specs.declared.streams.WriteFault.{WriteFault}
use Rattle.mrc_answer.specs.MigTexts.{AreWritten, IsStopped}
use Rattle.mrc_answer.proofs.writing.write_each.Given as goal

abbrev pub invariant-loop-place : goal.invariant-loop-place
invariant-loop-place g l = record {
  whole : (after : Held)
      → AreWritten (g.F.Folder.held l.folder) (drop l.place l.writings) after
      → AreWritten (g.F.Folder.held l.fn.folder) l.writings after;
  stopped : (after : Held) (path : List ℕ) (refusal : OrMemory WriteFault)
      → IsStopped (g.F.Folder.held l.folder) (drop l.place l.writings) after path refusal
      → IsStopped (g.F.Folder.held l.fn.folder) l.writings after path refusal;
}
