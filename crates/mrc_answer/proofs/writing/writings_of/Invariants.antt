-- The files so far, with those that are left, are all.
use Rattle.std.proofs.Common.{◌≡◌, ◌++◌, drop, map}
use Rattle.mrc_answer.specs.MigTexts.{writing_of}
use Rattle.mrc_answer.proofs.writing.writings_of.Given as goal

abbrev pub invariant-loop-mig_text : goal.invariant-loop-mig_text
invariant-loop-mig_text l =
    l.writings.items ++ map (writing_of l.folder) (drop l.mig_text-index l.mig_texts)
    ≡ map (writing_of l.folder) l.mig_texts
