use Rattle.std.proofs.Common.{List, ℕ, subst}
use Rattle.mrc_files.specs.Files.{IsLeftBy, KeepsOthers}
use Rattle.mrc_answer.specs.MigTexts.{Writing, IsNotTaken}
use Rattle.mrc_answer.proofs.MigLaws.{stopped_here}
use Rattle.mrc_answer.proofs.writing.write_each.Goals as goal

pub returns-in-Err-clause-stopped : goal.returns-in-Err-clause-stopped
returns-in-Err-clause-stopped g c =
    let now = g.F.Folder.held c.loop-place.folder in
    let after = g.F.Folder.held c.replace.new.self in
    let w = c.index-writings-place.result in
    stopped_here (g.F.Folder.held c.args.folder.now) now after c.args.writings.now
    c.loop-place.place w c.in-Err.refusal c.loop-place-test.true c.index-writings-place.is
    (c.loop-place.invariant.stopped after w.path c.in-Err.refusal)
    (subst (λ (w : Writing). IsNotTaken now after w c.in-Err.refusal)
    c.writing.view_is (subst (λ (path : List ℕ). IsLeftBy now after path
    c.writing.inside.bytes.now c.in-Err.refusal × KeepsOthers now after path)
    c.as_str.ensures.value (c.in-Err.ensures.err, c.replace.ensures.others)))
