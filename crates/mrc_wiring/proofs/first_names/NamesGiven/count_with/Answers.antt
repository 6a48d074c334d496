use Rattle.std.proofs.Common.{◌≡◌, ap, ◌∙◌, arith}
use Rattle.std.specs.Prelude.{slice_index}
use Rattle.mrc_model.specs.FirstHoldings.{one_if}
use Rattle.mrc_wiring.specs.State.{Given}
use Rattle.mrc_wiring.proofs.GivenLemmas.{count_is, one_is, same_default}
use Rattle.mrc_wiring.proofs.first_names.NamesGiven.count_with.Goals as goal

-- the count is that of the names with the right
pub returns : goal.returns
returns c = λ held is.
    let task = c.args.task in
    let counts = c.self.inside.counts.items in
    let seen : record { counts = counts; marks = c.self.inside.marks.items } ≡ c.args.self.now =
    c.self.view_is in
    let names = count_is c.args.self.now held task c.args.port c.args.right c.is_new-is_new.result
    is
    c.requires.task c.requires.port c.is_new-is_new.ensures in
    let less = c.requires.task in
    let many = c.self.invariant.0 in
    let count : c.index.result.now ≡ slice_index c.args.self.now.counts task = c.index.ensures
    ∙ same_default counts task c.index.result.now 0 (omega arith)
    ∙ ap (λ (g : Given). slice_index g.counts task) seen in
    let one : c.from.result ≡ one_if c.is_new-is_new.result = c.from.ensures ∙ one_is _ in
    omega arith
