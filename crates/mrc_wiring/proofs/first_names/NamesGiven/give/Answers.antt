use Rattle.std.proofs.Common.{◌≡◌, ◌+◌, set, subst, ap, ◌∙◌, arith}
use Rattle.std.specs.Prelude.{slice_index}
use Rattle.mrc_model.specs.FirstHoldings.{one_if}
use Rattle.mrc_wiring.specs.State.{Given, HasPlaces, marks_with}
use Rattle.mrc_wiring.proofs.GivenLemmas.{count_is, given_more, one_is, same_default}
use Rattle.mrc_wiring.proofs.first_names.NamesGiven.give.Goals as goal

-- the names with the right are counted, and its mark is set
pub returns : goal.returns
returns c =
    let task = c.args.task in
    let was : Given = record {
      counts = c.self.inside.counts.items;
      marks =
          c.self.inside.marks.items;
    } in
    let seen : was ≡ c.args.self.now = c.self.view_is in
    let less = c.requires.task in
    let many = c.self.invariant.0 in
    let one : c.from.result ≡ one_if c.is_new-is_new.result = c.from.ensures ∙ one_is _ in
    let count : c.index_mut.result.now ≡ slice_index was.counts task = c.index_mut.ensures.value
    ∙ same_default was.counts task c.index_mut.result.now 0 (omega arith) in
    let value : c.index_mut.result.now + c.from.result
    ≡ slice_index was.counts task + one_if c.is_new-is_new.result = omega arith in
    let new : c.mark.new.self ≡ record {
      counts = set was.counts task (slice_index was.counts task + one_if c.is_new-is_new.result);
      marks = marks_with was.marks task c.args.port c.args.right;
    } = c.mark.ensures ∙ ap (λ v. record {
      counts = set was.counts task v;
      marks = marks_with was.marks task c.args.port c.args.right;
    }) value in
    given_more c.args.self.now c.mark.new.self task c.args.port c.args.right
    (slice_index c.args.self.now.counts task + one_if c.is_new-is_new.result)
    (subst HasPlaces seen c.self.invariant)
    c.requires.task c.requires.port
    (λ held is. count_is c.args.self.now held task c.args.port c.args.right c.is_new-is_new.result
    is
    c.requires.task c.requires.port c.is_new-is_new.ensures)
    (new ∙ ap (λ (g : Given). record {
      counts = set g.counts task (slice_index g.counts task + one_if c.is_new-is_new.result);
      marks = marks_with g.marks task c.args.port c.args.right;
    }) seen)
