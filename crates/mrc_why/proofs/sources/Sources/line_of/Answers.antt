use Rattle.std.proofs.Common.{List, ap, subst, ◌∙◌}
use Rattle.std.specs.Prelude.{IfSome, slice_get}
use Rattle.mrc_why.specs.declared.given_lines.Given.{Given}
use Rattle.mrc_why.specs.Lines.{Numbered, IsGivenBy}
use Rattle.mrc_why.proofs.GivenBy.{given_by}
use Rattle.mrc_why.proofs.sources.Sources.line_of.Goals as goal

pub returns-then-gives : goal.returns-then-gives
returns-then-gives c =
    let x : Numbered = record {
      table = c.self.inside.wired.now;
      numbers = c.self.inside.numbers.items;
    } in
    let place = c.in_ok-place.field-0.now in
    subst (λ (y : Numbered). IfSome c.number_at.result (IsGivenBy y c.args.task c.args.class
    c.args.right)) c.self.view_is
    (given_by x c.self.inside.given.items c.first_classes.result.now place c.args.task c.args.class
    c.args.right c.in_ok-given.given.now c.self.invariant c.first_classes.ensures
    (c.in_ok-given.ensures ∙ ap (λ (gs : List Given). slice_get gs place) c.deref.ensures.value)
    (c.gives.ensures c.if-gives.true) c.number_at.result
    (c.number_at.ensures ∙ ap (λ ns. slice_get ns place) c.deref-then-gives.ensures.value))
