use Rattle.std.proofs.Common.{◌≡◌, true, subst, sym, ◌∙◌}
use Rattle.std.proofs.lemmas.Bool.{and_parts}
use Rattle.std.proofs.lemmas.List.Folds.{list_all-map}
use Rattle.std.proofs.lemmas.List.Sums.{AllPass-from_list_all}
use Rattle.mrc_mig_parse.specs.declared.subsystem.Argument.{Argument}
use Rattle.mrc_mig_parse.specs.Arguments.{Item}
use Rattle.mrc_forms.specs.Shapes.{items_fit, shape_fits}
use Rattle.mrc_forms.specs.declared.shape.Items.{Items}
use Rattle.mrc_mig_parse.specs.Meanings.{item_of}
use Rattle.mrc_interface.proofs.form.form_of.Goals as goal

-- each argument has a shape that fits
pub push-requires-clause-fits : goal.push-requires-clause-fits
push-requires-clause-fits c =
    let arguments = c.args.arguments.now in
    let fit = (and_parts _ _ c.requires).1 in
    subst (λ (items : Items). items_fit items ≡ true) (sym c.of-items.ensures)
    (subst (λ (a : Argument). shape_fits a.shape ≡ true) (sym c.argument-item.is)
    (AllPass-from_list_all (λ (a : Argument). shape_fits a.shape) arguments
    (sym (list_all-map (λ (item : Item). shape_fits item.shape) item_of arguments) ∙ fit)
    c.loop-argument.argument-index c.argument-item.result c.loop-argument-test.true))
