use Rattle.std.proofs.Common.{Some, None, refl, sym, ap, ◌∙◌}
use Rattle.mrc_mig_types.proofs.StandardLemmas.{standard_by}
use Rattle.mrc_mig_types.proofs.table.standard_of.Goals as goal

pub returns-in-Some-default : goal.returns-in-Some-default
returns-in-Some-default c =
    standard_by c.args.name.now (Some c.in-Some-default.found) c.item_in-2.result _
    (sym c.eq.ensures ∙ c.if-eq.false) (sym c.eq-2.ensures ∙ c.if-eq-2.false)
    c.in-Some-default.ensures c.item_in-2.ensures refl

pub returns-in-None-Some : goal.returns-in-None-Some
returns-in-None-Some c =
    standard_by c.args.name.now None (Some c.in-None-Some.found) _
    (sym c.eq.ensures ∙ c.if-eq.false) (sym c.eq-2.ensures ∙ c.if-eq-2.false)
    c.in-None-Some.ensures c.in-None-Some.ensures' (ap
    (λ m. Some m) c.open_array-in-None-Some.ensures)

pub returns-in-None-None : goal.returns-in-None-None
returns-in-None-None c =
    standard_by c.args.name.now None None _
    (sym c.eq.ensures ∙ c.if-eq.false) (sym c.eq-2.ensures ∙ c.if-eq-2.false)
    c.in-None-None.ensures c.in-None-None.ensures' refl
