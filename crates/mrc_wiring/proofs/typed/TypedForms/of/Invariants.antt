use Rattle.std.proofs.Common.{◌≡◌, ◌++◌, drop, map}
use Rattle.std.specs.Option.{option_map}
use Rattle.mrc_forms.specs.Tables.{Row, form_in}
use Rattle.mrc_wiring.specs.ModelForms.{model_form, typed_forms}
use Rattle.mrc_wiring.proofs.typed.TypedForms.of.Given as goal

-- the forms so far and those of the rows that are left are all
abbrev pub invariant-loop-row : goal.invariant-loop-row
invariant-loop-row l =
    l.by_place.items
    ++ map (λ (row : Row). option_map (model_form l.kind l.sorts l.number) (form_in l.kind row))
    (drop l.row-index l.row-items)
    ≡ typed_forms l.kind l.sorts l.number l.interface
