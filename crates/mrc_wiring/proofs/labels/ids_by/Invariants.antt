use Rattle.std.proofs.Common.{◌≡◌, ◌++◌, drop, map}
use Rattle.std.specs.List.{filter_map}
use Rattle.mrc_forms.specs.Forms.{Form}
use Rattle.mrc_forms.specs.Tables.{form_in}
use Rattle.mrc_wiring.proofs.labels.ids_by.Given as goal

-- the ids so far and those of the rows that are left are all
abbrev pub invariant-loop-row : goal.invariant-loop-row
invariant-loop-row l =
    l.ids.items
    ++ map (λ (form : Form). form.id) (filter_map (form_in l.kind) (drop l.row-index l.row-items))
    ≡ map (λ (form : Form). form.id) (filter_map (form_in l.kind) l.row-items)
