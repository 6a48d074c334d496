use Rattle.std.proofs.Common.{◌≡◌, find, filter_map, bytes_eq}
use Rattle.std.specs.Prelude.{drop}
use Rattle.mrc_forms.specs.Forms.{Form}
use Rattle.mrc_forms.specs.Tables.{form_in, form_named}
use Rattle.mrc_forms.proofs.interface.Interface.form_named.Given as goal

-- none of the rows so far has the name
abbrev pub invariant-loop-row : goal.invariant-loop-row
invariant-loop-row l =
    find (λ (form : Form). bytes_eq l.name form.name)
    (filter_map (form_in l.kind) (drop l.row-index l.row-items))
    ≡ form_named l.kind l.self l.name
