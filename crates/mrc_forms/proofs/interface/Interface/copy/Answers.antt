use Rattle.std.proofs.Common.{sym, ap, ◌∙◌}
use Rattle.std.specs.Prelude.{string_bytes}
use Rattle.mrc_forms.specs.Tables.{Table}
use Rattle.mrc_forms.proofs.TableLaws.{same_forms}
use Rattle.mrc_forms.proofs.interface.Interface.copy.Goals as goal

pub invariant_of-result : goal.invariant_of-result
invariant_of-result c =
    same_forms (string_bytes c.self.inside.name) (string_bytes c.in_ok-from_str.field-0)
    c.self.inside.base c.self.inside.rows.items c.in_ok-copy_all.field-0.items
    (c.in_ok-from_str.ensures.ok ∙ c.name.ensures
    ∙ ap (λ (table : Table). table.name) (sym c.self.view_is))
    (c.in_ok-copy_all.ensures ∙ c.deref.ensures.value) c.self.invariant
