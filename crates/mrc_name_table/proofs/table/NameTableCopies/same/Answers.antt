use Rattle.std.proofs.Common.{◌∙◌, ap, map, sym}
use Rattle.mrc_name_table.proofs.Tables.{equal, text}
use Rattle.mrc_name_table.proofs.table.NameTableCopies.same.Goals as goal

pub returns : goal.returns
returns c =
    let same = equal c.as_slice.result.now c.as_slice-2.result.now c.eq.result c.eq.ensures in
    let one = ap (map text) c.as_slice.ensures.keys ∙ c.self.view_is in
    let other = ap (map text) c.as_slice-2.ensures.keys ∙ c.other.view_is in
    ((λ e. sym one ∙ (same.0 e ∙ other)), (λ e. same.1 (one ∙ (e ∙ sym other))))
