use Rattle.std.proofs.Common.{[], ap, ◌∙◌}
use Rattle.std.specs.Prelude.{flat_map, slice_get, unwrap_or}
use Rattle.std.specs.Option.{option_to_list}
use Rattle.mrc_wiring.specs.Finding.{typed_at}
use Rattle.mrc_wiring.specs.Table.{Table}
use Rattle.mrc_wiring.proofs.Findings.{typed_is}
use Rattle.mrc_wiring.proofs.wired.Wired.forms.Goals as goal

pub returns-clause-those : goal.returns-clause-those
returns-clause-those c =
    ap (flat_map option_to_list) (c.forms_at.ensures
    ∙ ap (λ typed. unwrap_or (slice_get typed c.args.number) []) c.typed.ensures
    ∙ ap (λ (t : Table). typed_at c.args.kind t.interfaces c.args.number) c.self.view_is)
    ∙ typed_is c.args.self.now c.args.kind c.args.number
