use Rattle.std.proofs.Common.{◌∙◌, ap, refl}
use Rattle.std.specs.Prelude.{◌||◌}
use Rattle.std.specs.List.{list_any}
use Rattle.mrc_bits.specs.Bits.{is_set}
use Rattle.mrc_wiring.specs.Slots.{form_takes, is_taker}
use Rattle.mrc_wiring.specs.Table.{wiring_of}
use Rattle.mrc_wiring.proofs.Findings.{any_there}
use Rattle.mrc_wiring.proofs.wired.Wired.join_item.Goals as goal

pub returns : goal.returns
returns c = λ class.
    let W = wiring_of c.args.self.now in
    c.join_forms.ensures class
    ∙ ap (λ b. is_set c.args.row.now class || b)
    (any_there (form_takes W c.args.disp class) (is_taker W c.args.disp class) refl (λ form. refl)
    c.item_forms.result.now
    ∙ ap (list_any (form_takes W c.args.disp class)) c.item_forms.ensures)
