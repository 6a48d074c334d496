use Rattle.std.proofs.Common.{ap, refl, ◌∙◌}
use Rattle.std.specs.List.{list_any}
use Rattle.mrc_wiring.specs.Table.{wiring_of}
use Rattle.mrc_wiring.specs.Slots.{form_takes, is_taker}
use Rattle.mrc_wiring.proofs.Findings.{any_there}
use Rattle.mrc_wiring.proofs.wired.Wired.item_takes.Goals as goal

pub returns : goal.returns
returns c =
    let W = wiring_of c.args.self.now in
    c.has_taker.ensures
    ∙ any_there (form_takes W c.args.disp c.args.carried) (is_taker W c.args.disp c.args.carried)
    refl (λ form. refl) c.item_forms.result.now
    ∙ ap (list_any (form_takes W c.args.disp c.args.carried)) c.item_forms.ensures
