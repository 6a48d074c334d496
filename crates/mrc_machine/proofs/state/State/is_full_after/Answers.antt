use Rattle.std.proofs.Common.{sym, ap, ◌∙◌}
use Rattle.mrc_model.specs.World.{Space}
use Rattle.mrc_model.specs.Space.{is_full}
use Rattle.mrc_names.specs.Takes.{take_right}
use Rattle.mrc_machine.proofs.RequestLaws.{left_whole, taken_for}
use Rattle.mrc_machine.proofs.Trying.{same_Ok}
use Rattle.mrc_machine.proofs.state.State.is_full_after.Goals as goal

pub returns-then-name-eq0 : goal.returns-then-name-eq0
returns-then-name-eq0 c y left =
    c.is_full.ensures ∙ ap is_full (c.space.ensures
    ∙ same_Ok _ _ (sym (left_whole _ _ _ c.if-name-eq0.true) ∙ left))

pub returns-else-name-eq0 : goal.returns-else-name-eq0
returns-else-name-eq0 c y left =
    let (p, taken) = taken_for _ _ _ c.if-name-eq0.false y left in
    c.is_full_after.ensures y p
    (ap (λ (x : Space). take_right x c.args.name c.args.disp) c.space-else-name-eq0.ensures ∙ taken)
