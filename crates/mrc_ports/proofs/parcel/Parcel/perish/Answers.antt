use Rattle.std.proofs.Common.{ap, map, ◌∙◌}
use Rattle.mrc_ports.specs.Parcels.{perished_argument}
use Rattle.mrc_ports.proofs.Turning.{written, parcel_turned, carried_turned}
use Rattle.mrc_ports.proofs.parcel.Parcel.perish.Goals as goal

pub invariant_of-self : goal.invariant_of-self
invariant_of-self c =
    let dead = c.args.dead.now in
    let was = c.self.inside.arguments in
    carried_turned dead was.items _
    (written (perished_argument dead) was.items c.perish_arguments.new.arguments was.len was.ok.0
    (c.perish_arguments.ensures ∙ ap (map (perished_argument dead)) c.as_mut_slice.ensures.value))
    c.self.invariant

pub returns : goal.returns
returns c =
    let dead = c.args.dead.now in
    let was = c.self.inside.arguments in
    parcel_turned dead c.self.inside.by_once c.self.inside.id c.self.inside.reply
    c.perish_item-self-inside.result was.items _ c.args.self.now c.self.view_is
    c.perish_item-self-inside.ensures
    (written (perished_argument dead) was.items c.perish_arguments.new.arguments was.len was.ok.0
    (c.perish_arguments.ensures ∙ ap (map (perished_argument dead)) c.as_mut_slice.ensures.value))
