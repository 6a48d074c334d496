use Rattle.std.proofs.Common.{◌∙◌, sym, ap}
use Rattle.mrc_model.specs.Map.{get}
use Rattle.mrc_index.specs.Names.{is_held_by, is_once_by}
use Rattle.mrc_index.proofs.FadeLaws.{faded, left_held, left_once}
use Rattle.mrc_index.proofs.names.Names.fade.Goals as goal

pub invariant_of-self : goal.invariant_of-self
invariant_of-self c =
    faded c.self.inside.entries c.set.new.self c.self.inside.held c.self.inside.once
    c.forget.new.held c.forget.new.once c.self.inside.free c.from.result c.args.name
    c.args.entry.now c.in-Some.left c.self.invariant c.from.ensures
    (ap (get c.self.inside.entries) c.from.ensures ∙ ap (λ z. get z c.args.name) c.self.view_is
    ∙ c.requires) c.set.ensures
    (λ p. ap (is_held_by p) (sym c.in-Some.is ∙ c.left_of.ensures) ∙ left_held p c.args.entry.now)
    (λ p. ap (is_once_by p) (sym c.in-Some.is ∙ c.left_of.ensures) ∙ left_once p c.args.entry.now)
    c.forget.ensures.held c.forget.ensures.once
