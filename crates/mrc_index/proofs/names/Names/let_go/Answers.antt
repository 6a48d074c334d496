use Rattle.std.proofs.Common.{rules, ◌∙◌, ap}
use Rattle.mrc_model.specs.Map.{alter_all}
use Rattle.mrc_model.specs.Space.{outside}
use Rattle.mrc_index.proofs.SetLaws.{changed_map, altered_indexed, outside_alike}
use Rattle.mrc_index.proofs.names.Names.let_go.Goals as goal

pub invariant_of-self : goal.invariant_of-self
invariant_of-self c =
    altered_indexed c.self.inside.entries c.retain.new.self c.self.inside.held c.self.inside.once
    c.self.inside.free (outside c.args.set) c.self.invariant
    (λ k e. outside_alike c.args.set k e)
    (changed_map _ (outside c.args.set) _ _ _
    (λ k v w b f h. search rules) c.retain.ensures)

pub returns : goal.returns
returns c =
    changed_map _ (outside c.args.set) _ _ _
    (λ k v w b f h. search rules) c.retain.ensures
    ∙ ap (alter_all (outside c.args.set)) c.self.view_is
