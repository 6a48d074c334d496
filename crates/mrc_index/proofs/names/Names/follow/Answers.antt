use Rattle.std.proofs.Common.{rules, ◌∙◌, ap}
use Rattle.mrc_model.specs.Map.{alter_all}
use Rattle.mrc_model.specs.Space.{in_renamed}
use Rattle.mrc_index.proofs.SetLaws.{changed_map, altered_indexed, renamed_alike}
use Rattle.mrc_index.proofs.names.Names.follow.Goals as goal

pub invariant_of-self : goal.invariant_of-self
invariant_of-self c =
    altered_indexed c.self.inside.entries c.retain.new.self c.self.inside.held c.self.inside.once
    c.self.inside.free (in_renamed c.args.old c.args.new) c.self.invariant
    (λ k e. renamed_alike c.args.old c.args.new k e)
    (changed_map _ (in_renamed c.args.old c.args.new) _ _ _
    (λ k v w b f h. search rules) c.retain.ensures)

pub returns : goal.returns
returns c =
    changed_map _ (in_renamed c.args.old c.args.new) _ _ _
    (λ k v w b f h. search rules) c.retain.ensures
    ∙ ap (alter_all (in_renamed c.args.old c.args.new)) c.self.view_is
