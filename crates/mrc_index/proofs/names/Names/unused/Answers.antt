use Rattle.std.proofs.Common.{◌∙◌, sym, ap, subst, ◌≤◌}
use Rattle.mrc_model.specs.Map.{len}
use Rattle.mrc_model.specs.Space.{unused}
use Rattle.mrc_index.proofs.IndexLaws.{first_free, some_free, within_row}
use Rattle.mrc_index.proofs.names.Names.unused.Goals as goal

pub unreachable-requires : goal.unreachable-requires
unreachable-requires c =
    some_free c.self.inside.entries c.self.inside.held c.self.inside.once c.self.inside.free
    c.self.invariant (subst (λ z. len z ≤ 4096) (sym c.self.view_is) c.requires)
    c.in-None.ensures.none

pub returns : goal.returns
returns c =
    first_free c.self.inside.entries c.self.inside.held c.self.inside.once c.self.inside.free
    c.in-Some.name c.self.invariant (subst (λ z. len z ≤ 4096) (sym c.self.view_is) c.requires)
    c.in-Some.ensures.found
    (within_row c.self.inside.free c.in-Some.name c.self.invariant.words
    c.in-Some.ensures.found.set)
    ∙ ap unused c.self.view_is
