use Rattle.std.proofs.Common.{ap, ◌∙◌}
use Rattle.std.specs.List.{slice_get}
use Rattle.mrc_facts.specs.Sets.{after}
use Rattle.mrc_facts.proofs.Keys.{next_is, range_after}
use Rattle.mrc_facts.proofs.listed.ListedFacts.after.Goals as goal

pub returns : goal.returns
returns c =
    c.copied.ensures
    ∙ next_is c.next.result c.range.result c.next.new.self c.next.ensures.steps
    ∙ ap (λ facts. slice_get facts 0) (c.range.ensures.between tt)
    ∙ range_after c.self.inside.facts.keys c.args.fact
    ∙ ap (λ facts. after facts c.args.fact) c.self.view_is
