use Rattle.std.proofs.Common.{ap, ◌∙◌}
use Rattle.std.specs.List.{list_any}
use Rattle.std.specs.BTreeMap.{is_at}
use Rattle.mrc_facts.specs.Sets.{has}
use Rattle.mrc_facts.proofs.Derived.{derived}
use Rattle.mrc_facts.proofs.listed.ListedFacts.has.Goals as goal

pub returns : goal.returns
returns c =
    c.contains.ensures
    ∙ ap (λ R. list_any (is_at (R c.args.fact.now)) c.self.inside.facts.keys) derived
    ∙ ap (λ facts. has facts c.args.fact.now) c.self.view_is
