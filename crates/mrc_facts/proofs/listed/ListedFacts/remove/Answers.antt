use Rattle.std.proofs.Common.{ap, ◌∙◌, not}
use Rattle.std.specs.Prelude.{◌&&◌}
use Rattle.mrc_facts.specs.Order.{is_same}
use Rattle.mrc_facts.specs.Sets.{has}
use Rattle.mrc_facts.proofs.Keys.{ascending}
use Rattle.mrc_facts.proofs.Members.{removed}
use Rattle.mrc_facts.proofs.listed.ListedFacts.remove.Goals as goal

pub returns-clause-members : goal.returns-clause-members
returns-clause-members c =
    λ g. removed c.remove-there.new.self c.self.inside.facts c.args.fact.now
    c.remove-there.ensures.updates.0 g
    ∙ ap (λ facts. not (is_same g c.args.fact.now) && has facts g) c.self.view_is

pub returns-clause-ascending : goal.returns-clause-ascending
returns-clause-ascending c = ascending c.remove-there.new.self.keys c.remove-there.ensures.ordered
