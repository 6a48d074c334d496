use Rattle.std.proofs.Common.{not, ap, ◌∙◌}
use Rattle.std.specs.List.{list_any}
use Rattle.std.specs.BTreeMap.{is_at}
use Rattle.mrc_facts.specs.Sets.{has, with_fact}
use Rattle.mrc_facts.proofs.Derived.{derived}
use Rattle.mrc_facts.proofs.Keys.{ascending, inserted}
use Rattle.mrc_facts.proofs.Members.{has-with_fact}
use Rattle.mrc_facts.proofs.listed.ListedFacts.insert.Goals as goal

pub returns-clause-added : goal.returns-clause-added
returns-clause-added c =
    c.in_ok-insert.ensures.added
    ∙ ap (λ R. not (list_any (is_at (R c.args.fact)) c.self.inside.facts.keys)) derived
    ∙ ap (λ facts. not (has facts c.args.fact)) c.self.view_is

pub returns-clause-ok : goal.returns-clause-ok
returns-clause-ok c =
    c.in_ok-insert.ensures.keys
    ∙ inserted c.self.inside.facts.keys c.args.fact
    ∙ ap (λ facts. with_fact facts c.args.fact) c.self.view_is

pub returns-clause-members : goal.returns-clause-members
returns-clause-members c =
    λ g. ap (λ facts. has facts g) (returns-clause-ok c)
    ∙ has-with_fact c.args.self.now c.args.fact g

pub returns-clause-ascending : goal.returns-clause-ascending
returns-clause-ascending c = ascending c.insert.new.self.keys c.insert.ensures.ordered

pub returns-in_err-insert-clause-ascending : goal.returns-in_err-insert-clause-ascending
returns-in_err-insert-clause-ascending c = ascending c.insert.new.self.keys c.insert.ensures.ordered
