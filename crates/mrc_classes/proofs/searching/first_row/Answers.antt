use Rattle.std.proofs.Common.{ℕ, ◌∙◌}
use Rattle.mrc_facts.specs.Sets.{has}
use Rattle.rayon.specs.Numbers.{nat_range}
use Rattle.mrc_classes.specs.Concluding.{rows}
use Rattle.mrc_classes.specs.Lacks.{IsLackingRow}
use Rattle.mrc_classes.proofs.FirstPassing.{IsFirst, first_of, found_in, least_in, none_in}
use Rattle.mrc_classes.proofs.searching.first_row.Goals as goal

-- a row passes where the set lacks a fact of it
abbrev lacking : (g : _) (c : goal.After-find_first g) → ℕ → Type 0
lacking g c = IsLackingRow c.args.search.now.wiring (has c.args.search.now.facts) c.args.rule

first : (g : _) (c : goal.After-find_first g)
    → IsFirst (lacking g c) 0 (rows c.args.search.now.wiring c.args.rule) c.find_first.result
first g c =
    let ends = c.into_par_iter.ensures in
    let found = c.find_first.ensures in
    let list = found.2 ∙ (λ i. nat_range (ends.0 i) ((ends.1 ∙ c.rows.ensures) i)) in
    first_of (lacking g c) (rows c.args.search.now.wiring c.args.rule) found.0 found.1
    c.find_first.result list found.3 found.4

pub returns-clause-found : goal.returns-clause-found
returns-clause-found g c =
    found_in (lacking g c) (rows c.args.search.now.wiring c.args.rule) c.find_first.result
    (first g c)

pub returns-clause-least : goal.returns-clause-least
returns-clause-least g c =
    least_in (lacking g c) (rows c.args.search.now.wiring c.args.rule) c.find_first.result
    (first g c)

pub returns-clause-none : goal.returns-clause-none
returns-clause-none g c =
    none_in (lacking g c) (rows c.args.search.now.wiring c.args.rule) c.find_first.result
    (first g c)
