use Rattle.std.proofs.Common.{ap, sym, ◌∙◌}
use Rattle.std.proofs.Common.{List}
use Rattle.mrc_base.specs.declared.Fact.{Fact}
use Rattle.mrc_facts.specs.Sets.{has}
use Rattle.mrc_facts.proofs.Removing.{without, has-without}
use Rattle.mrc_rows.proofs.Rows.{shown_as, view_of, removed_shows}
use Rattle.mrc_rows.proofs.row_facts.RowFacts.remove.Goals as goal

pub invariant_of-self-inside : goal.invariant_of-self-inside
invariant_of-self-inside c =
    let old = shown_as c.self.inside.rows.items c.self.inside.count c.self.inside.shown c.args.self.now c.self.view_is in
    let there = sym c.has.ensures ∙ c.if-not-has.false in
    ((without c.args.self.now c.args.fact.now, removed_shows c.self.inside.rows.items c.clear_in_row.new.rows.items c.self.inside.count c.args.self.now c.args.fact.now c.row_of.result c.place_of.result old there c.row_of.ensures.value c.place_of.ensures.value c.clear_in_row.ensures), tt)

pub returns-clause-members : goal.returns-clause-members
returns-clause-members c =
    let old = shown_as c.self.inside.rows.items c.self.inside.count c.self.inside.shown c.args.self.now c.self.view_is in
    let there = sym c.has.ensures ∙ c.if-not-has.false in
    let shows = removed_shows c.self.inside.rows.items c.clear_in_row.new.rows.items c.self.inside.count c.args.self.now c.args.fact.now c.row_of.result c.place_of.result old there c.row_of.ensures.value c.place_of.ensures.value c.clear_in_row.ensures in
    λ g. ap (λ (fs : List Fact). has fs g) (view_of _ _ c.self-1.given.0 (without c.args.self.now c.args.fact.now) shows) ∙ has-without c.args.self.now c.args.fact.now old.ascending g
