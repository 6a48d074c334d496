use Rattle.std.proofs.Common.{◌+◌, sym, ◌∙◌, arith, rules}
use Rattle.mrc_facts.specs.Sets.{with_fact}
use Rattle.mrc_rows.specs.Rows.{Shows}
use Rattle.mrc_rows.proofs.Rows.{with_there, view_of, shown_as, at_places, shows_same, shows_more, few_shown}
use Rattle.mrc_rows.proofs.row_facts.RowFacts.insert.Goals as goal

pub returns-then-has-clause-ok : goal.returns-then-has-clause-ok
returns-then-has-clause-ok c =
    let old = shown_as c.self.inside.rows.items c.self.inside.count c.self.inside.shown c.args.self.now c.self.view_is in
    with_there c.args.self.now c.args.fact old.ascending (sym c.has.ensures ∙ c.if-has.true)

pub returns-in_err-make_row-clause-err : goal.returns-in_err-make_row-clause-err
returns-in_err-make_row-clause-err c =
    let old = shown_as c.self.inside.rows.items c.self.inside.count c.self.inside.shown c.args.self.now c.self.view_is in
    let same = shows_same c.self.inside.rows.items c.make_row.new.rows.items c.self.inside.count c.args.self.now c.make_row.ensures.same old in
    let e = view_of c.make_row.new.rows.items c.self.inside.count c.in_err-make_row.self-1-own.given.0 c.args.self.now same in
    search (rules, e)

pub overflow_add-self : goal.overflow_add-self
overflow_add-self c = let few = few_shown c.self.inside.rows.items c.self.inside.count c.self.inside.shown.0 c.self.inside.shown.1 in omega arith

shows_new : (c : goal.After-set_in_row) → Shows c.set_in_row.new.rows.items (c.self.inside.count + 1) (with_fact c.args.self.now c.args.fact)
shows_new c =
    let old = shown_as c.self.inside.rows.items c.self.inside.count c.self.inside.shown c.args.self.now c.self.view_is in
    let same = shows_same c.self.inside.rows.items c.make_row.new.rows.items c.self.inside.count c.args.self.now c.make_row.ensures.same old in
    let more = at_places c.make_row.new.rows.items c.set_in_row.new.rows.items c.args.fact c.row_of-row.result c.place_of-place.result c.row_of-row.ensures.value c.place_of-place.ensures.value c.set_in_row.ensures in
    shows_more c.make_row.new.rows.items c.set_in_row.new.rows.items c.self.inside.count c.args.self.now c.args.fact c.requires (sym c.has.ensures ∙ c.if-has.false) more same

pub invariant_of-self-inside-2 : goal.invariant_of-self-inside-2
invariant_of-self-inside-2 c = ((with_fact c.args.self.now c.args.fact, shows_new c), tt)

shows_new_again : (c : goal.After-self-2-1) → Shows c.set_in_row.new.rows.items (c.self.inside.count + 1) (with_fact c.args.self.now c.args.fact)
shows_new_again c =
    let old = shown_as c.self.inside.rows.items c.self.inside.count c.self.inside.shown c.args.self.now c.self.view_is in
    let same = shows_same c.self.inside.rows.items c.make_row.new.rows.items c.self.inside.count c.args.self.now c.make_row.ensures.same old in
    let more = at_places c.make_row.new.rows.items c.set_in_row.new.rows.items c.args.fact c.row_of-row.result c.place_of-place.result c.row_of-row.ensures.value c.place_of-place.ensures.value c.set_in_row.ensures in
    shows_more c.make_row.new.rows.items c.set_in_row.new.rows.items c.self.inside.count c.args.self.now c.args.fact c.requires (sym c.has.ensures ∙ c.if-has.false) more same

pub returns-clause-ok : goal.returns-clause-ok
returns-clause-ok c = view_of c.set_in_row.new.rows.items (c.self.inside.count + 1) c.self-2-1.given.0 (with_fact c.args.self.now c.args.fact) (shows_new_again c)
