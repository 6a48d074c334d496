use Rattle.std.proofs.Common.{List, ap, ◌∙◌, rules}
use Rattle.mrc_base.specs.declared.Fact.{Fact}
use Rattle.mrc_facts.specs.Sets.{has}
use Rattle.mrc_rows.proofs.Rows.{shown_as, shows_same, view_of}
use Rattle.mrc_rows.proofs.row_facts.RowFacts.join.Goals as goal

pub returns-in_err-make_row-clause-err : goal.returns-in_err-make_row-clause-err
returns-in_err-make_row-clause-err c =
    let same = shows_same c.self.inside.rows.items c.make_row.new.rows.items c.self.inside.count
    c.args.self.now c.make_row.ensures.same
    (shown_as c.self.inside.rows.items c.self.inside.count c.self.inside.shown c.args.self.now
    c.self.view_is) in
    let e = view_of c.make_row.new.rows.items c.self.inside.count
    c.in_err-make_row.self-1-own.given.0 c.args.self.now same in
    search (rules, e)

pub invariant_of-self-inside-2 : goal.invariant_of-self-inside-2
invariant_of-self-inside-2 c =
    let same = shows_same c.self.inside.rows.items c.make_row.new.rows.items c.self.inside.count
    c.args.self.now c.make_row.ensures.same
    (shown_as c.self.inside.rows.items c.self.inside.count c.self.inside.shown c.args.self.now
    c.self.view_is) in
    let all = c.set_both-self-inside.ensures c.args.self.now same in
    ((all.joined, all.shows), tt)

pub returns-clause-ok : goal.returns-clause-ok
returns-clause-ok c = λ g.
    let same = shows_same c.self.inside.rows.items c.make_row.new.rows.items c.self.inside.count
    c.args.self.now c.make_row.ensures.same
    (shown_as c.self.inside.rows.items c.self.inside.count c.self.inside.shown c.args.self.now
    c.self.view_is) in
    let all = c.set_both-self-inside.ensures c.args.self.now same in
    ap (λ (fs : List Fact). has fs g) (view_of _ _ c.self-2-1.given.0 all.joined all.shows)
    ∙ all.members g
