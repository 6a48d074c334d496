use Rattle.std.proofs.Common.{◌≡◌, ℕ, List, Vec, true, sym, subst, arith, rules}
use Rattle.std.specs.declared.alloc.Global.{Global}
use Rattle.mrc_rows.specs.Rows.{IsNextKey, NoKey, NoneFrom, group_of, key_of, is_key}
use Rattle.mrc_rows.specs.Planes.{place_key, key_behind}
use Rattle.mrc_rows.proofs.Rows.{shown_as, shown_bit, first_from_key, none_from_key, right_there}
use Rattle.mrc_rows.proofs.Groups.{key_there, first_right_alone}
use Rattle.mrc_rows.proofs.row_facts.RowFacts.first_from.Goals as goal

-- the bit of the place that was found is set
set_in : (c : goal.In_ok-group)
    → is_key c.self.inside.rows.items c.in_ok-group.group
    (place_key (c.in_ok-group.class, c.in_ok-group.right)) ≡ true
set_in c =
    subst (λ (rows : List (Vec ℕ Global)). is_key rows c.in_ok-group.group
    (place_key (c.in_ok-group.class, c.in_ok-group.right)) ≡ true) c.as_slice.ensures.value
    c.in_ok-group.ensures.found.set

pub fact_at-requires-clause-class : goal.fact_at-requires-clause-class
fact_at-requires-clause-class c =
    let few = right_there c.in_ok-group.right in
    let low = key_there c.self.inside.rows.items c.in_ok-group.group
    (place_key (c.in_ok-group.class, c.in_ok-group.right)) c.self.inside.shown.1.sized (set_in c) in
    omega (arith, few, low)

pub fact_at-requires-clause-right : goal.fact_at-requires-clause-right
fact_at-requires-clause-right c =
    first_right_alone c.self.inside.rows.items c.in_ok-group.group c.in_ok-group.class
    c.in_ok-group.right (set_in c)

pub returns-clause-found : goal.returns-clause-found
returns-clause-found c =
    let rows = c.self.inside.rows.items in
    let from = key_behind c.args.behind in
    let shows = shown_as rows c.self.inside.count c.self.inside.shown c.args.self.now c.self.view_is in
    let key = place_key (c.in_ok-group.class, c.in_ok-group.right) in
    let in_rows : IsNextKey rows c.args.group from c.in_ok-group.group key =
    subst (λ (rows : List (Vec ℕ Global)). IsNextKey rows c.args.group from c.in_ok-group.group key)
    c.as_slice.ensures.value c.in_ok-group.ensures.found in
    let next : IsNextKey rows c.args.group from (group_of c.fact_at.result) (key_of c.fact_at.result) =
    subst (λ k. IsNextKey rows c.args.group from k (key_of c.fact_at.result))
    (sym c.fact_at.ensures.group) (subst (IsNextKey rows c.args.group from c.in_ok-group.group)
    (sym c.fact_at.ensures.key) in_rows) in
    first_from_key rows c.self.inside.count c.args.self.now shows c.args.group from
    c.fact_at.result c.fact_at.ensures.within next

pub returns-clause-within : goal.returns-clause-within
returns-clause-within c = λ g there.
    let rows = c.self.inside.rows.items in
    let shows = shown_as rows c.self.inside.count c.self.inside.shown c.args.self.now c.self.view_is in
    (shown_bit rows c.self.inside.count c.args.self.now shows g there).0

pub returns-in_err-group-clause-none : goal.returns-in_err-group-clause-none
returns-in_err-group-clause-none c =
    let rows = c.self.inside.rows.items in
    let from = key_behind c.args.behind in
    let shows = shown_as rows c.self.inside.count c.self.inside.shown c.args.self.now c.self.view_is in
    let none : NoneFrom c.args.self.now c.args.group from =
    none_from_key rows c.self.inside.count c.args.self.now shows c.args.group from
    (subst (λ (rows : List (Vec ℕ Global)). NoKey rows c.args.group from) c.as_slice.ensures.value
    c.in_err-group.ensures.none) in
    search (rules, none)

pub returns-in_err-group-clause-within : goal.returns-in_err-group-clause-within
returns-in_err-group-clause-within c = λ g there.
    let rows = c.self.inside.rows.items in
    let shows = shown_as rows c.self.inside.count c.self.inside.shown c.args.self.now c.self.view_is in
    (shown_bit rows c.self.inside.count c.args.self.now shows g there).0
