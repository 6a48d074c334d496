use Rattle.mrc_facts.specs.Sets.{has}
use Rattle.mrc_rows.proofs.Wholes.{whole_as, both_joined}
use Rattle.mrc_rows.proofs.facts.Facts.join_all.Goals as goal

pub returns-clause-ok : goal.returns-clause-ok
returns-clause-ok c = λ g.
    let other = c.other.inside in
    let whole = whole_as other.rows other.others other.whole c.args.other.now c.other.view_is in
    both_joined other.rows other.others c.args.other.now whole g (has c.args.self.now g)
    (has c.join_rows.new.self g) (has c.join_listed.new.self g) (c.in_ok-join_rows.ensures.ok g)
    (c.in_ok-join_listed.ensures.ok g)

pub join_listed-requires-clause-list : goal.join_listed-requires-clause-list
join_listed-requires-clause-list c =
    let other = c.other.inside in
    (whole_as other.rows other.others other.whole c.args.other.now c.other.view_is).others_ascending

pub returns-clause-other : goal.returns-clause-other
returns-clause-other c =
    let other = c.other.inside in
    (whole_as other.rows other.others other.whole c.args.other.now c.other.view_is).ascending
