use Rattle.mrc_rows.proofs.Iterating.{next_found, planes_stay}
use Rattle.mrc_rows.proofs.iter.next_nearby.Goals as goal

pub returns-clause-next : goal.returns-clause-next
returns-clause-next c =
    let within = c.are_within.ensures c.if-not-are_within.false in
    let planes = c.requires.planes (within c.args.fact.now c.requires.there) in
    next_found c.args.facts.now c.requires.ascending within c.args.fact.now c.requires.there
    c.args.planes.now planes c.next_in_group.result c.next_in_group.ensures

pub returns-clause-planes : goal.returns-clause-planes
returns-clause-planes c =
    let within = c.are_within.ensures c.if-not-are_within.false in
    let planes = c.requires.planes (within c.args.fact.now c.requires.there) in
    planes_stay c.args.facts.now c.requires.ascending within c.args.fact.now c.requires.there
    c.args.planes.now planes c.next_in_group.result c.next_in_group.ensures
