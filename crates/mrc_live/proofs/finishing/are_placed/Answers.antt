use Rattle.std.proofs.Common.{◌≡◌, ◌<◌, Some, slice_get, slice_index, rules}
use Rattle.std.proofs.lemmas.Option.{slice_get_read, slice_get_within}
use Rattle.mrc_base.specs.Limits.{limit_of_seats}
use Rattle.mrc_live.proofs.Following.{each_more}
use Rattle.mrc_live.proofs.finishing.are_placed.Goals as goal

pub loop-i-preserved : goal.loop-i-preserved
loop-i-preserved g c =
    let mine = c.index-seats-i.result in
    let there : slice_get c.args.seats.now c.loop-i.i ≡ Some mine = search
    (rules, slice_get_read) in
    let here : (mine.number < limit_of_seats)
    × (slice_index c.args.places.now mine.number ≡ c.loop-i.i) =
    search rules in
    λ k s less at. each_more (λ k s. (s.number < limit_of_seats)
    × (slice_index c.args.places.now s.number ≡ k)) c.args.seats.now c.loop-i.i mine there here
    (λ k s less at. c.loop-i.invariant k s less at) k s less at

pub returns-clause-placed : goal.returns-clause-placed
returns-clause-placed g c = λ is i s at.
    let low = slice_get_within c.args.seats.now i s at in
    c.loop-i.invariant i s (search rules) at
