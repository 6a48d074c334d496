use Rattle.std.proofs.Common.{◌≡◌, Some, slice_get, slice_index, rules, below_more}
use Rattle.std.proofs.lemmas.Option.{slice_get_read}
use Rattle.mrc_live.specs.Parts.{IsThere}
use Rattle.mrc_live.proofs.Following.{absent_outside, absent_there}
use Rattle.mrc_live.proofs.finishing.are_all_there.Goals.{then-place-seats-via-then-place-seats}
use Rattle.mrc_live.proofs.finishing.are_all_there.Goals.{then-place-seats-via-else-place-seats+then-number}
use Rattle.mrc_live.proofs.finishing.are_all_there.Goals as goal

pub loop-number-preserved : goal.loop-number-preserved
loop-number-preserved g c =
    let place = slice_index c.args.places.now c.loop-number.number in
    let mine = c.index-seats-place.result in
    let there : slice_get c.args.seats.now place ≡ Some mine = search (rules, slice_get_read) in
    below_more (IsThere c.args.seats.now) c.loop-number.number c.loop-number.invariant
    (place, (mine, there, search rules))

pub returns-then-place-seats-clause-absent : goal.returns-then-place-seats-clause-absent
returns-then-place-seats-clause-absent g c = λ is all.
    let seats = c.args.seats.now in
    let places = c.args.places.now in
    let number = c.loop-number.number in
    let there = all number (search rules) in
    elim c.then-place-seats.branch [
      | then-place-seats-via-then-place-seats w ↦
          absent_outside seats places number c.requires.placed (search rules) there
      | then-place-seats-via-else-place-seats+then-number w ↦
          let mine = w.index-seats-place.result in
          let at : slice_get seats (slice_index places number) ≡ Some mine =
          search (rules, slice_get_read) in
          absent_there seats places number mine c.requires.placed at (search rules) there
    ]
