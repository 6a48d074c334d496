use Rattle.std.proofs.Common.{◌≡◌, Some, slice_get, slice_index, rules, refl}
use Rattle.std.proofs.lemmas.Option.{slice_get_read}
use Rattle.mrc_live.specs.Parts.{IsNext}
use Rattle.mrc_live.proofs.Following.{follows_more, seated}
use Rattle.mrc_live.proofs.Differing.{continues_here, stops_past, stops_outside, stops_there}
use Rattle.mrc_live.proofs.finishing.goes_on.Goals as goal

pub returns-then-number-ge-PLACES-clause-continues :
    goal.returns-then-number-ge-PLACES-clause-continues
returns-then-number-ge-PLACES-clause-continues g c = λ events follows. (
  λ is. absurd cc,
  λ on. absurd (stops_past c.args.seats.now c.args.places.now c.args.next.now events
      c.args.event.now c.requires follows c.if-number-ge-PLACES.true on),
)

pub returns-then-place-seats-clause-continues : goal.returns-then-place-seats-clause-continues
returns-then-place-seats-clause-continues g c = λ events follows. (
  λ is. absurd cc,
  λ on. absurd (stops_outside c.args.seats.now c.args.places.now c.args.next.now events
      c.args.event.now c.requires follows c.if-place-seats.true on),
)

pub returns-then-not-is_next-clause-continues : goal.returns-then-not-is_next-clause-continues
returns-then-not-is_next-clause-continues g c = λ events follows.
    let e = c.args.event.now in
    let place = slice_index c.args.places.now e.seat in
    let mine = c.index-seats-place.result in
    let there : slice_get c.args.seats.now place ≡ Some mine = search (rules, slice_get_read) in
    let other : IsNext e mine (slice_index c.args.next.now e.seat)
    → ⊥ = λ is. absurd (let no = c.if-not-is_next.ensures.next.1 is in cc) in (
      λ is. absurd cc,
      λ on. absurd (stops_there c.args.seats.now c.args.places.now c.args.next.now events e mine
          c.requires follows there other on),
    )

pub returns-clause-seated : goal.returns-clause-seated
returns-clause-seated g c = λ is.
    let e = c.args.event.now in
    let place = slice_index c.args.places.now e.seat in
    let mine = c.index-seats-place.result in
    let there : slice_get c.args.seats.now place ≡ Some mine = search (rules, slice_get_read) in
    let is_next : IsNext e mine (slice_index c.args.next.now e.seat) = search rules in
    seated c.args.seats.now place mine e (slice_index c.args.next.now e.seat) there is_next

pub returns-clause-continues : goal.returns-clause-continues
returns-clause-continues g c = λ events follows.
    let e = c.args.event.now in
    let place = slice_index c.args.places.now e.seat in
    let mine = c.index-seats-place.result in
    let there : slice_get c.args.seats.now place ≡ Some mine = search (rules, slice_get_read) in
    let is_next : IsNext e mine (slice_index c.args.next.now e.seat) = search rules in (
      λ is. continues_here c.args.seats.now c.args.next.now events place mine e follows there
          is_next,
      λ on. refl,
    )

pub returns-clause-follows : goal.returns-clause-follows
returns-clause-follows g c = λ is events follows.
    let e = c.args.event.now in
    let places = c.args.places.now in
    let place = slice_index places e.seat in
    let mine = c.index-seats-place.result in
    let there : slice_get c.args.seats.now place ≡ Some mine = search (rules, slice_get_read) in
    let is_next : IsNext e mine (slice_index c.args.next.now e.seat) = search rules in
    follows_more c.args.seats.now places c.args.next.now place mine e events c.requires there refl
    is_next (search rules) follows
