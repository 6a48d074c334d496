-- Where the events and the seats' lists first differ.
use Rattle.std.proofs.Common.{◌≡◌, ◌≢◌, ◌<◌, ◌≤◌, ℕ, List, Some, length, slice_get, slice_index}
use Rattle.std.proofs.Common.{refl, sym, ap, ◌∙◌, subst, arith}
use Rattle.std.proofs.lemmas.List.{length-take-le}
use Rattle.std.proofs.lemmas.Option.{slice_get_within}
use Rattle.mrc_base.specs.Limits.{limit_of_seats}
use Rattle.mrc_live.proofs.Following.{one_there}
use Rattle.mrc_live.specs.declared.event.Event.{Event}
use Rattle.mrc_live.specs.Runs.{part_of}
use Rattle.mrc_live.specs.Desks.{SeatState}
use Rattle.mrc_live.specs.Parts.{ArePlaced, Follows, IsNext, Continues, SomeGoesOn}

-- a seat's place is the length of its part
pub place_is : (seats : List SeatState) (next : List ℕ) (es : List Event) (i : ℕ) (s : SeatState)
    → Follows seats next es → slice_get seats i ≡ Some s
    → length (part_of s.number es) ≡ slice_index next s.number
place_is seats next es i s follows at =
    let f = follows i s at in
    ap length f.0 ∙ length-take-le (slice_index next s.number) s.calls f.1

-- the next one of the list of the seat at this place
pub continues_here : (seats : List SeatState) (next : List ℕ) (es : List Event) (place : ℕ)
    (mine : SeatState) (e : Event)
    → Follows seats next es → slice_get seats place ≡ Some mine
    → IsNext e mine (slice_index next e.seat) → Continues seats es e
continues_here seats next es place mine e follows there is_next =
    let same : length (part_of mine.number es) ≡ slice_index next e.seat =
    place_is seats next es place mine follows there ∙ ap (λ n. slice_index next n) is_next.0 in
    (place, (mine, there, subst (IsNext e mine) (sym same) is_next))

-- what continues does so at the place of its seat's number
pub continues_at : (seats : List SeatState) (places next : List ℕ) (es : List Event) (e : Event)
    → ArePlaced seats places → Follows seats next es → Continues seats es e
    → (e.seat < limit_of_seats)
    × ((s : SeatState) × (slice_get seats (slice_index places e.seat) ≡ Some s)
    × IsNext e s (slice_index next e.seat))
continues_at seats places next es e placed follows on =
    let i = on.0 in
    let s = on.1.0 in
    let at = on.1.1 in
    let is_next : IsNext e s (length (part_of s.number es)) = on.1.2 in
    let place = placed i s at in
    let here : i ≡ slice_index places e.seat = sym place.1
    ∙ ap (λ n. slice_index places n) is_next.0 in
    let same : length (part_of s.number es) ≡ slice_index next e.seat = place_is seats next es i s
    follows at ∙ ap (λ n. slice_index next n) is_next.0 in (
      subst (λ n. n < limit_of_seats) is_next.0 place.0,
      (
        s,
        ap (λ k. slice_get seats k) (sym here)
            ∙ at,
        subst (IsNext e s) same is_next,
      ),
    )

-- a list that has not ended goes on
pub goes_on_there : (seats : List SeatState) (next : List ℕ) (es : List Event) (i : ℕ)
    (s : SeatState)
    → Follows seats next es → slice_get seats i ≡ Some s
    → slice_index next s.number ≢ length s.calls → SomeGoesOn seats es
goes_on_there seats next es i s follows at more =
    let f = follows i s at in
    let here = place_is seats next es i s follows at in
    (i, (s, at, omega (arith, f.1, here, more)))

-- an event whose seat's number has no place, or whose seat's list has another entry there, does
-- not continue
pub stops_past : (seats : List SeatState) (places next : List ℕ) (es : List Event) (e : Event)
    → ArePlaced seats places → Follows seats next es → limit_of_seats ≤ e.seat
    → Continues seats es e → ⊥
stops_past seats places next es e placed follows past on = omega
    (arith, past, (continues_at seats places next es e placed follows on).0)

pub stops_outside : (seats : List SeatState) (places next : List ℕ) (es : List Event) (e : Event)
    → ArePlaced seats places → Follows seats next es → length seats ≤ slice_index places e.seat
    → Continues seats es e → ⊥
stops_outside seats places next es e placed follows outside on =
    let there = (continues_at seats places next es e placed follows on).1 in
    omega (arith, outside, slice_get_within seats (slice_index places e.seat) there.0 there.1)

pub stops_there : (seats : List SeatState) (places next : List ℕ) (es : List Event) (e : Event)
    (mine : SeatState)
    → ArePlaced seats places → Follows seats next es
    → slice_get seats (slice_index places e.seat) ≡ Some mine
    → (IsNext e mine (slice_index next e.seat) → ⊥)
    → Continues seats es e → ⊥
stops_there seats places next es e mine placed follows at other on =
    let there = (continues_at seats places next es e placed follows on).1 in
    let one : there.0 ≡ mine = one_there seats (slice_index places e.seat)
    (slice_index places e.seat) there.0 mine there.1 at refl in
    other (subst (λ s. IsNext e s (slice_index next e.seat)) one there.2)
