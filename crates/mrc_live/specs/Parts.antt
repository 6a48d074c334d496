-- Believe. Only what `finish` cites: the seats' lists next to the journal. This profile's own
-- choice.
use Rattle.std.specs.Prelude.{◌≡◌, ◌≢◌, ◌<◌, ◌≤◌, ◌⊎◌, ℕ, List, Some, length, take, slice_get}
use Rattle.std.specs.Prelude.{slice_index}
use Rattle.mrc_base.specs.Limits.{limit_of_seats}
use Rattle.mrc_check.specs.Verdict.{Case}
use Rattle.mrc_live.specs.declared.event.Event.{Event}
use Rattle.mrc_live.specs.declared.event.Made.{Made}
use Rattle.mrc_live.specs.declared.finishing.FinishFault.{FinishFault}
use Rattle.mrc_live.specs.declared.finishing.FinishFault.TheVariants.{Differs, SeatsMissing}
use Rattle.mrc_live.specs.declared.finishing.FinishFault.TheVariants.{Swapped}
use Rattle.mrc_live.specs.Runs.{part_of}
use Rattle.mrc_live.specs.Desks.{DeskState, SeatState}

-- each seat's list is its part of the journal
abbrev pub EachIsItsPart : List SeatState → List Event → Type 0
EachIsItsPart seats events =
    (i : ℕ) (s : SeatState) → slice_get seats i ≡ Some s → part_of s.number events ≡ s.calls

-- there is a seat of this number and this task
abbrev pub IsSeated : List SeatState → Event → Type 0
IsSeated seats e =
    (i : ℕ) × ((s : SeatState) × (slice_get seats i ≡ Some s)
    × (s.number ≡ e.seat) × (s.task ≡ e.task))

-- each event is of one of the seats and of its task
abbrev pub AllAreSeated : List SeatState → List Event → Type 0
AllAreSeated seats events =
    (k : ℕ) (e : Event) → slice_get events k ≡ Some e → IsSeated seats e

-- no two seats have one number
abbrev pub AreApart : List SeatState → Type 0
AreApart seats =
    (i j : ℕ) (s t : SeatState) → slice_get seats i ≡ Some s → slice_get seats j ≡ Some t
    → s.number ≡ t.number → i ≡ j

-- there is a seat of this number
abbrev pub IsThere : List SeatState → ℕ → Type 0
IsThere seats number =
    (i : ℕ) × ((s : SeatState) × (slice_get seats i ≡ Some s) × (s.number ≡ number))

-- each seat is at the place that its number has
abbrev pub ArePlaced : List SeatState → List ℕ → Type 0
ArePlaced seats places =
    (i : ℕ) (s : SeatState) → slice_get seats i ≡ Some s
    → (s.number < limit_of_seats) × (slice_index places s.number ≡ i)

-- the place that the seat's number has is that of a seat of this number
abbrev pub HasPlace : List SeatState → List ℕ → SeatState → Type 0
HasPlace seats places s =
    (t : SeatState) × ((slice_get seats (slice_index places s.number) ≡ Some t)
    × (t.number ≡ s.number))

-- so it is of each seat
abbrev pub HavePlaces : List SeatState → List ℕ → Type 0
HavePlaces seats places =
    (i : ℕ) (s : SeatState) → slice_get seats i ≡ Some s → HasPlace seats places s

-- what a seat keeps of an event
abbrev pub made_of : Event → Made
made_of e = record { call = e.call; reply = e.reply }

-- the event is the one at this place of the seat's list
abbrev pub IsNext : Event → SeatState → ℕ → Type 0
IsNext e s at =
    (s.number ≡ e.seat) × (s.task ≡ e.task) × (slice_get s.calls at ≡ Some (made_of e))

-- each seat's part of the events is what its list has up to its place
abbrev pub Follows : List SeatState → List ℕ → List Event → Type 0
Follows seats next events =
    (i : ℕ) (s : SeatState) → slice_get seats i ≡ Some s
    → (part_of s.number events ≡ take (slice_index next s.number) s.calls)
    × (slice_index next s.number ≤ length s.calls)

-- the event is the next one of its seat's list, behind these events
abbrev pub Continues : List SeatState → List Event → Event → Type 0
Continues seats events e =
    (i : ℕ) × ((s : SeatState) × (slice_get seats i ≡ Some s)
    × IsNext e s (length (part_of s.number events)))

-- some list goes on behind these events
abbrev pub SomeGoesOn : List SeatState → List Event → Type 0
SomeGoesOn seats events =
    (i : ℕ) × ((s : SeatState) × (slice_get seats i ≡ Some s)
    × (length (part_of s.number events) < length s.calls))

-- each event before this one is the next one of its seat's list, and this one is not; or there is
-- none more, and a list goes on
pub record IsFirstDifference (seats : List SeatState) (events : List Event) (at : ℕ)
    : Type 0 where
  pub before : (k : ℕ) (e : Event) → k < at → slice_get events k ≡ Some e
      → Continues seats (take k events) e
  pub here : ((e : Event) × (slice_get events at ≡ Some e)
      × (Continues seats (take at events) e → ⊥))
      ⊎ ((at ≡ length events) × SomeGoesOn seats events)

-- no two seats have one number, and there is a seat of each number below this one
pub record AreAll (seats : List SeatState) (made : ℕ) : Type 0 where
  pub apart : AreApart seats
  pub there : (number : ℕ) → number < made → IsThere seats number

-- Why these seats do not finish a server that shows this case, by the desk under its lock: the
-- first of three reasons.
abbrev pub IsFinishFault : DeskState → Case → List SeatState → FinishFault → Type 0
-- a seat that was made is not among them, or two have one number
IsFinishFault d shown seats SeatsMissing = AreAll seats d.made → ⊥
-- all are there, and the journal first differs from their lists at this place
IsFinishFault d shown seats (Differs at) =
    AreAll seats d.made × IsFirstDifference seats d.events at
-- the lists are the parts of the journal, and the machine runs another case
IsFinishFault d shown seats Swapped =
    AreAll seats d.made × EachIsItsPart seats d.events × AllAreSeated seats d.events
    × (d.confined ≢ shown)
