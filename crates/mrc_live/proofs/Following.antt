-- How the places in the seats' lists go on with the events.
use Rattle.std.proofs.Common.{◌≡◌, ◌≢◌, ◌<◌, ◌≤◌, ◌+◌, ℕ, zero, suc, List, [], ◌∷◌, ◌++◌, Some}
use Rattle.std.proofs.Common.{Bool, true, false, length, take, slice_get, slice_index, slice_set}
use Rattle.std.proofs.Common.{get_or, replicate, refl, sym, ap, ◌∙◌, subst, arith, ◌==◌, cond, inl}
use Rattle.std.proofs.Common.{inr}
use Rattle.std.proofs.lemmas.Bool.Decides.{eqb_tells, leb_tells}
use Rattle.std.proofs.lemmas.List.{get_or-set_same, get_or-set_other, append-nil, get_or-replicate}
use Rattle.std.proofs.lemmas.List.{get_or_past, length-replicate}
use Rattle.std.proofs.lemmas.Option.{slice_get_within, get_or_from_slice_get}
use Rattle.mrc_live.specs.declared.event.Event.{Event}
use Rattle.mrc_live.specs.declared.event.Made.{Made}
use Rattle.mrc_live.specs.Runs.{part_of}
use Rattle.mrc_live.specs.Desks.{SeatState}
use Rattle.mrc_live.specs.Parts.{AreApart, ArePlaced, Follows, HasPlace, HavePlaces, IsNext}
use Rattle.mrc_live.specs.Parts.{IsSeated, IsThere, made_of}

-- one list has one element at a place
pub one_there : {X : Type 0} (xs : List X) (i j : ℕ) (x y : X) → slice_get xs i ≡ Some x
    → slice_get xs j ≡ Some y → i ≡ j → x ≡ y
one_there xs i j x y at there same =
    sym (get_or_from_slice_get xs i x x at) ∙ ap (λ k. get_or xs k x) same
    ∙ get_or_from_slice_get xs j y x there

part_of_cond : (b : Bool) (e : Event) (es fs : List Made)
    → cond b (made_of e ∷ (es ++ fs)) (es ++ fs) ≡ cond b (made_of e ∷ es) es ++ fs
part_of_cond true e es fs = refl
part_of_cond false e es fs = refl

-- a seat's part of one list after another
pub part_of-append : (number : ℕ) (es fs : List Event)
    → part_of number (es ++ fs) ≡ part_of number es ++ part_of number fs
part_of-append number [] fs = refl
part_of-append number (e ∷ es) fs =
    (λ i. cond (e.seat == number) (made_of e ∷ part_of-append number es fs i)
    (part_of-append number es fs i)) ∙ part_of_cond (e.seat == number) e (part_of number es)
    (part_of number fs)

-- one element more
pub take_more : {X : Type 0} (xs : List X) (n : ℕ) (x : X) → slice_get xs n ≡ Some x
    → take (suc n) xs ≡ take n xs ++ x ∷ []
take_more [] n x e = cc
take_more (y ∷ xs) zero x e = cc
take_more (y ∷ xs) (suc n) x e = ap (λ zs. y ∷ zs) (take_more xs n x e)

pub take_next : {X : Type 0} (xs : List X) (n m : ℕ) (x : X) → slice_get xs n ≡ Some x → m ≡ n + 1
    → take m xs ≡ take n xs ++ x ∷ []
take_next xs n m x e is =
    let same : m ≡ suc n = omega (arith, is) in
    ap (λ k. take k xs) same ∙ take_more xs n x e

-- the list of the event's own seat goes on
follows_here : (next : List ℕ) (es : List Event) (e : Event) (s : SeatState)
    → part_of s.number es ≡ take (slice_index next s.number) s.calls
    → e.seat ≡ s.number → (e.seat == s.number) ≡ true
    → slice_get s.calls (slice_index next e.seat) ≡ Some (made_of e) → e.seat < length next
    → (part_of s.number (es ++ e ∷ []) ≡ take (slice_index
    (slice_set next e.seat (slice_index next e.seat + 1)) s.number) s.calls)
    × (slice_index (slice_set next e.seat (slice_index next e.seat + 1)) s.number ≤ length s.calls)
follows_here next es e s was same one at inside =
    let m = slice_index next e.seat in
    let now : slice_index (slice_set next e.seat (m + 1)) s.number ≡ m + 1 =
    ap (λ n. slice_index (slice_set next e.seat (m + 1)) n) (sym same)
    ∙ get_or-set_same next e.seat (m + 1) 0 inside in
    let low = slice_get_within s.calls m (made_of e) at in (
      part_of-append s.number es (e ∷ []) ∙ (λ i. was i ++ cond (one i) (made_of e ∷ []) [])
          ∙ ap (λ n. take (slice_index next n) s.calls ++ made_of e ∷ []) (sym same)
          ∙ sym (take_next s.calls m (slice_index (slice_set next e.seat (m + 1)) s.number)
          (made_of e) at now),
      omega (arith, now, low),
    )

-- the list of another seat stays where it is
follows_there : (next : List ℕ) (es : List Event) (e : Event) (s : SeatState) (more : ℕ)
    → (part_of s.number es ≡ take (slice_index next s.number) s.calls)
    × (slice_index next s.number ≤ length s.calls)
    → e.seat ≢ s.number → (e.seat == s.number) ≡ false
    → (part_of s.number (es ++ e ∷ []) ≡ take (slice_index (slice_set next e.seat more) s.number)
    s.calls)
    × (slice_index (slice_set next e.seat more) s.number ≤ length s.calls)
follows_there next es e s more was apart other =
    let now : slice_index (slice_set next e.seat more) s.number ≡ slice_index next s.number =
    get_or-set_other next e.seat s.number more 0 (λ same. apart (sym same)) in
    let none : part_of s.number (es ++ e ∷ []) ≡ part_of s.number es ++ [] = part_of-append
    s.number es (e ∷ []) ∙ (λ i. part_of s.number es ++ cond (other i) (made_of e ∷ []) []) in (
      none ∙ append-nil (part_of s.number es) ∙ was.0
          ∙ ap (λ n. take n s.calls) (sym now),
      omega (arith, now, was.1),
    )

-- the event is the next one of the list of the seat at this place
pub follows_more : (seats : List SeatState) (places next : List ℕ) (place : ℕ) (mine : SeatState)
    (e : Event) (es : List Event)
    → ArePlaced seats places → slice_get seats place ≡ Some mine
    → slice_index places e.seat ≡ place → IsNext e mine (slice_index next e.seat)
    → e.seat < length next
    → Follows seats next es → Follows seats (slice_set next e.seat (slice_index next e.seat + 1))
    (es ++ e ∷ [])
follows_more seats places next place mine e es placed there is_place is_next inside follows i s at =
    elim (eqb_tells e.seat s.number) [
      | inl is ↦
          let here : i ≡ place = sym (placed i s at).1 ∙ ap (λ n. slice_index places n) (sym is.1)
          ∙ is_place in
          let one : s ≡ mine = one_there seats i place s mine at there here in
          follows_here next es e s (follows i s at).0 is.1 is.0
          (ap (λ t. slice_get t.calls (slice_index next e.seat)) one ∙ is_next.2) inside
      | inr is ↦ follows_there next es e s (slice_index next e.seat + 1) (follows i s at) is.1 is.0
    ]

-- the seat at this place has the event
pub seated : (seats : List SeatState) (place : ℕ) (mine : SeatState) (e : Event) (at : ℕ)
    → slice_get seats place ≡ Some mine → IsNext e mine at → IsSeated seats e
seated seats place mine e at there is_next = (place, (mine, there, is_next.0, is_next.1))

-- a fact of the element at each place below the next one
pub each_more : {X : Type 0} (P : ℕ → X → Type 0) (xs : List X) (n : ℕ) (x : X)
    → slice_get xs n ≡ Some x → P n x
    → ((j : ℕ) (y : X) → j < n → slice_get xs j ≡ Some y → P j y) → (j : ℕ) (y : X) → j < n + 1
    → slice_get xs j ≡ Some y → P j y
each_more P xs n x at holds below j y less there =
    elim (eqb_tells j n) [
      | inl is ↦ subst (λ m. P m y) (sym is.1)
          (subst (P n) (one_there xs n j x y at there (sym is.1)) holds)
      | inr is ↦ below j y (omega (arith, less, is.1)) there
    ]

-- what the list has up to the next place
pub follows_next : (seats : List SeatState) (next : List ℕ) (events : List Event) (k : ℕ)
    (e : Event)
    → slice_get events k ≡ Some e → Follows seats next (take k events ++ e ∷ [])
    → Follows seats next (take (k + 1) events)
follows_next seats next events k e at follows = subst (λ es. Follows seats next es)
    (sym (take_next events k (k + 1) e at refl)) follows

-- no place has been gone on from
pub beginning : (n i : ℕ) → slice_index (replicate n 0) i ≡ 0
beginning n i =
    elim (leb_tells n i) [
      | inl is ↦ get_or_past (replicate n 0) i 0
          (let zero_there : ℕ = 0 in rw (length-replicate n zero_there) is.1)
      | inr is ↦ get_or-replicate n i 0 0 is.1
    ]

-- places tell seats apart
pub placed_apart : (seats : List SeatState) (places : List ℕ) → ArePlaced seats places
    → AreApart seats
placed_apart seats places placed i j s t at there same = sym (placed i s at).1
    ∙ ap (λ n. slice_index places n) same ∙ (placed j t there).1

-- the place of one seat's number more
pub places_more : (seats : List SeatState) (places : List ℕ) (n : ℕ) (mine : SeatState)
    → slice_get seats n ≡ Some mine → mine.number < length places
    → ((i : ℕ) (s : SeatState) → i < n → slice_get seats i ≡ Some s → HasPlace seats places s)
    → (i : ℕ) (s : SeatState) → i < n + 1 → slice_get seats i ≡ Some s
    → HasPlace seats (slice_set places mine.number n) s
places_more seats places n mine at inside was i s less there =
    elim (eqb_tells s.number mine.number) [
      | inl is ↦
          let now : slice_index (slice_set places mine.number n) s.number ≡ n =
          ap (λ k. slice_index (slice_set places mine.number n) k) is.1
          ∙ get_or-set_same places mine.number n 0 inside in
          (mine, (ap (λ k. slice_get seats k) now ∙ at, sym is.1))
      | inr is ↦
          let same : i ≡ n → ⊥ = λ here. is.1
          (ap (λ (t : SeatState). t.number) (one_there seats i n s mine there at here)) in
          let old = was i s (omega (arith, less, same)) there in
          let now = get_or-set_other places mine.number s.number n 0 is.1 in
          (old.0, (ap (λ k. slice_get seats k) now ∙ old.1.0, old.1.1))
    ]

-- a number has no seat if its place is past the seats, or has another number
pub absent_outside : (seats : List SeatState) (places : List ℕ) (number : ℕ)
    → ArePlaced seats places → length seats ≤ slice_index places number
    → IsThere seats number → ⊥
absent_outside seats places number placed outside there =
    let here = sym (placed there.0 there.1.0 there.1.1).1
    ∙ ap (λ n. slice_index places n) there.1.2 in
    omega (arith, outside, here, slice_get_within seats there.0 there.1.0 there.1.1)

pub absent_there : (seats : List SeatState) (places : List ℕ) (number : ℕ) (mine : SeatState)
    → ArePlaced seats places → slice_get seats (slice_index places number) ≡ Some mine
    → mine.number ≢ number → IsThere seats number → ⊥
absent_there seats places number mine placed at other there =
    let here = sym (placed there.0 there.1.0 there.1.1).1
    ∙ ap (λ n. slice_index places n) there.1.2 in
    let one = one_there seats there.0 (slice_index places number) there.1.0 mine there.1.1 at here in
    other (ap (λ (s : SeatState). s.number) (sym one) ∙ there.1.2)

-- two seats have one number if the place of a seat's number is another
pub twice_there : (seats : List SeatState) (places : List ℕ) (i : ℕ) (mine : SeatState)
    → HavePlaces seats places → slice_get seats i ≡ Some mine
    → slice_index places mine.number ≢ i → AreApart seats → ⊥
twice_there seats places i mine have at other apart =
    let place = have i mine at in
    other (apart (slice_index places mine.number) i place.0 mine place.1.0 at place.1.1)
