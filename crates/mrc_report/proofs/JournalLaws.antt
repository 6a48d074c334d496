-- From a journal and the seats that have played a script to what is printed of it.
use Rattle.std.proofs.Common.{◌≡◌, ◌<◌, ◌≤◌, ◌+◌, ℕ, zero, suc, Bool, true, false, List, []}
use Rattle.std.proofs.Common.{◌∷◌, ◌++◌}
use Rattle.std.proofs.Common.{length, map, get_or, slice_get, Some, refl, sym, ap, ◌∙◌}
use Rattle.std.proofs.Common.{subst, arith, ◌==◌, cond, inl, inr, drop, drop-cons, add-one}
use Rattle.std.proofs.Common.{append_assoc}
use Rattle.std.proofs.lemmas.Bool.Decides.{eqb_tells}
use Rattle.std.proofs.lemmas.List.{append-nil, drop_all, length-map, map-append}
use Rattle.std.proofs.lemmas.Option.{slice_get_within, slice_get-get_or}
use Rattle.std.specs.List.Sorted.{IsNonDecreasing}
use Rattle.std.specs.Prelude.{IfSome, IsPermutation}
use Rattle.mrc_check.specs.Verdict.{Case}
use Rattle.mrc_confine.specs.Guards.{wiring_in}
use Rattle.mrc_live.proofs.Following.{one_there}
use Rattle.mrc_live.specs.Desks.{SeatState}
use Rattle.mrc_live.specs.Parts.{AllAreSeated, AreApart, EachIsItsPart}
use Rattle.mrc_live.specs.Runs.{IsJournal, event_of, part_of}
use Rattle.mrc_live.specs.declared.event.Event.{Event as LiveEvent}
use Rattle.mrc_machine.specs.Calls.{call_of, reply_of}
use Rattle.mrc_machine.specs.declared.call.Call.{Call as LiveCall}
use Rattle.mrc_model.specs.Map.{len}
use Rattle.mrc_model.specs.Runs.{Event}
use Rattle.mrc_model.specs.World.{World}
use Rattle.mrc_report.specs.Halts.{IsHalted, WaitsInVain, next_line, next_numbers}
use Rattle.mrc_report.specs.Journal.{IsLive, calls_by, journal_text}
use Rattle.mrc_report.specs.Plays.{Begins, SaysAll, SaysFirst, asked_of, calls_of}
use Rattle.mrc_report.specs.Printing.{event_line, end_line}
use Rattle.mrc_report.specs.Replay.{event_lines}
use Rattle.mrc_report.specs.declared.script.TaskCall.{TaskCall}
use Rattle.mrc_wiring.specs.Table.{Table}
use Rattle.mrc_wiring_text.specs.declared.reading.Line.{Line}

-- what is printed from a place in the events on, where an event is
pub journal_next : (table : Table) (all : List LiveEvent) (n : ℕ) (e : LiveEvent) (end : List ℕ)
    → n < length all
    → e ≡ get_or all n e
    → event_lines table n (map event_of (drop n all)) ++ end
    ≡ event_line table n e.task (reply_of e.reply)
    ++ (event_lines table (n + 1) (map event_of (drop (n + 1) all)) ++ end)
journal_next table all n e end within is =
    let parts : drop n all ≡ e ∷ drop (n + 1) all =
    drop-cons all n e within
    ∙ (λ i. sym is i ∷ drop (sym (add-one n) i) all) in
    ap (λ es. event_lines table n (map event_of es) ++ end) parts
    ∙ append_assoc (event_line table n e.task (reply_of e.reply))
    (event_lines table (n + 1) (map event_of (drop (n + 1) all))) end

-- and behind all events
pub journal_end : (table : Table) (all : List LiveEvent) (n : ℕ) (end : List ℕ)
    → length all ≤ n
    → event_lines table n (map event_of (drop n all)) ++ end ≡ end ++ []
journal_end table all n end past =
    ap (λ es. event_lines table n (map event_of es) ++ end) (drop_all n all past)
    ∙ sym (append-nil end)

-- the events of a task are those of a seat
abbrev pub IsOne : ℕ → ℕ → List LiveEvent → Type 0
IsOne task number es =
    (k : ℕ) (e : LiveEvent) → slice_get es k ≡ Some e
    → (e.seat ≡ number → e.task ≡ task) × (e.task ≡ task → e.seat ≡ number)

both_same : (a b c d : ℕ) → (a ≡ b → c ≡ d) → (c ≡ d → a ≡ b) → (c == d) ≡ (a == b)
both_same a b c d there back =
    elim (eqb_tells a b) [
      | inl yes_ ↦ elim (eqb_tells c d) [
        | inl same ↦ same.0 ∙ sym yes_.0
        | inr other ↦ absurd (other.1 (there yes_.1))
      ]
      | inr no_ ↦ elim (eqb_tells c d) [
        | inl same ↦ absurd (no_.1 (back same.1))
        | inr other ↦ other.0 ∙ sym no_.0
      ]
    ]

by_cond : (b : Bool) (e : LiveEvent) (es : List LiveEvent) (number : ℕ)
    → cond b (call_of e.call ∷ map call_of (map (λ m. m.call) (part_of number es)))
    (map call_of (map (λ m. m.call) (part_of number es)))
    ≡ map call_of (map (λ m. m.call) (cond b
    (record { call = e.call; reply = e.reply } ∷ part_of number es) (part_of number es)))
by_cond true e es number = refl
by_cond false e es number = refl

by_seat : (task number : ℕ) (es : List LiveEvent) → IsOne task number es
    → calls_by task (map event_of es) ≡ map call_of (map (λ m. m.call) (part_of number es))
by_seat task number [] one = refl
by_seat task number (e ∷ es) one =
    let same : (e.task == task) ≡ (e.seat == number) =
    both_same e.seat number e.task task (one 0 e refl).0 (one 0 e refl).1 in
    let later = by_seat task number es (λ k f at. one (suc k) f at) in
    (λ i. cond (same i) (call_of e.call ∷ later i) (later i))
    ∙ by_cond (e.seat == number) e es number

-- the seats are of the tasks in order
abbrev pub AreOfTasks : List SeatState → Type 0
AreOfTasks seats = (t : ℕ) (s : SeatState) → slice_get seats t ≡ Some s → s.task ≡ t

-- each task's events are those of its seat
pub are_one : (seats : List SeatState) (es : List LiveEvent) (t : ℕ) (s : SeatState)
    → AreOfTasks seats → AllAreSeated seats es → AreApart seats → slice_get seats t ≡ Some s
    → IsOne t s.number es
are_one seats es t s tasks seated apart at k e here =
    let own = seated k e here in
    let i = own.0 in
    let mine = own.1.0 in
    let there = own.1.1 in
    let number : mine.number ≡ e.seat = own.1.2 in
    let task : mine.task ≡ e.task = own.1.3 in
    let place : mine.task ≡ i = tasks i mine there in (
      λ same. sym task ∙ place ∙ apart i t mine s there at (number ∙ same),
      λ same. sym number ∙ ap (λ (x : SeatState). x.number)
          (one_there seats i t mine s there at (sym place ∙ task ∙ same)),
    )

-- each task has made the calls of its seat
pub calls_are : (seats : List SeatState) (es : List LiveEvent) (t : ℕ) (s : SeatState)
    → AreOfTasks seats → EachIsItsPart seats es → AllAreSeated seats es → AreApart seats
    → slice_get seats t ≡ Some s
    → calls_by t (map event_of es) ≡ map call_of (calls_of s)
calls_are seats es t s tasks parts seated apart at =
    by_seat t s.number es (are_one seats es t s tasks seated apart at)
    ∙ ap (λ made. map call_of (map (λ m. m.call) made)) (parts t s at)

-- an element of a list by a function comes from one of the list
pub map_there : {X Y : Type 0} (f : X → Y) (xs : List X) (k : ℕ) (y : Y)
    → slice_get (map f xs) k ≡ Some y
    → (x : X) × ((slice_get xs k ≡ Some x) × (f x ≡ y))
map_there f [] k y at = cc
map_there f (x ∷ xs) zero y at =
    (x, (refl, one_there (f x ∷ map f xs) 0 0 (f x) y refl at refl))
map_there f (x ∷ xs) (suc k) y at = map_there f xs k y at

-- a seat, where there is none
no_seat : SeatState
no_seat = record { number = 0; task = 0; calls = []; share = 0 }

-- the task of each event is one of those that have seats
pub tasks_are : (seats : List SeatState) (events : List LiveEvent) (n : ℕ)
    → AreOfTasks seats → AllAreSeated seats events → length seats ≡ n
    → (k : ℕ) (e : Event) → slice_get (map event_of events) k ≡ Some e → e.task < n
tasks_are seats events n tasks seated many k e at =
    let one = map_there event_of events k e at in
    let own = seated k one.0 one.1.0 in
    let place : own.1.0.task ≡ own.0 = tasks own.0 own.1.0 own.1.1 in
    let same : own.1.0.task ≡ one.0.task = own.1.3 in
    let is : one.0.task ≡ e.task = ap (λ (x : Event). x.task) one.1.1 in
    let within = slice_get_within seats own.0 own.1.0 own.1.1 in
    omega (arith, place, same, is, within, many)

-- the events are printed as the journal is
pub printed_are : (table : Table) (events : List LiveEvent) (ports : ℕ) (text : List ℕ)
    → text ≡ journal_text table events ports
    → text ≡ event_lines table 0 (map event_of events)
    ++ end_line (length (map event_of events)) ports
printed_are table events ports text shown =
    shown ∙ ap (λ n. event_lines table 0 (map event_of events) ++ end_line n ports)
    (sym (length-map events event_of))

-- what is told of a server that was finished, whose tasks have said all their lines
pub is_live : (case : Case) (lines : List (Line TaskCall)) (seats : List SeatState)
    (events : List LiveEvent) (world : World) (text : List ℕ)
    → IsJournal case events world
    → EachIsItsPart seats events → AllAreSeated seats events → AreApart seats
    → SaysAll lines seats → length seats ≡ (wiring_in case).tasks
    → text ≡ journal_text case.claim.table events (len world.store.ports)
    → IsLive case.claim.table lines text
is_live case lines seats events world text run parts seated apart says many shown =
    let tasks : AreOfTasks seats = λ t s at. (says t s at).0 in record {
      events = map event_of events;
      world = world;
      run = run;
      calls = λ t below.
          let s = get_or seats t no_seat in
          let at = slice_get-get_or seats t no_seat (omega (arith, below, many)) in
          calls_are seats events t s tasks parts seated apart at
          ∙ ap (map call_of) (says t s at).1;
      tasks = tasks_are seats events (wiring_in case).tasks tasks seated many;
      printed = printed_are case.claim.table events (len world.store.ports) text shown;
    }

-- the calls of a beginning are a beginning of the calls
begins_map : (whole front : List LiveCall) → Begins whole front
    → Begins (map call_of whole) (map call_of front)
begins_map whole front begins = (
  map call_of begins.0,
  sym (map-append call_of front begins.0) ∙ ap (map call_of) begins.1,
)

-- each task has said all its lines, or says next a line that waits in vain
abbrev pub AreInVain : Case → World → List (Line TaskCall) → List LiveEvent → Type 0
AreInVain case world lines events =
    (task : ℕ) → task < (wiring_in case).tasks
    → IfSome (next_line lines (map event_of events) task)
    (λ l. WaitsInVain (wiring_in case) world l.says)

-- what is told of a server that was finished, of which no task can go on
pub is_halted : (case : Case) (lines : List (Line TaskCall)) (seats : List SeatState)
    (events : List LiveEvent) (world : World) (told text : List ℕ)
    → IsJournal case events world
    → EachIsItsPart seats events → AllAreSeated seats events → AreApart seats
    → SaysFirst lines seats → length seats ≡ (wiring_in case).tasks
    → text ≡ journal_text case.claim.table events (len world.store.ports)
    → AreInVain case world lines events
    → IsPermutation (next_numbers lines (map event_of events) (wiring_in case).tasks) told
    → IsNonDecreasing told → IsHalted case.claim.table lines told text
is_halted case lines seats events world told text run parts seated apart says many shown vain
    numbers ascending =
    let tasks : AreOfTasks seats = λ t s at. (says t s at).0 in record {
      events = map event_of events;
      world = world;
      run = run;
      calls = λ t below.
          let s = get_or seats t no_seat in
          let at = slice_get-get_or seats t no_seat (omega (arith, below, many)) in
          subst (Begins (map call_of (asked_of t lines)))
          (sym (calls_are seats events t s tasks parts seated apart at))
          (begins_map (asked_of t lines) (calls_of s) (says t s at).1);
      tasks = tasks_are seats events (wiring_in case).tasks tasks seated many;
      halted = vain;
      lines_are = numbers;
      ascending = ascending;
      printed = printed_are case.claim.table events (len world.store.ports) text shown;
    }
