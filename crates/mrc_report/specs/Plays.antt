-- Believe. Only what `run_live` cites: what came of the seats, and which refusal comes first. This
-- profile's own choice.
use Rattle.std.specs.Prelude.{◌≡◌, ◌⊎◌, ℕ, List, [], ◌∷◌, ◌++◌, Option, None, Some, map}
use Rattle.std.specs.Prelude.{if◌then◌else◌, ◌==◌, slice_get}
use Rattle.mrc_live.specs.Desks.{SeatState}
use Rattle.mrc_machine.specs.declared.call.Call.{Call}
use Rattle.mrc_report.specs.declared.playing.Halt.{Halt}
use Rattle.mrc_report.specs.declared.playing.Halt.TheVariants.{Stopped as Halted}
use Rattle.mrc_report.specs.declared.playing.Halt.TheVariants.{JournalFull, Memory}
use Rattle.mrc_report.specs.declared.playing.LiveFault.{LiveFault}
use Rattle.mrc_report.specs.declared.playing.LiveFault.TheVariants as faults
use Rattle.mrc_report.specs.declared.script.TaskCall.{TaskCall}
use Rattle.mrc_wiring_text.specs.declared.reading.Line.{Line}

-- the calls of a task's lines, in order
abbrev pub asked_of : ℕ → List (Line TaskCall) → List Call
asked_of task [] = []
asked_of task (l ∷ ls) =
    if l.says.task == task then l.says.call ∷ asked_of task ls else asked_of task ls

-- the calls in a seat's list
abbrev pub calls_of : SeatState → List Call
calls_of s = map (λ m. m.call) s.calls

-- the list begins with these
abbrev pub Begins : {X : Type 0} → List X → List X → Type 0
Begins {X} whole front = (rest : List X) × (front ++ rest ≡ whole)

-- it is the same seat of the same task
abbrev pub IsSameSeat : SeatState → SeatState → Type 0
IsSameSeat before after = (after.number ≡ before.number) × (after.task ≡ before.task)

-- behind the calls that the seat had it has made the first of these
abbrev pub HasMadeFirst : List Call → SeatState → SeatState → Type 0
HasMadeFirst whole before after =
    (front : List Call) × ((calls_of after ≡ calls_of before ++ front) × Begins whole front)

-- What came of a seat in a run of these lines: behind the calls that it had it has made those of
-- its task's lines, in order, and no others, or, if it was halted, those of the first of the lines.
pub record IsPlayed (lines : List (Line TaskCall)) (before after : SeatState)
    (halt : Option Halt) : Type 0 where
  pub seat : IsSameSeat before after
  pub whole : halt ≡ None → calls_of after ≡ calls_of before ++ asked_of before.task lines
  pub begun : HasMadeFirst (asked_of before.task lines) before after

-- of two halts in the order of their seats: the first that is not a stop, or else a stop, if there
-- is one
abbrev pub earlier : Option Halt → Option Halt → Option Halt
earlier None next = next
earlier (Some Halted) None = Some Halted
earlier (Some Halted) (Some next) = Some next
earlier (Some JournalFull) next = Some JournalFull
earlier (Some Memory) next = Some Memory

-- the same of all
abbrev pub first_halt : List (Option Halt) → Option Halt
first_halt [] = None
first_halt (halt ∷ halts) = earlier halt (first_halt halts)

-- a seat before a run and after it, with its halt if it was halted
pub record Ending : Type 0 where
  pub before : SeatState
  pub after : SeatState
  pub halt : Option Halt

-- What came of seats in a run of these lines: each comes back in its place. This is the first of
-- their halts.
pub record AreEnded (lines : List (Line TaskCall)) (before after : List SeatState)
    (first : Option Halt) : Type 0 where
  pub ends : List Ending
  pub before_are : before ≡ map (λ e. e.before) ends
  pub after_are : after ≡ map (λ e. e.after) ends
  pub played : (k : ℕ) (e : Ending) → slice_get ends k ≡ Some e
      → IsPlayed lines e.before e.after e.halt
  pub first_is : first ≡ first_halt (map (λ e. e.halt) ends)

-- what a run reports of the halt that came first: if it is a stop, all wait
abbrev pub fault_of : Halt → LiveFault
fault_of Halted = faults.AllWait
fault_of JournalFull = faults.JournalFull
fault_of Memory = faults.Memory

-- A run of these seats was refused by this fault: it is that of the first halt, or memory ran out
-- before any call. In either case all seats come back.
abbrev pub IsRefused
    : List (Line TaskCall) → List SeatState → LiveFault → List SeatState → Type 0
IsRefused lines before fault after =
    ((fault ≡ faults.Memory) × (after ≡ before))
    ⊎ ((halt : Halt) × ((fault ≡ fault_of halt) × AreEnded lines before after (Some halt)))

-- the seats are of the tasks in order, and have made no calls
abbrev pub AreFresh : List SeatState → Type 0
AreFresh seats =
    (t : ℕ) (s : SeatState) → slice_get seats t ≡ Some s → (s.task ≡ t) × (s.calls ≡ [])

-- the seats are of the tasks in order, and each has made the calls of its task's lines, in order,
-- and no others
abbrev pub SaysAll : List (Line TaskCall) → List SeatState → Type 0
SaysAll lines seats =
    (t : ℕ) (s : SeatState) → slice_get seats t ≡ Some s
    → (s.task ≡ t) × (calls_of s ≡ asked_of t lines)

-- the same of its task's first lines
abbrev pub SaysFirst : List (Line TaskCall) → List SeatState → Type 0
SaysFirst lines seats =
    (t : ℕ) (s : SeatState) → slice_get seats t ≡ Some s
    → (s.task ≡ t) × Begins (asked_of t lines) (calls_of s)
