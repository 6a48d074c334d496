-- Believe. What is printed if no task can go on. What a script prints whose tasks run as threads,
-- where all that have lines left wait for messages in vain. This profile's own choice.
use Rattle.std.specs.Prelude.{◌≡◌, ℕ, ◌<◌, suc, zero, List, [], ◌∷◌, ◌++◌, Some, None, Option}
use Rattle.std.specs.Prelude.{IfSome, length, map, slice_get, if◌then◌else◌, ◌==◌, IsPermutation}
use Rattle.std.specs.Prelude.{true}
use Rattle.std.specs.List.Sorted.{IsNonDecreasing}
use Rattle.mrc_machine.specs.Calls.{call_of}
use Rattle.mrc_model.specs.First.{first}
use Rattle.mrc_model.specs.Map.{len}
use Rattle.mrc_model.specs.Reply.{Refused}
use Rattle.mrc_model.specs.Runs.{Event, Run}
use Rattle.mrc_model.specs.Step.{step}
use Rattle.mrc_model.specs.Wiring.{Wiring}
use Rattle.mrc_model.specs.World.{World}
use Rattle.mrc_model.specs.declared.Code.TheVariants.{MachRcvTimedOut}
use Rattle.mrc_report.specs.Journal.{calls_by}
use Rattle.mrc_report.specs.Plays.{asked_of, Begins}
use Rattle.mrc_report.specs.Printing.{end_line}
use Rattle.mrc_report.specs.Replay.{event_lines}
use Rattle.mrc_report.specs.declared.script.TaskCall.{TaskCall}
use Rattle.mrc_wiring.specs.Table.{Table, wiring_of}
use Rattle.mrc_wiring_text.specs.declared.reading.Line.{Line}

-- the lines of a task, in order
abbrev pub lines_of : ℕ → List (Line TaskCall) → List (Line TaskCall)
lines_of task [] = []
lines_of task (l ∷ ls) = if l.says.task == task then l ∷ lines_of task ls else lines_of task ls

-- the line that a task says after its events, if it has one left
abbrev pub next_line : List (Line TaskCall) → List Event → ℕ → Option (Line TaskCall)
next_line script events task = slice_get (lines_of task script) (length (calls_by task events))

-- the number of a line
abbrev pub number_in : Option (Line TaskCall) → List ℕ
number_in None = []
number_in (Some l) = l.number ∷ []

-- the numbers of the lines that the tasks below n say next, by task
abbrev pub next_numbers : List (Line TaskCall) → List Event → ℕ → List ℕ
next_numbers script events zero = []
next_numbers script events (suc n) =
    next_numbers script events n ++ number_in (next_line script events n)

-- the line waits for a message, and there is none
abbrev pub WaitsInVain : Wiring → World → TaskCall → Type 0
WaitsInVain W w says = (says.waits ≡ true)
    × ((step W w says.task (call_of says.call)).1 ≡ Refused MachRcvTimedOut)

-- The text tells a run from the first state of the wiring, in which each task makes the calls of
-- its first lines of the script, in order, and no others, and no one else makes any. No task can go
-- on: each has said all its lines, or says next a line that waits for a message, and there is none.
-- These are the numbers of the lines that wait, ascending.
pub record IsHalted (table : Table) (script : List (Line TaskCall)) (lines text : List ℕ) : Type 0
  where
    pub events : List Event
    pub world : World
    pub run : Run (wiring_of table) (first (wiring_of table)) events world
    pub calls : (task : ℕ) → task < (wiring_of table).tasks
        → Begins (map call_of (asked_of task script)) (calls_by task events)
    pub tasks : (k : ℕ) (e : Event) → slice_get events k ≡ Some e → e.task < (wiring_of table).tasks
    pub halted : (task : ℕ) → task < (wiring_of table).tasks
        → IfSome (next_line script events task) (λ l. WaitsInVain (wiring_of table) world l.says)
    pub lines_are : IsPermutation (next_numbers script events (wiring_of table).tasks) lines
    pub ascending : IsNonDecreasing lines
    pub printed : text ≡ event_lines table 0 events
        ++ end_line (length events) (len world.store.ports)
