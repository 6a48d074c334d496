-- Believe. What is printed of tasks that run as threads. This profile's own choice.
use Rattle.std.specs.Prelude.{◌≡◌, ℕ, ◌<◌, List, [], ◌∷◌, ◌++◌, Some, length, map, slice_get}
use Rattle.std.specs.Prelude.{if◌then◌else◌, ◌==◌}
use Rattle.mrc_live.specs.Runs.{event_of}
use Rattle.mrc_live.specs.declared.event.Event.{Event as LiveEvent}
use Rattle.mrc_machine.specs.Calls.{call_of}
use Rattle.mrc_model.specs.First.{first}
use Rattle.mrc_model.specs.Map.{len}
use Rattle.mrc_model.specs.Reply.{Call}
use Rattle.mrc_model.specs.Runs.{Event, Run}
use Rattle.mrc_model.specs.World.{World}
use Rattle.mrc_report.specs.Plays.{asked_of}
use Rattle.mrc_report.specs.Printing.{end_line}
use Rattle.mrc_report.specs.Replay.{event_lines}
use Rattle.mrc_report.specs.declared.script.TaskCall.{TaskCall}
use Rattle.mrc_wiring.specs.Table.{Table, wiring_of}
use Rattle.mrc_wiring_text.specs.declared.reading.Line.{Line}

-- a line for each event of a journal, and then how many there were and how many ports are live
abbrev pub journal_text : Table → List LiveEvent → ℕ → List ℕ
journal_text table events ports =
    event_lines table 0 (map event_of events) ++ end_line (length events) ports

-- the calls of a task's events, in order
abbrev pub calls_by : ℕ → List Event → List Call
calls_by task [] = []
calls_by task (e ∷ es) = if e.task == task then e.call ∷ calls_by task es else calls_by task es

-- The text tells a run from the first state of the wiring, in which each task makes the calls of
-- its lines of the script, in order, and no others, and no one else makes any: a line for each
-- event, and then how many there were and how many ports are live. In which order the tasks make
-- them is not said.
pub record IsLive (table : Table) (script : List (Line TaskCall)) (text : List ℕ) : Type 0 where
  pub events : List Event
  pub world : World
  pub run : Run (wiring_of table) (first (wiring_of table)) events world
  pub calls : (task : ℕ) → task < (wiring_of table).tasks
      → calls_by task events ≡ map call_of (asked_of task script)
  pub tasks : (k : ℕ) (e : Event) → slice_get events k ≡ Some e → e.task < (wiring_of table).tasks
  pub printed : text ≡ event_lines table 0 events
      ++ end_line (length events) (len world.store.ports)
