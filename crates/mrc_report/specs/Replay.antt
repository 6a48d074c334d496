-- Believe. What a replay prints. What a replay of a script prints: the events of its calls, one
-- after the other from the wiring's first state on. This profile's own choice.
use Rattle.std.specs.Prelude.{◌≡◌, ℕ, ◌+◌, List, [], ◌∷◌, ◌++◌, length, map}
use Rattle.mrc_model.specs.Map.{len}
use Rattle.mrc_model.specs.World.{World}
use Rattle.mrc_model.specs.Reply.{Call}
use Rattle.mrc_model.specs.First.{first}
use Rattle.mrc_model.specs.Runs.{Event, Run}
use Rattle.mrc_model.specs.Step.{step}
use Rattle.mrc_wiring_text.specs.declared.reading.Line.{Line}
use Rattle.mrc_wiring.specs.Table.{Table, wiring_of}
use Rattle.mrc_machine.specs.Calls.{call_of}
use Rattle.mrc_report.specs.declared.script.TaskCall.{TaskCall}
use Rattle.mrc_report.specs.Printing.{event_line, end_line}

-- the task and the call of a line
abbrev pub asked : Line TaskCall → ℕ × Call
asked line = (line.says.task, call_of line.says.call)

-- the task and the call of an event
abbrev pub made : Event → ℕ × Call
made event = (event.task, event.call)

-- the lines of events, the first of which has this number
abbrev pub event_lines : Table → ℕ → List Event → List ℕ
event_lines table n [] = []
event_lines table n (e ∷ es) = event_line table n e.task e.reply ++ event_lines table (n + 1) es

-- the text tells the run of the script's calls from the first state of the wiring: a line for each
-- event, and then how many there were and how many ports are live
pub record IsReplay (table : Table) (script : List (Line TaskCall)) (text : List ℕ) : Type 0 where
  pub events : List Event
  pub world : World
  pub calls : map made events ≡ map asked script
  pub run : Run (wiring_of table) (first (wiring_of table)) events world
  pub printed : text ≡ event_lines table 0 events
      ++ end_line (length events) (len world.store.ports)

-- what is printed of the calls of these lines from a world on, the first event having this number:
-- a line for each event, and then how many there were and how many ports are live
abbrev pub replay_from : Table → ℕ → World → List (Line TaskCall) → List ℕ
replay_from table n world [] = end_line n (len world.store.ports)
replay_from table n world (l ∷ ls) =
    event_line table n l.says.task
    (step (wiring_of table) world l.says.task (call_of l.says.call)).1
    ++ replay_from table (n + 1)
    (step (wiring_of table) world l.says.task (call_of l.says.call)).0 ls

-- what is printed of a script
abbrev pub replay_text : Table → List (Line TaskCall) → List ℕ
replay_text table script = replay_from table 0 (first (wiring_of table)) script

-- it tells the run of the script's calls
abbrev pub ReplaysAreTold : Type 0
ReplaysAreTold =
    (table : Table) (script : List (Line TaskCall))
    → IsReplay table script (replay_text table script)
