-- Believe. When a text leaks: its calls lead from the first state of a wiring to a world in which a
-- line is broken. This profile's own choice.
use Rattle.std.specs.Prelude.{◌≡◌, ℕ, false, List, [], ◌∷◌, map}
use Rattle.mrc_model.specs.Breach.{Breach, Forbid}
use Rattle.mrc_model.specs.First.{first}
use Rattle.mrc_model.specs.Runs.{Event, Run}
use Rattle.mrc_model.specs.World.{World}
use Rattle.mrc_wiring.specs.Table.{Table, wiring_of}
use Rattle.mrc_wiring_text.specs.declared.reading.Line.{Line}
use Rattle.mrc_report.specs.declared.script.TaskCall.{TaskCall}
use Rattle.mrc_report.specs.Replay.{asked, made}
use Rattle.mrc_report.specs.Scripts.{IsScript}

-- The calls of the lines, one after the other from the first state of the wiring, lead to the
-- world. A call that is refused or denied is one that leaves the world unchanged.
pub record IsEnd (table : Table) (says : List (Line TaskCall)) (world : World) : Type 0 where
  pub events : List Event
  pub calls : map made events ≡ map asked says
  pub run : Run (wiring_of table) (first (wiring_of table)) events world

-- they lead to a world in which the line is broken: a task of the line's class counts as one that
-- holds the right on a port of the line's class
pub record IsBreaking (table : Table) (line : Forbid) (says : List (Line TaskCall)) : Type 0 where
  pub world : World
  pub end : IsEnd table says world
  pub breach : Breach (wiring_of table) world (line ∷ [])

-- The text is a script, not one of tasks as threads, whose calls break the line.
pub record IsLeak (table : Table) (line : Forbid) (text : List ℕ) : Type 0 where
  pub says : List (Line TaskCall)
  pub is_script : IsScript false table.names text says
  pub breaking : IsBreaking table line says
