-- Believe. The journal as a run, and each seat's part of it. This profile's own choice.
use Rattle.std.specs.Prelude.{ℕ, List, [], ◌∷◌, map, if◌then◌else◌, ◌==◌}
use Rattle.mrc_check.specs.Verdict.{Case}
use Rattle.mrc_confine.specs.Guards.{wiring_in}
use Rattle.mrc_live.specs.declared.event.Event.{Event}
use Rattle.mrc_live.specs.declared.event.Made.{Made}
use Rattle.mrc_machine.specs.Calls.{call_of, reply_of}
use Rattle.mrc_machine.specs.declared.call.Call.{Call}
use Rattle.mrc_model.specs.First.{first}
use Rattle.mrc_model.specs.Reply as model
use Rattle.mrc_model.specs.Runs as runs
use Rattle.mrc_model.specs.Step.{step}
use Rattle.mrc_model.specs.World.{World}

-- an event, in the machine's words
abbrev pub event_of : Event → runs.Event
event_of e = record { task = e.task; call = call_of e.call; reply = reply_of e.reply }

-- the events lead from the first state of the case's wiring to the world
abbrev pub IsJournal : Case → List Event → World → Type 0
IsJournal case events w =
    let W = wiring_in case in runs.Run W (first W) (map event_of events) w

-- the world after a call of a task
unfoldable pub world_after : Case → World → ℕ → Call → World
world_after case w task call = (step (wiring_in case) w task (call_of call)).0

-- what the task is told
unfoldable pub reply_to : Case → World → ℕ → Call → model.Reply
reply_to case w task call = (step (wiring_in case) w task (call_of call)).1

-- the calls and replies of one seat's events, in order
abbrev pub part_of : ℕ → List Event → List Made
part_of number [] = []
part_of number (e ∷ es) =
    if e.seat == number
    then record { call = e.call; reply = e.reply } ∷ part_of number es
    else part_of number es
