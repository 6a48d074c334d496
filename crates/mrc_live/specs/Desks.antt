-- Believe. Desks and seats, before and after a call. This profile's own choice.
use Rattle.std.specs.Prelude.{◌≡◌, ◌≤◌, ◌+◌, ℕ, List, [], ◌∷◌, ◌++◌, length}
use Rattle.mrc_base.specs.Limits.{limit_of_events, limit_of_parts, limit_of_seats}
use Rattle.mrc_check.specs.Verdict.{Case}
use Rattle.mrc_confine.specs.Guards.{Guard}
use Rattle.mrc_live.specs.declared.desk.NotTaken.{NotTaken}
use Rattle.mrc_live.specs.declared.desk.NotTaken.TheVariants.{JournalFull, Memory}
use Rattle.mrc_live.specs.declared.event.Event.{Event}
use Rattle.mrc_live.specs.declared.event.Made.{Made}
use Rattle.mrc_live.specs.Runs.{IsJournal, world_after}
use Rattle.mrc_machine.specs.declared.call.Call.{Call}
use Rattle.mrc_machine.specs.declared.reply.Reply.{Reply}
use Rattle.mrc_model.specs.World.{World}

-- a seat: its number, its task, its own calls with their replies, and the amount of its share
pub record SeatState : Type 0 where
  pub number : ℕ
  pub task : ℕ
  pub calls : List Made
  pub share : ℕ

-- a desk: the case and its world, the journal and its limit, the number of seats made, the total of
-- the book, and the parts not given out
pub record DeskState : Type 0 where
  pub confined : Case
  pub world : World
  pub events : List Event
  pub limit : ℕ
  pub made : ℕ
  pub total : ℕ
  pub left : ℕ

-- a server without its lock: the desk, and what the server shows
pub record ServerState : Type 0 where
  pub desk : DeskState
  pub shown : Case

-- What is so whenever the lock is free: the journal is a run to the machine's world, of no more
-- events than its limit; the book's total is their number; and each part is with a seat or left.
pub record IsKept (guarded : Guard) (events : List Event) (limit made total left : ℕ)
    : Type 0 where
  pub run : IsJournal guarded.confined events guarded.world
  pub few : length events ≤ limit
  pub limited : limit ≤ limit_of_events
  pub counted : total ≡ length events
  pub seats : made ≤ limit_of_seats
  pub parts : left + made ≡ limit_of_parts

-- of two desks the machine, the journal and its limit are the same
pub record AreAlike (d e : DeskState) : Type 0 where
  pub confined : e.confined ≡ d.confined
  pub world : e.world ≡ d.world
  pub events : e.events ≡ d.events
  pub limit : e.limit ≡ d.limit

-- the event of a seat's call
abbrev pub seat_event : SeatState → Call → Reply → Event
seat_event s call reply =
    record { seat = s.number; task = s.task; call = call; reply = reply }

-- the desk after a call with its reply
abbrev pub desk_after : DeskState → SeatState → Call → Reply → DeskState
desk_after d s call reply = record {
  confined = d.confined;
  world = world_after d.confined d.world s.task call;
  events = d.events ++ seat_event s call reply ∷ [];
  limit = d.limit;
  made = d.made;
  total = d.total + 1;
  left = d.left;
}

-- the seat after it
abbrev pub seat_after : SeatState → Call → Reply → SeatState
seat_after s call reply = record {
  number = s.number;
  task = s.task;
  calls = s.calls ++ record { call = call; reply = reply } ∷ [];
  share = s.share + 1;
}

-- a new seat
abbrev pub fresh : ℕ → ℕ → SeatState
fresh number task = record { number = number; task = task; calls = []; share = 0 }

-- a new desk
abbrev pub opened : Guard → ℕ → DeskState
opened g limit = record {
  confined = g.confined;
  world = g.world;
  events = [];
  limit = limit;
  made = 0;
  total = 0;
  left = limit_of_parts;
}

-- the call that was not taken
abbrev pub call_in : NotTaken → Call
call_in (JournalFull call) = call
call_in (Memory call) = call
