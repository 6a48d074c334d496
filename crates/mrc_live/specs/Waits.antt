-- Believe. What is known of the seats that wait: each of them would find no message. This profile's
-- own choice.
use Rattle.std.specs.Prelude.{◌≡◌, ◌≢◌, ◌<◌, ◌≤◌, ℕ, List, length, slice_index_or}
use Rattle.mrc_base.specs.Limits.{limit_of_seats}
use Rattle.mrc_live.specs.declared.office.Idle.{Idle}
use Rattle.mrc_live.specs.declared.office.Idle.TheVariants.{No, Waits, Left}
use Rattle.mrc_live.specs.Desks.{DeskState}
use Rattle.mrc_live.specs.Runs.{reply_to}
use Rattle.mrc_machine.specs.declared.call.Call.TheVariants.{Receive}
use Rattle.mrc_model.specs.declared.Code.TheVariants.{MachRcvTimedOut}
use Rattle.mrc_model.specs.Reply.{Refused}

-- the journal has room for an event, and a receive of this task would find no message
abbrev pub FindsNone : DeskState → ℕ → ℕ → ℕ → Type 0
FindsNone d task name limit =
    (length d.events ≢ d.limit)
    × (reply_to d.confined d.world task (Receive name limit) ≡ Refused MachRcvTimedOut)

-- a seat that waits would find no message
abbrev pub IsInVain : DeskState → Idle → Type 0
IsInVain d No = Unit {0}
IsInVain d (Waits task name limit) = FindsNone d task name limit
IsInVain d Left = Unit {0}

-- a seat that waits has a number below this one
abbrev pub IsBelow : ℕ → ℕ → Idle → Type 0
IsBelow bound number No = Unit {0}
IsBelow bound number (Waits task name limit) = number < bound
IsBelow bound number Left = Unit {0}

-- a seat waits or has left
abbrev pub IsIdle : Idle → Type 0
IsIdle No = ⊥
IsIdle (Waits task name limit) = Unit {0}
IsIdle Left = Unit {0}

-- what is noted of the seat of a number
abbrev pub noted : List Idle → ℕ → Idle
noted idle number = slice_index_or idle number No

-- each seat that waits would find no message
abbrev pub AreInVain : DeskState → List Idle → Type 0
AreInVain d idle = (number : ℕ) → IsInVain d (noted idle number)

-- each seat that waits has a number below this one
abbrev pub AreBelow : ℕ → List Idle → Type 0
AreBelow bound idle = (number : ℕ) → IsBelow bound number (noted idle number)

-- what the lock keeps: the desk, what is noted of the seats by their numbers, and a number below
-- which each seat is that waits
pub record OfficeState : Type 0 where
  pub desk : DeskState
  pub idle : List Idle
  pub bound : ℕ

-- what is so whenever the lock is free
pub record AreNoted (d : DeskState) (idle : List Idle) (bound : ℕ) : Type 0 where
  pub few : bound ≤ limit_of_seats
  pub below : AreBelow bound idle
  pub vain : AreInVain d idle
