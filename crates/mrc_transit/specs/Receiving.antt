-- Believe. Only `receive_reply`, `IsReceiveRefusal`, `AreHousedAlike`. From Mach 3 Kernel
-- Interfaces, mach_msg (MACH_RCV_MSG, MACH_RCV_LARGE).
use Rattle.std.specs.Prelude.{◌≡◌, ℕ, true, false, List, Some, Ok, Err, IsOk, is_some, nat_lt}
use Rattle.std.specs.Prelude.{if◌then◌else◌}
use Rattle.mrc_base.specs.declared.memory.OrMemory.{OrMemory}
use Rattle.mrc_base.specs.declared.memory.OrMemory.TheVariants.{Fault, Memory}
use Rattle.mrc_model.specs.declared.Code.{Code}
use Rattle.mrc_model.specs.declared.Code.TheVariants.{KernNoSpace, ProfileNoSpace}
use Rattle.mrc_model.specs.declared.Code.TheVariants.{MachRcvInvalidName, MachRcvTimedOut}
use Rattle.mrc_model.specs.Map.{get}
use Rattle.mrc_model.specs.World.{Space, Parcel, Port, Store, space as space_of}
use Rattle.mrc_model.specs.Reply as model
use Rattle.mrc_model.specs.Reply.{Try, Refused, ◌>>=◌, or_refuse}
use Rattle.mrc_model.specs.Space.{is_over_full}
use Rattle.mrc_model.specs.CallReceive.{Source, source_at, first_parcel}
use Rattle.mrc_ports.specs.Parcels.{carried_size}
use Rattle.mrc_transit.specs.declared.receiving.ReceiveFault.{ReceiveFault}
use Rattle.mrc_transit.specs.declared.receiving.ReceiveFault.TheVariants as faults

-- a name of a receive right, and its port
abbrev pub found_source : ℕ × ℕ → Source
found_source found = record { name = found.0; port = found.1 }

-- the first message of a live port, and those behind it
pub record IsFirst (s : Store) (p : ℕ) (x : Port) (m : Parcel) (ms : List Parcel) : Type 0 where
  pub live : get s.ports p ≡ Some x
  pub first : first_parcel x.queue ≡ Some (m, ms)

-- a message waits at the port
abbrev pub HasFirst : Store → ℕ → Type 0
HasFirst s p = (x : Port) × (m : Parcel) × (ms : List Parcel) × IsFirst s p x m ms

-- How many bytes a receive by this name would answer: 0 if the message is larger than the limit. It
-- is refused if there is no message to receive. Whether there is room for the rights is not asked.
unfoldable pub next_size : Store → ℕ → ℕ → ℕ → Try ℕ
next_size s t name limit = do
  from ← source_at s t name (get (space_of s t) name)
  x ← or_refuse (get s.ports from.port) (Refused MachRcvInvalidName)
  (m, ms) ← or_refuse (first_parcel x.queue) (Refused MachRcvTimedOut)
  Ok (if nat_lt limit (carried_size m.args) then 0 else carried_size m.args)

-- a task with a space receives from this name and port, by a name of its own: a message of this
-- size waits there
pub record IsNext (s : Store) (t n : ℕ) (found : ℕ × ℕ) (size : ℕ) : Type 0 where
  pub space : Space
  pub there : get s.spaces t ≡ Some space
  pub from : source_at s t n (get (space_of s t) n) ≡ Ok (found_source found)
  pub port : Port
  pub parcel : Parcel
  pub others : List Parcel
  pub waits : IsFirst s found.1 port parcel others
  pub sized : size ≡ carried_size parcel.args

-- and the message is within the limit
pub record IsReceivable (s : Store) (t n limit : ℕ) (found : ℕ × ℕ) : Type 0 where
  pub size : ℕ
  pub next : IsNext s t n found size
  pub fits : nat_lt limit (carried_size next.parcel.args) ≡ false

-- no task gains or loses a space, and no port is born
pub record AreHousedAlike (s z : Store) : Type 0 where
  pub spaces : (t : ℕ) → is_some (get z.spaces t) ≡ is_some (get s.spaces t)
  pub next : z.next ≡ s.next

-- the reply that tells it
abbrev pub receive_reply : ReceiveFault → model.Reply
receive_reply (faults.Refused code) = model.Refused code
receive_reply (faults.TooLarge size) = model.TooLarge size

-- the step is refused so; memory runs out only where it is not refused
abbrev pub IsReceiveRefusal : {A : Type 0} → OrMemory ReceiveFault → Try A → Type 0
IsReceiveRefusal (Fault fault) m = m ≡ Err (receive_reply fault)
IsReceiveRefusal Memory m = IsOk m

-- after all is given the space has more entries than it may have, and this is the code for it; if
-- memory ran out nothing is said, since what is not yet given may be too much
abbrev pub IsOverFilled : OrMemory Code → Space → Type 0
IsOverFilled (Fault code) x = (code ≡ KernNoSpace) × (is_over_full x ≡ true)
IsOverFilled Memory x = Unit {0}

-- why a message is not received whose rights the space has no room for
abbrev pub no_space : OrMemory Code → OrMemory ReceiveFault
no_space (Fault code) = Fault (faults.Refused ProfileNoSpace)
no_space Memory = Memory
