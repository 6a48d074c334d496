-- Believe. Receiving a message. From Mach 3 Kernel Interfaces, mach_msg (MACH_RCV_MSG,
-- MACH_RCV_LARGE). PROFILE_NO_SPACE, and the order of the refusals, are this profile's own choice.
use Rattle.std.specs.Prelude.{ℕ, ◌+◌, ◌%◌, Bool, true, false, not, ◌&&◌, List, [], ◌∷◌, length}
use Rattle.std.specs.Prelude.{Option, Some, None, Ok, Err, ◌==◌, nat_lt, nat_le, if◌then◌else◌}
use Rattle.mrc_base.specs.declared.PortRight.TheVariants.{Send, SendOnce}
use Rattle.mrc_model.specs.declared.Entry.{Entry}
use Rattle.mrc_model.specs.declared.Entry.TheVariants.{Receive as ReceiveEntry, Send as SendEntry}
use Rattle.mrc_model.specs.declared.Entry.TheVariants.{SendOnce as OnceEntry, PortSet as SetEntry}
use Rattle.mrc_model.specs.declared.Entry.TheVariants.{DeadName as DeadEntry}
use Rattle.mrc_model.specs.declared.Item.{Item}
use Rattle.mrc_model.specs.declared.Item.TheVariants.{Null as NullItem, Dead as DeadItem}
use Rattle.mrc_model.specs.declared.Item.TheVariants.{Right as RightItem}
use Rattle.mrc_model.specs.declared.Code.TheVariants.{MachRcvInvalidName, MachRcvInSet}
use Rattle.mrc_model.specs.declared.Code.TheVariants.{MachRcvTimedOut, ProfileNoSpace}
use Rattle.mrc_model.specs.Rights.{given_number}
use Rattle.mrc_model.specs.Map.{get}
use Rattle.mrc_model.specs.Message.{Message, Arg, Data, Ports, written, written_size}
use Rattle.mrc_model.specs.World.{QueuedArg, QueuedData, QueuedItems, Parcel, Port, Store, World}
use Rattle.mrc_model.specs.World.{space, set_port, modulus_of_receipts}
use Rattle.mrc_model.specs.Reply.{Reply, Bytes, TooLarge, Refused, Try, ◌>>=◌, ◌>>◌, refuse_if}
use Rattle.mrc_model.specs.Reply.{or_refuse}
use Rattle.mrc_model.specs.Space.{give_item, is_over_full}
use Rattle.mrc_model.specs.Target.{with_store}

-- a task is given what an argument carries, in order
abbrev pub give_items : ℕ → Store → List Item → Store × List ℕ
give_items t s [] = (s, [])
give_items t s (x ∷ xs) =
    let a = give_item s t x in
    let b = give_items t a.0 xs in
    (b.0, a.1 ∷ b.1)

-- an argument as the task receives it
abbrev pub give_arg : ℕ → Store → QueuedArg → Store × Arg
give_arg t s (QueuedData name size number bytes) = (s, Data name size number bytes)
give_arg t s (QueuedItems r items) =
    let a = give_items t s items in (a.0, Ports (given_number r) a.1)

-- all arguments, in order
abbrev pub give_args : ℕ → Store → List QueuedArg → Store × List Arg
give_args t s [] = (s, [])
give_args t s (x ∷ xs) =
    let a = give_arg t s x in
    let b = give_args t a.0 xs in
    (b.0, a.1 ∷ b.1)

-- if the message has a reply right, alive or dead, the receiver sees the disposition of a send-once
-- right
abbrev pub reply_disp : Item → ℕ
reply_disp NullItem = 0
reply_disp DeadItem = given_number SendOnce
reply_disp (RightItem p r) = given_number SendOnce

-- the message as received under this name, and the store after the giving: `remote` names the reply
-- right, `local` is the name that was received from
unfoldable pub received : Store → ℕ → ℕ → ℕ → Parcel → Store × Message
received s t name receipts m =
    let a = give_item s t m.reply in
    let b = give_args t a.0 m.args in (
      b.0,
      record {
        remote_disp = reply_disp m.reply;
        local_disp = if m.by_once then given_number SendOnce else given_number Send;
        remote = a.1;
        local = name;
        seqno = receipts;
        id = m.id;
        args = b.1;
      },
    )

-- a name of a receive right, and its port
pub record Source : Type 0 where
  pub name : ℕ
  pub port : ℕ

-- no message waits
abbrev pub is_empty_queue : Option Port → Bool
is_empty_queue None = true
is_empty_queue (Some x) = nat_le (length x.queue) 0

-- the set of an entry is n
abbrev pub is_member : ℕ → Option ℕ → Bool
is_member n None = false
is_member n (Some m) = m == n

-- the port of the entry, where it is a member of the set with a message
abbrev pub ready_member : Store → ℕ → Entry → Option ℕ
ready_member s n (ReceiveEntry p k i) =
    if is_member n i && not (is_empty_queue (get s.ports p)) then Some p else None
ready_member s n (SendEntry p k) = None
ready_member s n (OnceEntry p) = None
ready_member s n SetEntry = None
ready_member s n (DeadEntry k) = None

-- the port under this name, if there is one, else the rest
abbrev pub or_source : ℕ → Option ℕ → Option Source → Option Source
or_source n (Some p) rest = Some record { name = n; port = p }
or_source n None rest = rest

-- the first member of a set, by ascending name, that has a message
abbrev pub first_ready : Store → ℕ → List (ℕ × Entry) → Option Source
first_ready s n [] = None
first_ready s n (e ∷ es) = or_source e.0 (ready_member s n e.1) (first_ready s n es)

-- where a name receives from
abbrev pub source_at : Store → ℕ → ℕ → Option Entry → Try Source
source_at s t n None = Err (Refused MachRcvInvalidName)
source_at s t n (Some (ReceiveEntry p k (Some i))) = Err (Refused MachRcvInSet)
source_at s t n (Some (ReceiveEntry p k None)) = Ok record { name = n; port = p }
source_at s t n (Some (SendEntry p k)) = Err (Refused MachRcvInvalidName)
source_at s t n (Some (OnceEntry p)) = Err (Refused MachRcvInvalidName)
source_at s t n (Some SetEntry) =
    or_refuse (first_ready s n (space s t).list) (Refused MachRcvTimedOut)
source_at s t n (Some (DeadEntry k)) = Err (Refused MachRcvInvalidName)

-- the first message, and the others
abbrev pub first_parcel : List Parcel → Option (Parcel × List Parcel)
first_parcel [] = None
first_parcel (m ∷ ms) = Some (m, ms)

-- The first message leaves its queue, its rights are given, and its bytes are answered. One that is
-- too large, or whose rights have no room, stays.
unfoldable pub call_receive : World → ℕ → ℕ → ℕ → Try (World × Reply)
call_receive w t name limit = do
  from ← source_at w.store t name (get (space w.store t) name)
  x ← or_refuse (get w.store.ports from.port) (Refused MachRcvInvalidName)
  (m, ms) ← or_refuse (first_parcel x.queue) (Refused MachRcvTimedOut)
  let s1 = set_port w.store from.port
      (record x { queue = ms; receipts = (x.receipts + 1) % modulus_of_receipts })
  let got = received s1 t from.name x.receipts m
  refuse_if (nat_lt limit (written_size got.1)) (TooLarge (written_size got.1))
  refuse_if (is_over_full (space got.0 t)) (Refused ProfileNoSpace)
  Ok (with_store w got.0, Bytes (written got.1))
