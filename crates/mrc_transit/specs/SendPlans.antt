-- Believe. What the plan of a message does, when it can be carried out, and which call it is of.
-- From Mach 3 Kernel Interfaces, mach_msg (MACH_SEND_MSG). That a plan is made first is this
-- profile's own choice.
use Rattle.std.specs.Prelude.{◌≡◌, ℕ, Bool, false, List, Option}
use Rattle.std.specs.Prelude.{Some, None, Ok, Err, IsOk, IsSome, option_and_then}
use Rattle.mrc_base.specs.declared.Disp.{Disp}
use Rattle.mrc_base.specs.declared.Disp.TheVariants.{MoveReceive, MoveSend, MoveSendOnce, CopySend}
use Rattle.mrc_base.specs.declared.Disp.TheVariants.{MakeSend, MakeSendOnce}
use Rattle.mrc_base.specs.Disposition.{disp_of_number}
use Rattle.mrc_base.specs.declared.memory.OrMemory.{OrMemory}
use Rattle.mrc_base.specs.declared.memory.OrMemory.TheVariants.{Fault, Memory}
use Rattle.mrc_model.specs.declared.Entry.{Entry}
use Rattle.mrc_model.specs.declared.Item.{Item}
use Rattle.mrc_model.specs.Map.{Map, get}
use Rattle.mrc_model.specs.Message.{Message}
use Rattle.mrc_model.specs.Wiring.{Wiring}
use Rattle.mrc_model.specs.World.{Parcel, Port, Store, World, space, task_class}
use Rattle.mrc_model.specs.Reply.{Done, Try}
use Rattle.mrc_model.specs.Death.{append}
use Rattle.mrc_model.specs.Target.{with_store}
use Rattle.mrc_model.specs.CallSend.{call_send}
use Rattle.mrc_names.specs.Leaving.{patched, AreRests}
use Rattle.mrc_ports.specs.Queues.{is_full_for, is_out_of_room}
use Rattle.mrc_transit.specs.declared.sending.SendFault.{SendFault}
use Rattle.mrc_transit.specs.Staging.{Taking, Scratch, staged}
use Rattle.mrc_transit.specs.Queueing.{queued_from}
use Rattle.mrc_transit.specs.Sending.{fault_reply}

-- who sends, what is left of names, the ports whose receive rights were taken, where the message
-- goes, and the message
pub record SendPlan : Type 0 where
  pub sender : ℕ
  pub changes : Map (Option Entry)
  pub moved : List ℕ
  pub destination : ℕ
  pub parcel : Parcel

-- the same, of which the scratch has what is left of names and the ports
pub record Start : Type 0 where
  pub sender : ℕ
  pub destination : ℕ
  pub parcel : Parcel

-- both together
abbrev pub with_scratch : Start → Scratch → SendPlan
with_scratch start scratch = record {
  sender = start.sender;
  changes = scratch.rests;
  moved = scratch.moved;
  destination = start.destination;
  parcel = start.parcel;
}

-- the message of a task to this destination, sent through such a right, which carries this for its
-- reply port, and for the names of its arguments what the scratch has
abbrev pub judged_as : ℕ → Message → ℕ → Bool → Item → Scratch → SendPlan
judged_as t m destination by_once reply scratch = with_scratch record {
  sender = t;
  destination = destination;
  parcel = record {
    by_once = by_once;
    id = m.id;
    reply = reply;
    args = queued_from m.args scratch.items;
  };
} scratch

-- what was taken, from the sender's space in the store
abbrev pub taking_of : Store → SendPlan → Taking
taking_of s plan = record {
  space = patched (space s plan.sender) plan.changes;
  moved = plan.moved;
}

-- the store after the plan was carried out: the message stands at the end of its queue
unfoldable pub sent : Store → SendPlan → Store
sent s plan = append (staged s plan.sender (taking_of s plan)) plan.destination plan.parcel

-- the plan can be carried out on the store: the sender has a space, with the entries of which there
-- is something left, and the destination is a live port that is not full for the message, and has
-- room for it
pub record IsReady (s : Store) (plan : SendPlan) : Type 0 where
  pub has_space : IsSome (get s.spaces plan.sender)
  pub rests : AreRests (space s plan.sender) plan.changes
  pub port : Port
  pub live : get s.ports plan.destination ≡ Some port
  pub not_full : is_full_for port plan.parcel.by_once ≡ false
  pub room : is_out_of_room port ≡ false

-- in each world with this store in which t is of class `own`, sending the message is done, and
-- leaves what the plan leaves
abbrev pub IsPlanOf : Wiring → Store → ℕ → ℕ → Message → SendPlan → Type 0
IsPlanOf W s own t m plan = (w : World) → task_class w t ≡ own
    → call_send W (with_store w s) t m ≡ Ok (with_store w (sent s plan), Done)

-- the sending is refused so; memory runs out only where it is not refused
abbrev pub IsSendAnswer : {A : Type 0} → OrMemory SendFault → Try A → Type 0
IsSendAnswer (Fault fault) m = m ≡ Err (fault_reply fault)
IsSendAnswer Memory m = IsOk m

-- so it is in each world with this store in which t is of class `own`
abbrev pub IsRefused : SendFault → Wiring → Store → ℕ → ℕ → Message → Type 0
IsRefused fault W s own t m = (w : World) → task_class w t ≡ own
    → call_send W (with_store w s) t m ≡ Err (fault_reply fault)

-- the same, if memory may run out
abbrev pub IsNotSent : OrMemory SendFault → Wiring → Store → ℕ → ℕ → Message → Type 0
IsNotSent fault W s own t m = (w : World) → task_class w t ≡ own
    → IsSendAnswer fault (call_send W (with_store w s) t m)

-- a disposition but that which moves a receive right
abbrev pub but_receive : Disp → Option Disp
but_receive MoveReceive = None
but_receive MoveSend = Some MoveSend
but_receive MoveSendOnce = Some MoveSendOnce
but_receive CopySend = Some CopySend
but_receive MakeSend = Some MakeSend
but_receive MakeSendOnce = Some MakeSendOnce

-- how a destination's right is taken, by the number in the header
abbrev pub destination_disp : ℕ → Option Disp
destination_disp number = option_and_then but_receive (disp_of_number number)
