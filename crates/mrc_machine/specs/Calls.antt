-- Believe. Calls and replies of code, read as the definitions'. This profile's own choice.
use Rattle.std.specs.Prelude.{◌≡◌, ℕ, IsTrue, Result, Ok, Err, IsOk}
use Rattle.mrc_base.specs.declared.memory.OrMemory.{OrMemory}
use Rattle.mrc_base.specs.declared.memory.OrMemory.TheVariants.{Fault, Memory}
use Rattle.mrc_model.specs.declared.Code.{Code}
use Rattle.mrc_model.specs.Map.{get}
use Rattle.mrc_model.specs.Wiring.{Wiring}
use Rattle.mrc_model.specs.World.{World}
use Rattle.mrc_model.specs.Target.{is_alive}
use Rattle.mrc_model.specs.Step.{try_call}
use Rattle.mrc_machine.specs.declared.call.Call.{Call}
use Rattle.mrc_machine.specs.declared.call.Call.TheVariants.{Allocate, GetRefs, InsertRight}
use Rattle.mrc_machine.specs.declared.call.Call.TheVariants.{ExtractRight, SetQlimit, PortType}
use Rattle.mrc_machine.specs.declared.call.Call.TheVariants.{Names, Rename, Send, Receive}
use Rattle.mrc_machine.specs.declared.call.Call.TheVariants.{MoveMember, RequestNotification}
use Rattle.mrc_machine.specs.declared.call.Call.TheVariants.{Deallocate, Destroy, ModRefs}
use Rattle.mrc_machine.specs.declared.call.Call.TheVariants.{Terminate, CreateTask}
use Rattle.mrc_machine.specs.declared.refusal.Refusal.{Refusal}
use Rattle.mrc_machine.specs.declared.refusal.Refusal.TheVariants as why
use Rattle.mrc_machine.specs.declared.reply.Reply.{Reply}
use Rattle.mrc_machine.specs.declared.reply.Reply.TheVariants as told
use Rattle.mrc_model.specs.Reply as model

-- a call
abbrev pub call_of : Call → model.Call
call_of (Send message) = model.SendMessage message
call_of (Receive name limit) = model.ReceiveMessage name limit
call_of (Allocate task right kind) = model.Allocate task right kind
call_of (GetRefs task name right) = model.GetRefs task name right
call_of (InsertRight task name right disp) = model.InsertRight task name right disp
call_of (ExtractRight task name disp) = model.ExtractRight task name disp
call_of (SetQlimit task name limit) = model.SetQlimit task name limit
call_of (PortType task name) = model.PortType task name
call_of (Names task) = model.ListNames task
call_of (Rename task old new) = model.Rename task old new
call_of (MoveMember task member set) = model.MoveMember task member set
call_of (RequestNotification task name id sync notify disp) =
    model.RequestNotification task name id sync notify disp
call_of (Deallocate task name) = model.Deallocate task name
call_of (Destroy task name) = model.Destroy task name
call_of (ModRefs task name right delta) = model.ModRefs task name right delta
call_of (Terminate task) = model.Terminate task
call_of (CreateTask task) = model.CreateTask task

-- a reply
abbrev pub reply_of : Reply → model.Reply
reply_of told.Done = model.Done
reply_of (told.Name name) = model.Name name
reply_of (told.Refs refs) = model.Refs refs
reply_of (told.Mask mask) = model.Mask mask
reply_of (told.Names names) = model.Names names
reply_of (told.Created task name) = model.Created task name
reply_of (told.Message bytes) = model.Bytes bytes
reply_of (told.TooLarge size) = model.TooLarge size
reply_of (told.Refused code) = model.Refused code
reply_of (told.Denied denied) = model.DeniedBy denied
reply_of told.DeadTask = model.DeadTask

-- the reply tells that the call was refused
abbrev pub IsRefused : Reply → Type 0
IsRefused told.Done = ⊥
IsRefused (told.Name name) = ⊥
IsRefused (told.Refs refs) = ⊥
IsRefused (told.Mask mask) = ⊥
IsRefused (told.Names names) = ⊥
IsRefused (told.Created task name) = ⊥
IsRefused (told.Message bytes) = ⊥
IsRefused (told.TooLarge size) = Unit {0}
IsRefused (told.Refused code) = Unit {0}
IsRefused (told.Denied denied) = Unit {0}
IsRefused told.DeadTask = Unit {0}

-- the call is not refused: its task is alive, and no refusal comes
abbrev pub IsGranted : Wiring → World → ℕ → model.Call → Type 0
IsGranted W w t call = IsTrue (is_alive (get w.tasks t)) × IsOk (try_call W w t call)

-- the reply that tells why a call is refused
abbrev pub refusal_reply : Refusal → model.Reply
refusal_reply (why.Refused code) = model.Refused code
refusal_reply (why.Denied denied) = model.DeniedBy denied
refusal_reply (why.TooLarge size) = model.TooLarge size

-- the refusal with a code, where memory did not run out
abbrev pub refusal_of : OrMemory Code → OrMemory Refusal
refusal_of (Fault code) = Fault (why.Refused code)
refusal_of Memory = Memory

-- the step is refused so; memory runs out only where it is not refused
abbrev pub IsRefusedBy : {A : Type 0} → OrMemory Refusal → model.Try A → Type 0
IsRefusedBy (Fault refusal) m = m ≡ Err (refusal_reply refusal)
IsRefusedBy Memory m = IsOk m

-- What a call is answered in the world w, of which it leaves z: the definition's reply, which is no
-- refusal; or why it is refused, and then z is w
abbrev pub Answers : Result Reply (OrMemory Refusal) → World → World
    → model.Try (World × model.Reply) → Type 0
Answers (Ok reply) w z m = (m ≡ Ok (z, reply_of reply)) × (IsRefused reply → ⊥)
Answers (Err fault) w z m = IsRefusedBy fault m × (z ≡ w)
