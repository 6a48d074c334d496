-- Believe. Calls, replies and refusals. From Mach 3 Kernel Interfaces (mach_msg and the mach_port_
-- calls); the numbers of Mach's replies stand by name.
use Rattle.std.specs.Prelude.{ℕ, Bool, true, false, List, Option, Some, None, Result, Ok, Err, ℤ}
use Rattle.mrc_base.specs.declared.Right.{Right}
use Rattle.mrc_base.specs.declared.Disp.{Disp}
use Rattle.mrc_model.specs.declared.Code.{Code}
use Rattle.mrc_model.specs.declared.Denied.{Denied}
use Rattle.mrc_model.specs.Message.{Message}

-- What a call answers. Names are given with their masks of rights; Created tells the number of the
-- new task and the caller's name for it, TooLarge the size of the message that stays queued.
pub data Reply : Type 0 where
  Done : Reply
  Name : ℕ → Reply
  Refs : ℕ → Reply
  Mask : ℕ → Reply
  Names : List (ℕ × ℕ) → Reply
  Created : (task name : ℕ) → Reply
  Bytes : List ℕ → Reply
  TooLarge : ℕ → Reply
  Refused : Code → Reply
  DeniedBy : Denied → Reply
  DeadTask : Reply

-- A call of a task, with the names as they stand in it. `task` names the task whose space the call
-- acts on, by a send right to its kernel port.
pub data Call : Type 0 where
  SendMessage : Message → Call
  ReceiveMessage : (name limit : ℕ) → Call
  Allocate : (task : ℕ) → (right : Right) → (kind : ℕ) → Call
  Deallocate : (task name : ℕ) → Call
  Destroy : (task name : ℕ) → Call
  ModRefs : (task name : ℕ) → (right : Right) → (delta : ℤ) → Call
  GetRefs : (task name : ℕ) → (right : Right) → Call
  InsertRight : (task name right : ℕ) → (disp : Disp) → Call
  ExtractRight : (task name : ℕ) → (disp : Disp) → Call
  MoveMember : (task member set : ℕ) → Call
  RequestNotification : (task name id sync notify : ℕ) → (disp : Disp) → Call
  SetQlimit : (task name limit : ℕ) → Call
  PortType : (task name : ℕ) → Call
  ListNames : (task : ℕ) → Call
  Rename : (task old new : ℕ) → Call
  Terminate : (task : ℕ) → Call
  CreateTask : (task : ℕ) → Call

-- a step that may be refused
abbrev pub Try : Type 0 → Type 0
Try A = Result A Reply

-- then f with what the step gives
infixl 10 ◌>>=◌
unfoldable pub ◌>>=◌ : {A B : Type 0} → Try A → (A → Try B) → Try B
◌>>=◌ (Ok a) f = f a
◌>>=◌ (Err e) f = Err e

-- then r
infixl 10 ◌>>◌
unfoldable pub ◌>>◌ : {A B : Type 0} → Try A → Try B → Try B
◌>>◌ (Ok a) r = r
◌>>◌ (Err e) r = Err e

-- goes on where the test holds
unfoldable pub check : Bool → Reply → Try (Unit {0})
check true e = Ok tt
check false e = Err e

-- goes on where the test fails
unfoldable pub refuse_if : Bool → Reply → Try (Unit {0})
refuse_if true e = Err e
refuse_if false e = Ok tt

-- goes on with the value
unfoldable pub or_refuse : {A : Type 0} → Option A → Reply → Try A
or_refuse (Some a) e = Ok a
or_refuse None e = Err e
