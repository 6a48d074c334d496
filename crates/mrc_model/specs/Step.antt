-- Believe. One call of one task. From Mach 3 Kernel Interfaces; that a call is one whole step is
-- this profile's own choice.
use Rattle.std.specs.Prelude.{ℕ, Ok, Err, if◌then◌else◌}
use Rattle.mrc_model.specs.Map.{get}
use Rattle.mrc_model.specs.Wiring.{Wiring}
use Rattle.mrc_model.specs.World.{World}
use Rattle.mrc_model.specs.Reply.{Reply, DeadTask, Call, SendMessage, ReceiveMessage, Allocate}
use Rattle.mrc_model.specs.Reply.{Deallocate, Destroy, ModRefs, GetRefs, InsertRight, ExtractRight}
use Rattle.mrc_model.specs.Reply.{MoveMember, RequestNotification, SetQlimit, PortType, ListNames}
use Rattle.mrc_model.specs.Reply.{Rename, Terminate, CreateTask, Try}
use Rattle.mrc_model.specs.Target.{is_alive}
use Rattle.mrc_model.specs.CallSend.{call_send}
use Rattle.mrc_model.specs.CallDeallocate.{call_deallocate, call_destroy}
use Rattle.mrc_model.specs.CallModRefs.{call_mod_refs}
use Rattle.mrc_model.specs.CallRequestNotification.{call_request_notification}
use Rattle.mrc_model.specs.CallReceive.{call_receive}
use Rattle.mrc_model.specs.CallAllocate.{call_allocate}
use Rattle.mrc_model.specs.CallNames.{call_get_refs, call_type, call_names}
use Rattle.mrc_model.specs.CallInsertRight.{call_insert_right, call_extract_right}
use Rattle.mrc_model.specs.CallMoveMember.{call_move_member}
use Rattle.mrc_model.specs.CallSetQlimit.{call_set_qlimit}
use Rattle.mrc_model.specs.CallRename.{call_rename}
use Rattle.mrc_model.specs.CallTerminate.{call_terminate}
use Rattle.mrc_model.specs.CallCreateTask.{call_create_task}

-- one call of a live task
abbrev pub try_call : Wiring → World → ℕ → Call → Try (World × Reply)
try_call W w t (SendMessage m) = call_send W w t m
try_call W w t (ReceiveMessage name limit) = call_receive w t name limit
try_call W w t (Allocate task right kind) = call_allocate W w t task right kind
try_call W w t (Deallocate task name) = call_deallocate w t task name
try_call W w t (Destroy task name) = call_destroy w t task name
try_call W w t (ModRefs task name right delta) = call_mod_refs w t task name right delta
try_call W w t (GetRefs task name right) = call_get_refs w t task name right
try_call W w t (InsertRight task name right disp) = call_insert_right W w t task name right disp
try_call W w t (ExtractRight task name disp) = call_extract_right W w t task name disp
try_call W w t (MoveMember task member set) = call_move_member w t task member set
try_call W w t (RequestNotification task name id sync notify disp) =
    call_request_notification W w t task name id sync notify disp
try_call W w t (SetQlimit task name limit) = call_set_qlimit w t task name limit
try_call W w t (PortType task name) = call_type w t task name
try_call W w t (ListNames task) = call_names w t task
try_call W w t (Rename task old new) = call_rename w t task old new
try_call W w t (Terminate task) = call_terminate w t task
try_call W w t (CreateTask task) = call_create_task w t task

-- a refusal leaves the world as it was
abbrev pub concluded : World → Try (World × Reply) → World × Reply
concluded w (Ok r) = r
concluded w (Err e) = (w, e)

-- the world and the reply after a call of task t; a number that is no task, or of one that has
-- ended, is refused
unfoldable pub step : Wiring → World → ℕ → Call → World × Reply
step W w t call =
    concluded w (if is_alive (get w.tasks t) then try_call W w t call else Err DeadTask)
