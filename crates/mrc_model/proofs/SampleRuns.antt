-- Worked runs of the machine, as theorems by computation: each event is a task, its call and the
-- reply.
use Rattle.std.specs.Prelude.{◌≡◌, ℕ, List, [], ◌∷◌, map, Some, pos, refl}
use Rattle.mrc_base.specs.declared.PortRight.{PortRight}
use Rattle.mrc_base.specs.declared.PortRight.TheVariants.{Send, Receive, SendOnce}
use Rattle.mrc_base.specs.declared.Right.TheVariants as named
use Rattle.mrc_base.specs.declared.Disp.TheVariants.{MoveReceive, MakeSend, MakeSendOnce}
use Rattle.mrc_model.specs.declared.Code.TheVariants.{KernInvalidTask, KernInvalidName}
use Rattle.mrc_model.specs.declared.Code.TheVariants.{KernInvalidValue, KernNameExists}
use Rattle.mrc_model.specs.declared.Code.TheVariants.{KernRightExists, KernUrefsOverflow}
use Rattle.mrc_model.specs.declared.Code.TheVariants.{KernNotInSet, MachSendInvalidDest}
use Rattle.mrc_model.specs.declared.Code.TheVariants.{MachSendTimedOut, MachRcvInvalidName}
use Rattle.mrc_model.specs.declared.Code.TheVariants.{MachRcvInSet, MachRcvTimedOut}
use Rattle.mrc_model.specs.declared.Denied.TheVariants.{NoSuchId, WrongDisposition, NotAdmitted}
use Rattle.mrc_model.specs.declared.Denied.TheVariants.{NotDestroyed}
use Rattle.mrc_model.specs.Message.{Data, Ports}
use Rattle.mrc_model.specs.Map.{empty, get, insert, alter_all, len, keys, next_key}
use Rattle.mrc_model.specs.Wiring.{forms, accepts_destroyed, admits, may, births_class}
use Rattle.mrc_model.specs.Wiring.{kernel_class, fits_at}
use Rattle.mrc_model.specs.World.{class_of}
use Rattle.mrc_model.specs.Filter.{judge}
use Rattle.mrc_model.specs.Reply.{Done, Name, Refs, Mask, Names, Created, Bytes, TooLarge, Refused}
use Rattle.mrc_model.specs.Reply.{DeniedBy, DeadTask, ReceiveMessage, Allocate, Deallocate, Destroy}
use Rattle.mrc_model.specs.Reply.{ModRefs, GetRefs, InsertRight, ExtractRight, MoveMember}
use Rattle.mrc_model.specs.Reply.{RequestNotification, PortType, ListNames, Rename, Terminate}
use Rattle.mrc_model.specs.Reply.{CreateTask}
use Rattle.mrc_model.specs.Reply.{◌>>=◌, ◌>>◌, check, refuse_if, or_refuse}
use Rattle.mrc_model.specs.Space.{restart, take, unused, entry_of, give_item, insert_at}
use Rattle.mrc_model.specs.Death.{dying, bury, append, destroy}
use Rattle.mrc_model.specs.Destroyed.{destroyed}
use Rattle.mrc_model.specs.Target.{target, entry_at}
use Rattle.mrc_model.specs.CallSend.{take_item, call_send}
use Rattle.mrc_model.specs.CallReceive.{received, call_receive}
use Rattle.mrc_model.specs.CallAllocate.{call_allocate}
use Rattle.mrc_model.specs.CallDeallocate.{call_deallocate, call_destroy}
use Rattle.mrc_model.specs.CallModRefs.{call_mod_refs}
use Rattle.mrc_model.specs.CallNames.{call_get_refs, call_type, call_names}
use Rattle.mrc_model.specs.CallInsertRight.{call_insert_right, call_extract_right}
use Rattle.mrc_model.specs.CallMoveMember.{call_move_member}
use Rattle.mrc_model.specs.CallRequestNotification.{call_request_notification}
use Rattle.mrc_model.specs.CallSetQlimit.{call_set_qlimit}
use Rattle.mrc_model.specs.CallRename.{call_rename}
use Rattle.mrc_model.specs.CallTerminate.{call_terminate}
use Rattle.mrc_model.specs.CallCreateTask.{call_create_task}
use Rattle.mrc_model.specs.Step.{step}
use Rattle.mrc_model.specs.First.{first}
use Rattle.mrc_model.specs.Runs.{Event}
use Rattle.mrc_model.specs.Breach.{Holding, holdings}
use Rattle.mrc_model.proofs.Samples.{alone, leading, pinging, handing, showing, inbox_and_safe}
use Rattle.mrc_model.proofs.Samples.{filing, filing_by_kind, sent, asked, event, world_after}
use Rattle.mrc_model.proofs.Samples.{Replays}

abbrev holding : ℕ → ℕ → PortRight → Holding
holding t p r = record { task = t; port = p; right = r }

-- A queue at its limit of five takes a message only through a send-once right.
pub full_queue_takes_send_once_alone : Replays pinging (
    event 0 (Allocate 1 named.Receive 0) (Name 2) ∷
    event 0 (sent 20 2 500 []) Done ∷
    event 0 (sent 20 2 500 []) Done ∷
    event 0 (sent 20 2 500 []) Done ∷
    event 0 (sent 20 2 500 []) Done ∷
    event 0 (sent 20 2 500 []) Done ∷
    event 0 (sent 20 2 500 []) (Refused MachSendTimedOut) ∷
    event 0 (sent 21 2 500 []) Done ∷
    []) 2
unfolding ◌>>=◌ ◌>>◌ check refuse_if or_refuse empty get insert alter_all len keys forms
    accepts_destroyed admits may fits_at judge restart take unused entry_of give_item insert_at
    dying bury append destroy destroyed target entry_at take_item call_send received call_receive
    call_allocate call_deallocate call_destroy call_mod_refs call_get_refs call_type call_names
    call_insert_right call_extract_right call_move_member call_request_notification
    call_set_qlimit call_rename call_terminate step first
full_queue_takes_send_once_alone = refl

-- A port whose receive right is in its own queue stays alive, also when its task ends.
pub port_in_its_own_queue_stays : Replays handing (
    event 0 (Allocate 1 named.Receive 0) (Name 2) ∷
    event 0 (sent 20 2 2000 (Ports 16 (2 ∷ []) ∷ [])) Done ∷
    event 0 (PortType 1 2) (Refused KernInvalidName) ∷
    event 0 (Terminate 1) Done ∷
    event 0 (ListNames 1) DeadTask ∷
    []) 1
unfolding ◌>>=◌ ◌>>◌ check refuse_if or_refuse empty get insert alter_all len keys forms
    accepts_destroyed admits may fits_at judge restart take unused entry_of give_item insert_at
    dying bury append destroy destroyed target entry_at take_item call_send received call_receive
    call_allocate call_deallocate call_destroy call_mod_refs call_get_refs call_type call_names
    call_insert_right call_extract_right call_move_member call_request_notification
    call_set_qlimit call_rename call_terminate step first
port_in_its_own_queue_stays = refl

-- The inbox dies with a receive right in its queue; that port has a request, which gets its receive
-- right.
pub receive_right_goes_to_its_request : Replays inbox_and_safe (
    event 0 (Allocate 1 named.Receive 0) (Name 4) ∷
    event 0 (RequestNotification 1 4 69 0 2 MakeSendOnce) (Name 0) ∷
    event 0 (sent 19 3 2000 (Ports 16 (4 ∷ []) ∷ [])) Done ∷
    event 1 (Destroy 1 2) Done ∷
    event 0 (ReceiveMessage 2 32)
    (Bytes (0 ∷ 18 ∷ 0 ∷ 128 ∷ 32 ∷ 0 ∷ 0 ∷ 0 ∷ 0 ∷ 0 ∷ 0 ∷ 0 ∷ 2 ∷ 0 ∷ 0 ∷ 0 ∷ 0 ∷ 0 ∷
    0 ∷ 0 ∷ 69 ∷ 0 ∷ 0 ∷ 0 ∷ 16 ∷ 32 ∷ 1 ∷ 16 ∷ 4 ∷ 0 ∷ 0 ∷ 0 ∷ [])) ∷
    event 0 (PortType 1 3) (Mask 1048576) ∷
    []) 4
unfolding ◌>>=◌ ◌>>◌ check refuse_if or_refuse empty get insert alter_all len keys forms
    accepts_destroyed admits may fits_at judge restart take unused entry_of give_item insert_at
    dying bury append destroy destroyed target entry_at take_item call_send received call_receive
    call_allocate call_deallocate call_destroy call_mod_refs call_get_refs call_type call_names
    call_insert_right call_extract_right call_move_member call_request_notification
    call_set_qlimit call_rename call_terminate step first
receive_right_goes_to_its_request = refl

-- A receive right goes to another task, which asks for the port anew and is given the send-once
-- right of the first.
abbrev request_script : List Event
request_script =
    event 0 (Allocate 1 named.Receive 0) (Name 4) ∷
    event 0 (RequestNotification 1 4 69 0 2 MakeSendOnce) (Name 0) ∷
    event 0 (sent 19 3 2000 (Ports 16 (4 ∷ []) ∷ [])) Done ∷
    event 1 (ReceiveMessage 2 32)
    (Bytes (0 ∷ 17 ∷ 0 ∷ 128 ∷ 32 ∷ 0 ∷ 0 ∷ 0 ∷ 0 ∷ 0 ∷ 0 ∷ 0 ∷ 2 ∷ 0 ∷ 0 ∷ 0 ∷ 0 ∷ 0 ∷
    0 ∷ 0 ∷ 208 ∷ 7 ∷ 0 ∷ 0 ∷ 16 ∷ 32 ∷ 1 ∷ 16 ∷ 3 ∷ 0 ∷ 0 ∷ 0 ∷ [])) ∷
    event 1 (RequestNotification 1 3 69 0 0 MakeSendOnce) (Name 4) ∷
    event 1 (PortType 1 4) (Mask 262144) ∷
    []

pub previous_request_is_given : Replays inbox_and_safe request_script 5
unfolding ◌>>=◌ ◌>>◌ check refuse_if or_refuse empty get insert alter_all len keys forms
    accepts_destroyed admits may fits_at judge restart take unused entry_of give_item insert_at
    dying bury append destroy destroyed target entry_at take_item call_send received call_receive
    call_allocate call_deallocate call_destroy call_mod_refs call_get_refs call_type call_names
    call_insert_right call_extract_right call_move_member call_request_notification
    call_set_qlimit call_rename call_terminate step first
previous_request_is_given = refl

-- what tasks hold after it: each has its kernel port, the first one safe and the inbox, the second
-- one the inbox, the new port and the send-once right on safe
pub held_after_request : holdings
    (world_after inbox_and_safe (first inbox_and_safe) request_script) ≡
    holding 0 0 Send ∷ holding 0 3 Receive ∷ holding 0 2 Send
    ∷ holding 1 1 Send ∷ holding 1 2 Receive ∷ holding 1 4 Receive ∷ holding 1 3 SendOnce ∷ []
unfolding ◌>>=◌ ◌>>◌ check refuse_if or_refuse empty get insert alter_all len keys forms
    accepts_destroyed admits may fits_at judge restart take unused entry_of give_item insert_at
    dying bury append destroy destroyed target entry_at take_item call_send received call_receive
    call_allocate call_deallocate call_destroy call_mod_refs call_get_refs call_type call_names
    call_insert_right call_extract_right call_move_member call_request_notification
    call_set_qlimit call_rename call_terminate step first
held_after_request = refl

-- A message above the receiver's limit stays queued.
pub message_too_large_stays : Replays inbox_and_safe (
    event 0 (Allocate 1 named.Receive 0) (Name 4) ∷
    event 0 (RequestNotification 1 4 69 0 2 MakeSendOnce) (Name 0) ∷
    event 0 (sent 19 3 2000 (Ports 16 (4 ∷ []) ∷ [])) Done ∷
    event 1 (ReceiveMessage 2 31) (TooLarge 32) ∷
    event 1 (ReceiveMessage 7 32) (Refused MachRcvInvalidName) ∷
    event 1 (ReceiveMessage 2 32)
    (Bytes (0 ∷ 17 ∷ 0 ∷ 128 ∷ 32 ∷ 0 ∷ 0 ∷ 0 ∷ 0 ∷ 0 ∷ 0 ∷ 0 ∷ 2 ∷ 0 ∷ 0 ∷ 0 ∷ 0 ∷ 0 ∷
    0 ∷ 0 ∷ 208 ∷ 7 ∷ 0 ∷ 0 ∷ 16 ∷ 32 ∷ 1 ∷ 16 ∷ 3 ∷ 0 ∷ 0 ∷ 0 ∷ [])) ∷
    event 1 (RequestNotification 1 3 69 0 0 MakeSendOnce) (Name 4) ∷
    event 1 (PortType 1 4) (Mask 262144) ∷
    []) 5
unfolding ◌>>=◌ ◌>>◌ check refuse_if or_refuse empty get insert alter_all len keys forms
    accepts_destroyed admits may fits_at judge restart take unused entry_of give_item insert_at
    dying bury append destroy destroyed target entry_at take_item call_send received call_receive
    call_allocate call_deallocate call_destroy call_mod_refs call_get_refs call_type call_names
    call_insert_right call_extract_right call_move_member call_request_notification
    call_set_qlimit call_rename call_terminate step first
message_too_large_stays = refl

-- Send references stop at 65,535: inserting one more is refused, one more in a message is dropped.
pub references_stop_at_65535 : Replays showing (
    event 0 (Allocate 1 named.Receive 0) (Name 2) ∷
    event 0 (InsertRight 1 2 2 MakeSend) Done ∷
    event 0 (ModRefs 1 2 named.Send (pos 65534)) Done ∷
    event 0 (InsertRight 1 2 2 MakeSend) (Refused KernUrefsOverflow) ∷
    event 0 (sent 19 2 2100 (Ports 19 (2 ∷ []) ∷ [])) Done ∷
    event 0 (ReceiveMessage 2 32)
    (Bytes (0 ∷ 17 ∷ 0 ∷ 128 ∷ 32 ∷ 0 ∷ 0 ∷ 0 ∷ 0 ∷ 0 ∷ 0 ∷ 0 ∷ 2 ∷ 0 ∷ 0 ∷ 0 ∷ 0 ∷ 0 ∷
    0 ∷ 0 ∷ 52 ∷ 8 ∷ 0 ∷ 0 ∷ 17 ∷ 32 ∷ 1 ∷ 16 ∷ 2 ∷ 0 ∷ 0 ∷ 0 ∷ [])) ∷
    event 0 (GetRefs 1 2 named.Send) (Refs 65535) ∷
    []) 2
unfolding ◌>>=◌ ◌>>◌ check refuse_if or_refuse empty get insert alter_all len keys forms
    accepts_destroyed admits may fits_at judge restart take unused entry_of give_item insert_at
    dying bury append destroy destroyed target entry_at take_item call_send received call_receive
    call_allocate call_deallocate call_destroy call_mod_refs call_get_refs call_type call_names
    call_insert_right call_extract_right call_move_member call_request_notification
    call_set_qlimit call_rename call_terminate step first
references_stop_at_65535 = refl

-- What the filter turns away: a class that the slot does not admit, an id that no form has, another
-- disposition, and a request that names a port whose class does not accept notices.
pub filter_turns_away : Replays inbox_and_safe (
    event 0 (sent 19 3 2000 (Ports 16 (2 ∷ []) ∷ [])) (DeniedBy (NotAdmitted 0)) ∷
    event 0 (sent 19 3 2001 (Ports 16 (2 ∷ []) ∷ [])) (DeniedBy NoSuchId) ∷
    event 0 (sent 19 3 2000 (Ports 19 (2 ∷ []) ∷ [])) (DeniedBy (WrongDisposition 0)) ∷
    event 0 (Allocate 1 named.Receive 0) (Name 4) ∷
    event 0 (RequestNotification 1 2 69 0 4 MakeSendOnce) (DeniedBy NotDestroyed) ∷
    []) 5
unfolding ◌>>=◌ ◌>>◌ check refuse_if or_refuse empty get insert alter_all len keys forms
    accepts_destroyed admits may fits_at judge restart take unused entry_of give_item insert_at
    dying bury append destroy destroyed target entry_at take_item call_send received call_receive
    call_allocate call_deallocate call_destroy call_mod_refs call_get_refs call_type call_names
    call_insert_right call_extract_right call_move_member call_request_notification
    call_set_qlimit call_rename call_terminate step first
filter_turns_away = refl

-- A port has one name for its send and receive rights, and one for each send-once right; a new name
-- is the least.
pub names_of_one_port : Replays alone (
    event 0 (Allocate 1 named.Receive 0) (Name 2) ∷
    event 0 (InsertRight 1 2 2 MakeSend) Done ∷
    event 0 (PortType 1 2) (Mask 196608) ∷
    event 0 (Rename 1 2 9) Done ∷
    event 0 (InsertRight 1 10 9 MakeSendOnce) Done ∷
    event 0 (InsertRight 1 11 9 MakeSend) (Refused KernRightExists) ∷
    event 0 (InsertRight 1 10 9 MakeSendOnce) (Refused KernNameExists) ∷
    event 0 (ExtractRight 1 9 MakeSend) (Name 9) ∷
    event 0 (GetRefs 1 9 named.Send) (Refs 2) ∷
    event 0 (Allocate 1 named.DeadName 0) (Name 2) ∷
    event 0 (ListNames 1) (Names ((1, 65536) ∷ (2, 1048576) ∷ (9, 196608) ∷ (10, 262144) ∷ [])) ∷
    event 0 (Allocate 1 named.Send 0) (Refused KernInvalidValue) ∷
    event 0 (ListNames 7) (Refused KernInvalidTask) ∷
    []) 2
unfolding ◌>>=◌ ◌>>◌ check refuse_if or_refuse empty get insert alter_all len keys forms
    accepts_destroyed admits may fits_at judge restart take unused entry_of give_item insert_at
    dying bury append destroy destroyed target entry_at take_item call_send received call_receive
    call_allocate call_deallocate call_destroy call_mod_refs call_get_refs call_type call_names
    call_insert_right call_extract_right call_move_member call_request_notification
    call_set_qlimit call_rename call_terminate step first
names_of_one_port = refl

-- A file is opened: the server can hand out its files, and nothing that the slot does not admit.
pub file_is_opened : Replays filing (
    event 0 (Allocate 1 named.Receive 0) (Name 3) ∷
    event 0 (asked 19 2 21 3 3000
    (Data 12 8 64 (0 ∷ 0 ∷ 0 ∷ 0 ∷ 0 ∷ 0 ∷ 0 ∷ 0 ∷ 0 ∷ 0 ∷ 0 ∷ 0 ∷ 0 ∷ 0 ∷ 0 ∷ 0 ∷ 0 ∷ 0
    ∷ 0 ∷ 0 ∷ 0 ∷ 0 ∷ 0 ∷ 0 ∷ 0 ∷ 0 ∷ 0 ∷ 0 ∷ 0 ∷ 0 ∷ 0 ∷ 0 ∷ 0 ∷ 0 ∷ 0 ∷ 0 ∷ 0 ∷ 0 ∷ 0 ∷ 0 ∷ 0 ∷ 0
    ∷ 0 ∷ 0 ∷ 0 ∷
    0 ∷ 0 ∷ 0 ∷ 0 ∷ 0 ∷ 0 ∷ 0 ∷ 0 ∷ 0 ∷ 0 ∷ 0 ∷ 0 ∷ 0 ∷ 0 ∷ 0 ∷ 0 ∷ 0 ∷ 0 ∷ 0 ∷ []) ∷ [])) Done ∷
    event 1 (ReceiveMessage 2 92)
    (Bytes (18 ∷ 17 ∷ 0 ∷ 0 ∷ 92 ∷ 0 ∷ 0 ∷ 0 ∷ 3 ∷ 0 ∷ 0 ∷ 0 ∷ 2 ∷ 0 ∷ 0 ∷ 0 ∷ 0 ∷ 0 ∷ 0
    ∷ 0 ∷ 184 ∷ 11 ∷ 0 ∷ 0 ∷ 12 ∷ 8 ∷ 64 ∷ 16 ∷ 0 ∷ 0 ∷ 0 ∷ 0 ∷ 0 ∷ 0 ∷ 0 ∷ 0 ∷ 0 ∷ 0 ∷ 0 ∷ 0 ∷ 0
    ∷ 0 ∷ 0 ∷ 0 ∷ 0
    ∷ 0 ∷ 0 ∷ 0 ∷ 0 ∷ 0 ∷ 0 ∷ 0 ∷ 0 ∷ 0 ∷ 0 ∷ 0 ∷ 0 ∷ 0 ∷ 0 ∷ 0 ∷ 0 ∷ 0 ∷ 0 ∷ 0 ∷ 0 ∷ 0 ∷ 0 ∷ 0 ∷ 0
    ∷ 0 ∷ 0 ∷ 0 ∷
    0 ∷ 0 ∷ 0 ∷ 0 ∷ 0 ∷ 0 ∷ 0 ∷ 0 ∷ 0 ∷ 0 ∷ 0 ∷ 0 ∷ 0 ∷ 0 ∷ 0 ∷ 0 ∷ 0 ∷ 0 ∷ 0 ∷ 0 ∷ [])) ∷
    event 1 (Allocate 1 named.Receive 0) (Name 4) ∷
    event 1 (InsertRight 1 4 4 MakeSend) Done ∷
    event 1 (sent 18 3 3100 (Data 2 32 1 (0 ∷ 0 ∷ 0 ∷ 0 ∷ []) ∷ Ports 19 (1 ∷ []) ∷ []))
    (DeniedBy (NotAdmitted 1)) ∷
    event 1 (sent 18 3 3100 (Data 2 32 1 (0 ∷ 0 ∷ 0 ∷ 0 ∷ []) ∷ Ports 19 (4 ∷ []) ∷ [])) Done ∷
    event 0 (ReceiveMessage 3 40)
    (Bytes (0 ∷ 18 ∷ 0 ∷ 128 ∷ 40 ∷ 0 ∷ 0 ∷ 0 ∷ 0 ∷ 0 ∷ 0 ∷ 0 ∷ 3 ∷ 0 ∷ 0 ∷ 0 ∷ 0 ∷ 0 ∷
    0 ∷ 0 ∷ 28 ∷ 12 ∷ 0 ∷ 0 ∷ 2 ∷ 32 ∷ 1 ∷ 16 ∷ 0 ∷ 0 ∷ 0 ∷ 0 ∷ 17 ∷ 32 ∷ 1 ∷ 16 ∷ 4 ∷ 0 ∷ 0 ∷ 0
    ∷ [])) ∷
    event 0 (PortType 1 4) (Mask 65536) ∷
    []) 5
unfolding ◌>>=◌ ◌>>◌ check refuse_if or_refuse empty get insert alter_all len keys forms
    accepts_destroyed admits may fits_at judge restart take unused entry_of give_item insert_at
    dying bury append destroy destroyed target entry_at take_item call_send received call_receive
    call_allocate call_deallocate call_destroy call_mod_refs call_get_refs call_type call_names
    call_insert_right call_extract_right call_move_member call_request_notification
    call_set_qlimit call_rename call_terminate step first
file_is_opened = refl

-- Receipts restart where the receive right moves. A member of a set is received from by the set
-- alone, and a set that goes leaves its members.
pub receipts_restart_with_the_right : Replays pinging (
    event 0 (Allocate 1 named.Receive 0) (Name 2) ∷
    event 0 (Allocate 1 named.Receive 0) (Name 3) ∷
    event 0 (Allocate 1 named.PortSet 0) (Name 4) ∷
    event 0 (MoveMember 1 3 4) Done ∷
    event 0 (MoveMember 1 2 4) Done ∷
    event 0 (sent 20 3 500 []) Done ∷
    event 0 (ReceiveMessage 2 24) (Refused MachRcvInSet) ∷
    event 0 (ReceiveMessage 4 24)
    (Bytes (0 ∷ 17 ∷ 0 ∷ 0 ∷ 24 ∷ 0 ∷ 0 ∷ 0 ∷ 0 ∷ 0 ∷ 0 ∷ 0 ∷ 3 ∷ 0 ∷ 0 ∷ 0 ∷ 0 ∷ 0 ∷ 0
    ∷ 0 ∷ 244 ∷ 1 ∷ 0 ∷ 0 ∷ [])) ∷
    event 0 (Destroy 1 4) Done ∷
    event 0 (InsertRight 1 4 3 MoveReceive) Done ∷
    event 0 (sent 20 4 500 []) Done ∷
    event 0 (ReceiveMessage 4 24)
    (Bytes (0 ∷ 17 ∷ 0 ∷ 0 ∷ 24 ∷ 0 ∷ 0 ∷ 0 ∷ 0 ∷ 0 ∷ 0 ∷ 0 ∷ 4 ∷ 0 ∷ 0 ∷ 0 ∷ 0 ∷ 0 ∷ 0
    ∷ 0 ∷ 244 ∷ 1 ∷ 0 ∷ 0 ∷ [])) ∷
    event 0 (MoveMember 1 2 0) (Refused KernNotInSet) ∷
    []) 3
unfolding ◌>>=◌ ◌>>◌ check refuse_if or_refuse empty get insert alter_all len keys forms
    accepts_destroyed admits may fits_at judge restart take unused entry_of give_item insert_at
    dying bury append destroy destroyed target entry_at take_item call_send received call_receive
    call_allocate call_deallocate call_destroy call_mod_refs call_get_refs call_type call_names
    call_insert_right call_extract_right call_move_member call_request_notification
    call_set_qlimit call_rename call_terminate step first
receipts_restart_with_the_right = refl

-- A send-once right that is dropped unused sends a notice.
pub unused_send_once_right_notifies : Replays pinging (
    event 0 (Allocate 1 named.Receive 0) (Name 2) ∷
    event 0 (InsertRight 1 3 2 MakeSendOnce) Done ∷
    event 0 (Deallocate 1 3) Done ∷
    event 0 (ReceiveMessage 2 24)
    (Bytes (0 ∷ 18 ∷ 0 ∷ 0 ∷ 24 ∷ 0 ∷ 0 ∷ 0 ∷ 0 ∷ 0 ∷ 0 ∷ 0 ∷ 2 ∷ 0 ∷ 0 ∷ 0 ∷ 0 ∷ 0 ∷ 0
    ∷ 0 ∷ 71 ∷ 0 ∷ 0 ∷ 0 ∷ [])) ∷
    []) 2
unfolding ◌>>=◌ ◌>>◌ check refuse_if or_refuse empty get insert alter_all len keys forms
    accepts_destroyed admits may fits_at judge restart take unused entry_of give_item insert_at
    dying bury append destroy destroyed target entry_at take_item call_send received call_receive
    call_allocate call_deallocate call_destroy call_mod_refs call_get_refs call_type call_names
    call_insert_right call_extract_right call_move_member call_request_notification
    call_set_qlimit call_rename call_terminate step first
unused_send_once_right_notifies = refl

-- A name of a dead port does not reach a port born later.
pub old_name_misses_new_port : Replays pinging (
    event 0 (Allocate 1 named.Receive 0) (Name 2) ∷
    event 0 (InsertRight 1 3 2 MakeSendOnce) Done ∷
    event 0 (Destroy 1 2) Done ∷
    event 0 (Allocate 1 named.Receive 0) (Name 2) ∷
    event 0 (PortType 1 3) (Mask 1048576) ∷
    event 0 (sent 18 3 500 []) (Refused MachSendInvalidDest) ∷
    event 0 (ReceiveMessage 2 24) (Refused MachRcvTimedOut) ∷
    []) 2
unfolding ◌>>=◌ ◌>>◌ check refuse_if or_refuse empty get insert alter_all len keys forms
    accepts_destroyed admits may fits_at judge restart take unused entry_of give_item insert_at
    dying bury append destroy destroyed target entry_at take_item call_send received call_receive
    call_allocate call_deallocate call_destroy call_mod_refs call_get_refs call_type call_names
    call_insert_right call_extract_right call_move_member call_request_notification
    call_set_qlimit call_rename call_terminate step first
old_name_misses_new_port = refl

-- Ports of each kind of births that the wiring has can be made; sets have no kind.
pub kinds_of_births : Replays filing_by_kind (
    event 1 (Allocate 1 named.Receive 1) (Name 3) ∷
    event 1 (Allocate 1 named.Receive 2) (Refused KernInvalidValue) ∷
    event 1 (Allocate 1 named.PortSet 1) (Refused KernInvalidValue) ∷
    []) 4
unfolding ◌>>=◌ ◌>>◌ check refuse_if or_refuse empty get insert alter_all len keys forms
    accepts_destroyed admits may fits_at judge restart take unused entry_of give_item insert_at
    dying bury append destroy destroyed target entry_at take_item call_send received call_receive
    call_allocate call_deallocate call_destroy call_mod_refs call_get_refs call_type call_names
    call_insert_right call_extract_right call_move_member call_request_notification
    call_set_qlimit call_rename call_terminate step first
kinds_of_births = refl

-- A task that is made at run time: what it has, that it ends as its own kernel port is used, and
-- that it outlives the task that it was made from.
pub task_is_made : Replays leading (
    event 0 (CreateTask 2) (Created 2 3) ∷
    event 2 (ListNames 1) (Names ((1, 65536) ∷ [])) ∷
    event 2 (Allocate 1 named.Receive 0) (Name 2) ∷
    event 0 (ExtractRight 3 2 MakeSend) (Name 4) ∷
    event 0 (Terminate 2) Done ∷
    event 1 (ListNames 1) DeadTask ∷
    event 2 (PortType 1 2) (Mask 131072) ∷
    event 0 (Terminate 3) Done ∷
    event 0 (PortType 1 4) (Mask 1048576) ∷
    event 2 (ListNames 1) DeadTask ∷
    []) 1
unfolding ◌>>=◌ ◌>>◌ check refuse_if or_refuse empty get insert alter_all len keys next_key forms
    accepts_destroyed admits may fits_at judge restart take unused entry_of give_item insert_at
    dying bury append destroy destroyed target entry_at take_item call_send received call_receive
    call_allocate call_deallocate call_destroy call_mod_refs call_get_refs call_type call_names
    call_insert_right call_extract_right call_move_member call_request_notification
    call_set_qlimit call_rename call_terminate call_create_task step first
task_is_made = refl

-- what tasks hold once it has a port of its own: that port is of the births of the task that it was
-- made from
abbrev made_script : List Event
made_script =
    event 0 (CreateTask 2) (Created 2 3) ∷
    event 2 (Allocate 1 named.Receive 0) (Name 2) ∷
    []

pub held_after_making : holdings (world_after leading (first leading) made_script) ≡
    holding 0 0 Send ∷ holding 0 1 Send ∷ holding 0 2 Send
    ∷ holding 1 1 Send ∷ holding 2 2 Send ∷ holding 2 3 Receive ∷ []
unfolding ◌>>=◌ ◌>>◌ check refuse_if or_refuse empty get insert alter_all len keys next_key forms
    accepts_destroyed admits may fits_at judge restart take unused entry_of give_item insert_at
    dying bury append destroy destroyed target entry_at take_item call_send received call_receive
    call_allocate call_deallocate call_destroy call_mod_refs call_get_refs call_type call_names
    call_insert_right call_extract_right call_move_member call_request_notification
    call_set_qlimit call_rename call_terminate call_create_task step first
held_after_making = refl

-- which tells the class of that port, and that of the child's kernel port
pub classes_after_making :
    let s = (world_after leading (first leading) made_script).store in
    map (λ p. class_of s p) (2 ∷ 3 ∷ [])
    ≡ Some (kernel_class leading 1) ∷ births_class leading 1 0 ∷ []
unfolding ◌>>=◌ ◌>>◌ check refuse_if or_refuse empty get insert alter_all len keys next_key forms
    accepts_destroyed admits may fits_at judge restart take unused entry_of give_item insert_at
    dying bury append destroy destroyed target entry_at take_item call_send received call_receive
    call_allocate call_deallocate call_destroy call_mod_refs call_get_refs call_type call_names
    call_insert_right call_extract_right call_move_member call_request_notification
    call_set_qlimit call_rename call_terminate call_create_task step first
classes_after_making = refl
