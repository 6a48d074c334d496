-- Worked runs with trusted tasks, and with reply ports that have to fit, by computation.
use Rattle.std.specs.Prelude.{ℕ, true, false, List, [], ◌∷◌, Option, Some, None, refl}
use Rattle.mrc_base.specs.declared.PortRight.{PortRight}
use Rattle.mrc_base.specs.declared.PortRight.TheVariants.{Send, SendOnce}
use Rattle.mrc_base.specs.declared.Right.TheVariants as named
use Rattle.mrc_base.specs.declared.Disp.TheVariants.{MoveReceive, CopySend, MakeSend, MakeSendOnce}
use Rattle.mrc_model.specs.declared.Verb.{Verb}
use Rattle.mrc_model.specs.declared.Verb.TheVariants.{Takes, Gives, Sends, Replies}
use Rattle.mrc_model.specs.declared.RequestKind.TheVariants.{Replied, Routine}
use Rattle.mrc_model.specs.declared.LabelItem.TheVariants.{Request as RequestOf, Reply as ReplyOf}
use Rattle.mrc_model.specs.declared.LabelItem.TheVariants.{Destroyed}
use Rattle.mrc_model.specs.declared.FirstLine.TheVariants.{Task as TaskLine, Port as PortLine}
use Rattle.mrc_model.specs.declared.FirstLine.TheVariants.{Hold as HoldLine}
use Rattle.mrc_model.specs.declared.Code.TheVariants.{KernInvalidName, KernInvalidValue}
use Rattle.mrc_model.specs.declared.Denied.TheVariants.{NotAdmitted, NotTaken, NotGiven, NotSent}
use Rattle.mrc_model.specs.declared.Denied.TheVariants.{NotForReply, ReplySlot}
use Rattle.mrc_model.specs.Message.{Ports}
use Rattle.mrc_model.specs.Map.{empty, get, insert, alter_all, len, keys, next_key}
use Rattle.mrc_model.specs.Wiring.{Interface, TrustLine, Wiring, forms, accepts_destroyed}
use Rattle.mrc_model.specs.Wiring.{accepts_reply, admits, fits_at}
use Rattle.mrc_model.specs.Wiring.{may}
use Rattle.mrc_model.specs.Filter.{judge}
use Rattle.mrc_model.specs.Reply.{Done, Name, Created, Refused, DeniedBy, Allocate, InsertRight}
use Rattle.mrc_model.specs.Reply.{ExtractRight, RequestNotification, CreateTask}
use Rattle.mrc_model.specs.Reply.{◌>>=◌, ◌>>◌, check, refuse_if, or_refuse}
use Rattle.mrc_model.specs.Space.{restart, take, unused, entry_of, give_item, insert_at}
use Rattle.mrc_model.specs.Death.{append}
use Rattle.mrc_model.specs.Target.{target, entry_at}
use Rattle.mrc_model.specs.CallSend.{take_item, call_send}
use Rattle.mrc_model.specs.CallAllocate.{call_allocate}
use Rattle.mrc_model.specs.CallInsertRight.{call_insert_right, call_extract_right}
use Rattle.mrc_model.specs.CallRequestNotification.{call_request_notification}
use Rattle.mrc_model.specs.CallCreateTask.{call_create_task}
use Rattle.mrc_model.specs.Step.{step}
use Rattle.mrc_model.specs.First.{first}
use Rattle.mrc_model.specs.Breach.{Counts, also, itself}
use Rattle.mrc_model.specs.IsIn.{here}
use Rattle.mrc_model.specs.declared.Entry.TheVariants.{Send as SendEntry}
use Rattle.mrc_model.proofs.Samples.{leading, showing, shape, sent, asked, event, Replays}

abbrev line : Verb → ℕ → Option (PortRight × ℕ) → TrustLine
line v t right = record { verb = v; task = t; right = right }

-- task l; task f; hold l send task f; and these lines. The births of f are of class 3
abbrev leading_with : List TrustLine → Wiring
leading_with lines = record leading { trusted = lines }

-- task a; task b; task c; port q receiver b accepts none; births a accepts destroyed; births c
-- accepts destroyed; hold a send task b; hold c send task b; and these lines
abbrev noticing_with : List TrustLine → Wiring
noticing_with lines = record {
  lines = TaskLine ∷ TaskLine ∷ TaskLine ∷ PortLine 1 ∷ HoldLine 0 1 Send ∷ HoldLine 2 1 Send ∷ [];
  tasks = 3;
  ports = 1;
  births = (0, 0) ∷ (1, 0) ∷ (2, 0) ∷ [];
  interfaces = [];
  labels = [] ∷ [] ∷ [] ∷ [] ∷ (Destroyed ∷ []) ∷ [] ∷ (Destroyed ∷ []) ∷ [];
  admitted = [];
  trusted = lines;
  replies_fit = false;
}

-- subsystem ask 900; routine ask(server : mach_port_t);
abbrev ask : Interface
ask = record {
  requests = record { id = 900; kind = Routine; shapes = [] } ∷ [];
  replies = record { id = 1000; shapes = shape 2 32 1 9 ∷ [] } ∷ [];
}

-- task app; task fs; port root receiver fs accepts request ask; births app accepts reply ask; hold
-- app send port root; and these lines. The births of app are of class 3, those of fs of class 4
abbrev asking_with : List TrustLine → Wiring
asking_with lines = record {
  lines = TaskLine ∷ TaskLine ∷ PortLine 1 ∷ HoldLine 0 2 Send ∷ [];
  tasks = 2;
  ports = 1;
  births = (0, 0) ∷ (1, 0) ∷ [];
  interfaces = ask ∷ [];
  labels = (RequestOf 0 ∷ []) ∷ [] ∷ [] ∷ (ReplyOf 0 ∷ []) ∷ [] ∷ [];
  admitted = [];
  trusted = lines;
  replies_fit = false;
}

-- trust l takes none: l takes no right from f, whose entry is looked at first; it gives f what it
-- likes, and takes all from its own child.
pub takes_nothing_from_others : Replays (leading_with (line Takes 0 None ∷ [])) (
    event 1 (Allocate 1 named.Receive 0) (Name 2) ∷
    event 0 (ExtractRight 2 2 MakeSend) (DeniedBy NotTaken) ∷
    event 0 (ExtractRight 2 3 MakeSend) (Refused KernInvalidName) ∷
    event 0 (InsertRight 2 3 1 CopySend) Done ∷
    event 0 (CreateTask 1) (Created 2 3) ∷
    event 2 (Allocate 1 named.Receive 0) (Name 2) ∷
    event 0 (ExtractRight 3 2 MoveReceive) (Name 4) ∷
    []) 5
unfolding ◌>>=◌ ◌>>◌ check refuse_if or_refuse empty get insert alter_all len keys next_key may
    restart take unused entry_of give_item insert_at target call_allocate call_insert_right
    call_extract_right call_create_task step first
takes_nothing_from_others = refl

-- trust l takes send births f: it takes what the line names, as the right that it would get, and
-- nothing else; and so does its child.
pub takes_what_its_line_names : Replays (leading_with (line Takes 0 (Some (Send, 3)) ∷ [])) (
    event 1 (Allocate 1 named.Receive 0) (Name 2) ∷
    event 0 (ExtractRight 2 2 MakeSend) (Name 3) ∷
    event 0 (ExtractRight 2 2 MoveReceive) (DeniedBy NotTaken) ∷
    event 0 (ExtractRight 2 2 MakeSendOnce) (DeniedBy NotTaken) ∷
    event 0 (ExtractRight 2 1 CopySend) (DeniedBy NotTaken) ∷
    event 0 (CreateTask 1) (Created 2 4) ∷
    event 0 (InsertRight 4 2 2 CopySend) Done ∷
    event 2 (ExtractRight 2 2 MoveReceive) (DeniedBy NotTaken) ∷
    event 2 (ExtractRight 2 2 MakeSend) (Name 3) ∷
    []) 4
unfolding ◌>>=◌ ◌>>◌ check refuse_if or_refuse empty get insert alter_all len keys next_key may
    restart take unused entry_of give_item insert_at target call_allocate call_insert_right
    call_extract_right call_create_task step first
takes_what_its_line_names = refl

-- trust l gives none: l gives f no right. What is asked of the caller's own name comes before, and
-- what is asked of the name in f behind: name 1 of f is used.
pub gives_nothing_to_others : Replays (leading_with (line Gives 0 None ∷ [])) (
    event 0 (Allocate 1 named.Receive 0) (Name 3) ∷
    event 0 (InsertRight 2 0 3 MakeSend) (Refused KernInvalidValue) ∷
    event 0 (InsertRight 2 1 7 MakeSend) (Refused KernInvalidName) ∷
    event 0 (InsertRight 2 1 3 MakeSend) (DeniedBy NotGiven) ∷
    event 0 (InsertRight 1 5 3 MakeSendOnce) Done ∷
    event 0 (ExtractRight 2 1 CopySend) (Name 2) ∷
    []) 3
unfolding ◌>>=◌ ◌>>◌ check refuse_if or_refuse empty get insert alter_all len keys next_key may
    restart take unused entry_of give_item insert_at target call_allocate call_insert_right
    call_extract_right call_create_task step first
gives_nothing_to_others = refl

-- trust a gives none: a request on a port of b would give b the notify right.
pub request_gives : Replays (noticing_with (line Gives 0 None ∷ [])) (
    event 0 (Allocate 1 named.Receive 0) (Name 3) ∷
    event 0 (RequestNotification 2 2 69 0 3 MakeSendOnce) (DeniedBy NotGiven) ∷
    event 0 (RequestNotification 2 2 69 0 0 MakeSendOnce) (Name 0) ∷
    event 0 (RequestNotification 1 3 69 0 3 MakeSendOnce) (Name 0) ∷
    []) 5
unfolding ◌>>=◌ ◌>>◌ check refuse_if or_refuse empty get insert alter_all len keys may
    accepts_destroyed restart take unused entry_of give_item insert_at target entry_at
    call_allocate call_request_notification step first
request_gives = refl

-- trust a takes none: the request before on a port of b is c's, and comes back to c alone.
pub request_takes : Replays (noticing_with (line Takes 0 None ∷ [])) (
    event 2 (Allocate 1 named.Receive 0) (Name 3) ∷
    event 2 (RequestNotification 2 2 69 0 3 MakeSendOnce) (Name 0) ∷
    event 0 (RequestNotification 2 2 69 0 0 MakeSendOnce) (DeniedBy NotTaken) ∷
    event 2 (RequestNotification 2 2 69 0 0 MakeSendOnce) (Name 4) ∷
    event 0 (RequestNotification 2 2 69 0 0 MakeSendOnce) (Name 0) ∷
    []) 5
unfolding ◌>>=◌ ◌>>◌ check refuse_if or_refuse empty get insert alter_all len keys may
    accepts_destroyed restart take unused entry_of give_item insert_at target entry_at
    call_allocate call_request_notification step first
request_takes = refl

-- trust a sends none: a puts no right into a slot, and neither does its child; null and dead pass.
-- What the slot admits is asked first.
pub sends_nothing :
    Replays (record showing { admitted = (1, Some 1) ∷ []; trusted = line Sends 0 None ∷ [] }) (
    event 0 (Allocate 1 named.Receive 0) (Name 2) ∷
    event 0 (InsertRight 1 2 2 MakeSend) Done ∷
    event 0 (sent 20 2 2100 (Ports 19 (1 ∷ []) ∷ [])) (DeniedBy (NotAdmitted 0)) ∷
    event 0 (sent 20 2 2100 (Ports 19 (2 ∷ []) ∷ [])) (DeniedBy (NotSent 0)) ∷
    event 0 (sent 20 2 2100 (Ports 19 (0 ∷ []) ∷ [])) Done ∷
    event 0 (sent 20 2 2100 (Ports 19 (0xffffffff ∷ []) ∷ [])) Done ∷
    event 0 (CreateTask 1) (Created 1 3) ∷
    event 0 (InsertRight 3 2 2 MakeSend) Done ∷
    event 1 (sent 19 2 2100 (Ports 19 (2 ∷ []) ∷ [])) (DeniedBy (NotSent 0)) ∷
    event 1 (sent 19 2 2100 (Ports 19 (0 ∷ []) ∷ [])) Done ∷
    []) 3
unfolding ◌>>=◌ ◌>>◌ check refuse_if or_refuse empty get insert alter_all len keys next_key forms
    admits may
    fits_at judge restart take unused entry_of give_item insert_at append target take_item call_send
    call_allocate call_insert_right call_create_task step first
sends_nothing = refl

-- trust app replies none: no request of it or of its child carries a reply right. Another task's
-- may.
pub asks_for_no_reply : Replays (asking_with (line Replies 0 None ∷ [])) (
    event 0 (Allocate 1 named.Receive 0) (Name 3) ∷
    event 0 (asked 19 2 21 3 900 []) (DeniedBy NotForReply) ∷
    event 0 (asked 19 2 0 0 900 []) Done ∷
    event 1 (asked 20 2 21 2 900 []) Done ∷
    event 0 (CreateTask 1) (Created 2 4) ∷
    event 0 (InsertRight 4 2 2 CopySend) Done ∷
    event 2 (Allocate 1 named.Receive 0) (Name 3) ∷
    event 2 (asked 19 2 21 3 900 []) (DeniedBy NotForReply) ∷
    []) 6
unfolding ◌>>=◌ ◌>>◌ check refuse_if or_refuse empty get insert alter_all len keys next_key forms
    admits may
    fits_at judge restart take unused entry_of give_item insert_at append target take_item call_send
    call_allocate call_insert_right call_create_task step first
asks_for_no_reply = refl

-- trust fs replies births fs: it may ask for replies at its births, and not at the root, which it
-- receives from.
pub asks_for_replies_at_its_births :
    Replays (asking_with (line Replies 1 (Some (SendOnce, 4)) ∷ [])) (
    event 1 (Allocate 1 named.Receive 0) (Name 3) ∷
    event 1 (asked 20 2 21 3 900 []) Done ∷
    event 1 (asked 20 2 21 2 900 []) (DeniedBy NotForReply) ∷
    []) 4
unfolding ◌>>=◌ ◌>>◌ check refuse_if or_refuse empty get insert alter_all len keys forms admits may
    fits_at judge restart take unused entry_of give_item insert_at append target take_item call_send
    call_allocate step first
asks_for_replies_at_its_births = refl

-- replies fit: a request's reply port accepts the replies of the request's interface, or there is
-- none. What the sender is trusted with is asked behind.
pub reply_ports_fit :
    Replays (record (asking_with (line Replies 1 None ∷ [])) { replies_fit = true }) (
    event 0 (Allocate 1 named.Receive 0) (Name 3) ∷
    event 0 (asked 19 2 21 3 900 []) Done ∷
    event 1 (asked 20 2 21 2 900 []) (DeniedBy ReplySlot) ∷
    event 1 (asked 20 2 0 0 900 []) Done ∷
    event 1 (asked 20 2 21 0xffffffff 900 []) Done ∷
    event 0 (InsertRight 1 4 3 MakeSendOnce) Done ∷
    event 0 (asked 19 2 18 4 900 []) Done ∷
    []) 4
unfolding ◌>>=◌ ◌>>◌ check refuse_if or_refuse empty get insert alter_all len keys forms admits may
    accepts_reply fits_at judge restart take unused entry_of give_item insert_at append target
    take_item call_send call_allocate call_insert_right step first
reply_ports_fit = refl

-- subsystem tell 950; routine tell(server : mach_port_t);
abbrev tell : Interface
tell = record {
  requests = record { id = 950; kind = Routine; shapes = [] } ∷ [];
  replies = record { id = 1050; shapes = shape 2 32 1 9 ∷ [] } ∷ [];
}

-- where the root accepts requests of both interfaces, and births of app the replies of tell alone,
-- a request of tell may name such a reply port, and one of ask may not
pub reply_port_of_another_interface : Replays (record (asking_with []) {
  interfaces = ask ∷ tell ∷ [];
  labels = (RequestOf 0 ∷ RequestOf 1 ∷ []) ∷ [] ∷ [] ∷ (ReplyOf 1 ∷ []) ∷ [] ∷ [];
  replies_fit = true;
}) (
    event 0 (Allocate 1 named.Receive 0) (Name 3) ∷
    event 0 (asked 19 2 21 3 900 []) (DeniedBy ReplySlot) ∷
    event 0 (asked 19 2 21 3 950 []) Done ∷
    []) 4
unfolding ◌>>=◌ ◌>>◌ check refuse_if or_refuse empty get insert alter_all len keys forms admits may
    accepts_reply fits_at judge restart take unused entry_of give_item insert_at append target
    take_item call_send call_allocate step first
reply_port_of_another_interface = refl

-- subsystem note 970; simpleroutine note(server : mach_port_t; ureplyport reply :
-- mach_port_make_send_once_t);
abbrev note : Interface
note = record { requests = record { id = 970; kind = Replied; shapes = [] } ∷ []; replies = [] }

-- A simpleroutine with a reply port brings a send-once right, or none. If reply ports have to fit,
-- it is one on a port that accepts the replies of its interface.
pub replied_request_brings_a_right :
    Replays (record (asking_with []) { interfaces = note ∷ []; replies_fit = true }) (
    event 0 (Allocate 1 named.Receive 0) (Name 3) ∷
    event 0 (asked 19 2 21 3 970 []) Done ∷
    event 0 (sent 19 2 970 []) Done ∷
    event 0 (asked 19 2 20 3 970 []) (DeniedBy ReplySlot) ∷
    event 1 (asked 20 2 21 2 970 []) (DeniedBy ReplySlot) ∷
    []) 4
unfolding ◌>>=◌ ◌>>◌ check refuse_if or_refuse empty get insert alter_all len keys forms admits may
    accepts_reply fits_at judge restart take unused entry_of give_item insert_at append target
    take_item call_send call_allocate step first
replied_request_brings_a_right = refl

-- trust l gives none: l takes what it likes, and so it counts as f in the first state
pub counts_as_what_it_takes_from :
    let W = leading_with (line Gives 0 None ∷ []) in Counts W (first W) 0 1
unfolding ◌>>=◌ ◌>>◌ check refuse_if or_refuse empty get insert len unused entry_of give_item first
counts_as_what_it_takes_from = also {u = 0} itself (
  record { alive = true; kernel = 1; class = 1 },
  refl,
  refl,
  (2, SendEntry 1 1, refl, here),
  refl,
)
