-- Believe. Sending a message. From Mach 3 Kernel Interfaces, mach_msg (MACH_SEND_MSG). The order of
-- the refusals, and the filter, are this profile's own choice.
use Rattle.std.specs.Prelude.{ℕ, ◌+◌, ◌-◌, Bool, true, false, not, ◌&&◌, List, [], ◌∷◌, length}
use Rattle.std.specs.Prelude.{Option, Some, None, Result, Ok, Err, ◌==◌, nat_le, if◌then◌else◌}
use Rattle.mrc_base.specs.declared.Disp.{Disp}
use Rattle.mrc_base.specs.declared.Disp.TheVariants.{MoveReceive, MoveSend, MoveSendOnce, CopySend}
use Rattle.mrc_base.specs.declared.Disp.TheVariants.{MakeSend, MakeSendOnce}
use Rattle.mrc_base.specs.Disposition.{given, disp_of_number}
use Rattle.mrc_model.specs.declared.Entry.{Entry}
use Rattle.mrc_model.specs.declared.Entry.TheVariants.{Receive as ReceiveEntry, Send as SendEntry}
use Rattle.mrc_model.specs.declared.Entry.TheVariants.{SendOnce as OnceEntry, PortSet as SetEntry}
use Rattle.mrc_model.specs.declared.Entry.TheVariants.{DeadName as DeadEntry}
use Rattle.mrc_model.specs.declared.Item.{Item}
use Rattle.mrc_model.specs.declared.Item.TheVariants.{Null as NullItem, Dead as DeadItem}
use Rattle.mrc_model.specs.declared.Item.TheVariants.{Right as RightItem}
use Rattle.mrc_model.specs.declared.Denied.{Denied}
use Rattle.mrc_model.specs.declared.Denied.TheVariants.{ReplySlot, NotAdmitted, NotSent}
use Rattle.mrc_model.specs.declared.Denied.TheVariants.{NotForReply}
use Rattle.mrc_model.specs.declared.Verb.TheVariants.{Sends, Replies}
use Rattle.mrc_model.specs.declared.Code.TheVariants.{MachSendInvalidDest, MachSendInvalidReply}
use Rattle.mrc_model.specs.declared.Code.TheVariants.{MachSendInvalidRight, MachSendTimedOut}
use Rattle.mrc_model.specs.Rights.{is_once}
use Rattle.mrc_model.specs.Map.{get}
use Rattle.mrc_model.specs.Message.{Message, Arg, Data, Ports}
use Rattle.mrc_model.specs.Wiring.{Wiring, Shape, Form, form_shapes, admits, fits_at, may}
use Rattle.mrc_model.specs.Filter.{judge}
use Rattle.mrc_model.specs.World.{QueuedArg, QueuedData, QueuedItems, Parcel, Store, World, space}
use Rattle.mrc_model.specs.World.{set_space, port_null, port_dead, class_of, task_class}
use Rattle.mrc_model.specs.Trust.{may_item}
use Rattle.mrc_model.specs.Reply.{Reply, Done, Refused, DeniedBy, Try, ◌>>=◌, ◌>>◌, check}
use Rattle.mrc_model.specs.Reply.{refuse_if, or_refuse}
use Rattle.mrc_model.specs.Space.{dead_entry, take, put_entry}
use Rattle.mrc_model.specs.Death.{append}
use Rattle.mrc_model.specs.Target.{with_store}

-- what is left of a dead entry that gives a dead right: one reference goes by a move, none by a
-- copy
abbrev pub take_dead : ℕ → Disp → Option (Option Entry)
take_dead k MoveSend = Some (dead_entry (k - 1))
take_dead k MoveSendOnce = Some (dead_entry (k - 1))
take_dead k CopySend = Some (Some (DeadEntry k))
take_dead k MoveReceive = None
take_dead k MakeSend = None
take_dead k MakeSendOnce = None

-- what is left of the entry, where it is a dead one that gives a dead right by the disposition
abbrev pub dead_taken : Option Entry → Disp → Option (Option Entry)
dead_taken None x = None
dead_taken (Some (ReceiveEntry p k i)) x = None
dead_taken (Some (SendEntry p k)) x = None
dead_taken (Some (OnceEntry p)) x = None
dead_taken (Some SetEntry) x = None
dead_taken (Some (DeadEntry k)) x = take_dead k x

-- a dead entry gives a dead right
abbrev pub is_dead_taken : Option (Option Entry) → Bool
is_dead_taken None = false
is_dead_taken (Some e) = true

-- a right on a live port is carried
abbrev pub take_live : Store → ℕ → ℕ → Disp → Reply → Try (Store × Item)
take_live s t n x fault = do
  (s', p) ← take s t n x fault fault
  Ok (s', RightItem p (given x))

-- a dead right, where a dead entry gives one, else a right on a live port
abbrev pub take_named : Store → ℕ → ℕ → Disp → Reply → Option (Option Entry) → Try (Store × Item)
take_named s t n x fault None = take_live s t n x fault
take_named s t n x fault (Some rest) = Ok (set_space s t (put_entry (space s t) n rest), DeadItem)

-- what a name carries by a disposition, and the store after it is taken
unfoldable pub take_item : Store → ℕ → ℕ → Disp → Reply → Try (Store × Item)
take_item s t n x fault =
    if n == port_null then Ok (s, NullItem)
    else if n == port_dead then Ok (s, DeadItem)
    else take_named s t n x fault (dead_taken (get (space s t) n) x)

-- the same for the reply port; a message may have no disposition for it
abbrev pub take_reply_by : Store → ℕ → ℕ → Option Disp → Reply → Try (Store × Item)
take_reply_by s t n (Some x) fault = take_item s t n x fault
take_reply_by s t n None fault =
    if n == port_null then Ok (s, NullItem) else if n == port_dead then Ok (s, DeadItem)
    else Err fault

-- the slot admits the class of the port, and a sender of class `own` may send the right; i is the
-- argument's number
abbrev pub admit_item : Wiring → ℕ → Store → ℕ → ℕ → Item → Try (Unit {0})
admit_item W own s sort i NullItem = Ok tt
admit_item W own s sort i DeadItem = Ok tt
admit_item W own s sort i (RightItem p r) = do
  x ← or_refuse (get s.ports p) (Refused MachSendInvalidRight)
  check (admits W sort x.class) (DeniedBy (NotAdmitted i))
  check (may W Sends own r x.class) (DeniedBy (NotSent i))

-- the names of one argument, in order
abbrev pub take_items : Wiring → ℕ → ℕ → Disp → ℕ → ℕ → Store → List ℕ → Try (Store × List Item)
take_items W own t x sort i s [] = Ok (s, [])
take_items W own t x sort i s (n ∷ ns) = do
  (s1, item) ← take_item s t n x (Refused MachSendInvalidRight)
  admit_item W own s1 sort i item
  (s2, items) ← take_items W own t x sort i s1 ns
  Ok (s2, item ∷ items)

-- one argument
abbrev pub take_arg : Wiring → ℕ → ℕ → ℕ → ℕ → Store → Arg → Try (Store × QueuedArg)
take_arg W own t sort i s (Data name size number bytes) = Ok (s, QueuedData name size number bytes)
take_arg W own t sort i s (Ports disp names) = do
  x ← or_refuse (disp_of_number disp) (Refused MachSendInvalidRight)
  (s1, items) ← take_items W own t x sort i s names
  Ok (s1, QueuedItems (given x) items)

-- the type of the first shape
abbrev pub first_sort : List Shape → ℕ
first_sort [] = 0
first_sort (s ∷ ss) = s.sort

-- the shapes after the first
abbrev pub rest_of : List Shape → List Shape
rest_of [] = []
rest_of (s ∷ ss) = ss

-- all arguments, in order; the shapes tell their types
abbrev pub take_args : Wiring → ℕ → ℕ → ℕ → List Shape → Store → List Arg
    → Try (Store × List QueuedArg)
take_args W own t i shapes s [] = Ok (s, [])
take_args W own t i shapes s (a ∷ more) = do
  (s1, arg) ← take_arg W own t (first_sort shapes) i s a
  (s2, args) ← take_args W own t (i + 1) (rest_of shapes) s1 more
  Ok (s2, arg ∷ args)

-- a reply right on a port of this class, if it is live, fits the request with this id to class d
abbrev pub fits_port : Wiring → ℕ → ℕ → Option ℕ → Bool
fits_port W d id None = true
fits_port W d id (Some c) = fits_at W d id c

-- the same for what the name of the reply port carries: null and dead fit
abbrev pub fits_item : Wiring → Store → ℕ → ℕ → Item → Bool
fits_item W s d id NullItem = true
fits_item W s d id DeadItem = true
fits_item W s d id (RightItem p r) = fits_port W d id (class_of s p)

-- every disposition but that which moves a receive right
abbrev pub not_receive : Disp → Bool
not_receive MoveReceive = false
not_receive MoveSend = true
not_receive MoveSendOnce = true
not_receive CopySend = true
not_receive MakeSend = true
not_receive MakeSendOnce = true

-- the form, or the filter's refusal as a reply
abbrev pub by_filter : Result Form Denied → Try Form
by_filter (Ok f) = Ok f
by_filter (Err d) = Err (DeniedBy d)

-- First the destination's right is taken, then the filter judges, then the reply right and the
-- arguments are taken, each from what the takings before it left; the reply port has to fit, and
-- the sender to be trusted to send each right. A full queue takes a message only through a
-- send-once right.
unfoldable pub call_send : Wiring → World → ℕ → Message → Try (World × Reply)
call_send W w t m = do
  x ← or_refuse (disp_of_number m.remote_disp) (Refused MachSendInvalidDest)
  check (not_receive x) (Refused MachSendInvalidDest)
  (s1, d) ← take w.store t m.remote x (Refused MachSendInvalidDest) (Refused MachSendInvalidDest)
  dest ← or_refuse (get s1.ports d) (Refused MachSendInvalidDest)
  form ← by_filter (judge W dest.class m)
  (s2, reply) ← take_reply_by s1 t m.local (disp_of_number m.local_disp)
      (Refused MachSendInvalidReply)
  check (fits_item W w.store dest.class m.id reply) (DeniedBy ReplySlot)
  check (may_item W w.store Replies (task_class w t) reply) (DeniedBy NotForReply)
  (s3, args) ← take_args W (task_class w t) t 0 (form_shapes form) s2 m.args
  refuse_if (not (is_once (given x)) && nat_le dest.limit (length dest.queue))
      (Refused MachSendTimedOut)
  let parcel : Parcel =
      record { by_once = is_once (given x); id = m.id; reply = reply; args = args }
  Ok (with_store w (append s3 d parcel), Done)
