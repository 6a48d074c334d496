-- Worked runs for slots of several types and for data of any kind, as
-- theorems by computation.
use Rattle.std.specs.Prelude.{false, [], ◌∷◌, refl}
use Rattle.mrc_base.specs.declared.Right.TheVariants as named
use Rattle.mrc_base.specs.declared.Disp.TheVariants.{MakeSend}
use Rattle.mrc_model.specs.declared.RequestKind.TheVariants.{Simple}
use Rattle.mrc_model.specs.declared.Denied.TheVariants.{WrongShape, WrongDisposition}
use Rattle.mrc_model.specs.Message.{Data, Ports}
use Rattle.mrc_model.specs.Map.{empty, get, insert, alter_all, len, keys}
use Rattle.mrc_model.specs.Wiring.{AnyData, OneOf, Shape, Interface, forms, admits, may}
use Rattle.mrc_model.specs.Wiring.{fits_at}
use Rattle.mrc_model.specs.Filter.{judge}
use Rattle.mrc_model.specs.Reply.{Done, Name, Mask, DeniedBy, Allocate, InsertRight, PortType}
use Rattle.mrc_model.specs.Reply.{◌>>=◌, ◌>>◌, check, refuse_if, or_refuse}
use Rattle.mrc_model.specs.Space.{restart, take, unused, entry_of, give_item, insert_at}
use Rattle.mrc_model.specs.Death.{append}
use Rattle.mrc_model.specs.Target.{target, entry_at}
use Rattle.mrc_model.specs.CallSend.{take_item, call_send}
use Rattle.mrc_model.specs.CallAllocate.{call_allocate}
use Rattle.mrc_model.specs.CallNames.{call_type}
use Rattle.mrc_model.specs.CallInsertRight.{call_insert_right}
use Rattle.mrc_model.specs.Step.{step}
use Rattle.mrc_model.specs.First.{first}
use Rattle.mrc_model.proofs.Samples.{serving, shape, sent, event, Replays}

-- one right that the sender moves, copies or makes: MACH_MSG_TYPE_PORT_SEND
abbrev port_send : Shape
port_send = record (shape 19 32 1 2) { types = OneOf (17 ∷ 19 ∷ 20 ∷ []) }

-- data of any kind
abbrev any_data : Shape
any_data = record { types = AnyData; size = 0; number = 0; is_bound = false; sort = 9 }

-- subsystem give 2200; type any_send_t = MACH_MSG_TYPE_PORT_SEND; type blob_t = ^array [] of char;
-- simpleroutine give(server : mach_port_t; in p : any_send_t; in d : blob_t);
abbrev give : Interface
give = record {
  requests = record { id = 2200; kind = Simple; shapes = port_send ∷ any_data ∷ [] } ∷ [];
  replies = [];
}

-- A slot of several types takes each of them, and no other; data of any kind is any data, and no
-- right.
pub one_of_several_types : Replays (record (serving give) { admitted = [] }) (
    event 0 (Allocate 1 named.Receive 0) (Name 2) ∷
    event 0 (InsertRight 1 2 2 MakeSend) Done ∷
    event 0 (sent 20 2 2200 (Ports 19 (2 ∷ []) ∷ Data 2 32 1 (1 ∷ 0 ∷ 0 ∷ 0 ∷ []) ∷ [])) Done ∷
    event 0 (sent 20 2 2200 (Ports 20 (2 ∷ []) ∷ Data 8 8 3 (65 ∷ 66 ∷ 67 ∷ []) ∷ [])) Done ∷
    event 0 (sent 20 2 2200 (Ports 17 (2 ∷ []) ∷ Data 8 8 0 [] ∷ [])) Done ∷
    event 0 (PortType 1 2) (Mask 131072) ∷
    event 0 (sent 20 2 2200 (Ports 16 (2 ∷ []) ∷ Data 8 8 0 [] ∷ []))
    (DeniedBy (WrongDisposition 0)) ∷
    event 0 (sent 20 2 2200 (Data 2 32 1 (1 ∷ 0 ∷ 0 ∷ 0 ∷ []) ∷ Data 8 8 0 [] ∷ []))
    (DeniedBy (WrongShape 0)) ∷
    event 0 (sent 20 2 2200 (Ports 19 (1 ∷ 1 ∷ []) ∷ Data 8 8 0 [] ∷ []))
    (DeniedBy (WrongShape 0)) ∷
    event 0 (sent 20 2 2200 (Ports 19 (1 ∷ []) ∷ Ports 19 (1 ∷ []) ∷ []))
    (DeniedBy (WrongShape 1)) ∷
    event 0 (sent 20 2 2200 (Ports 19 (1 ∷ []) ∷ [])) (DeniedBy (WrongShape 1)) ∷
    []) 2
unfolding ◌>>=◌ ◌>>◌ check refuse_if or_refuse empty get insert alter_all len keys forms admits may
    fits_at judge restart take unused entry_of give_item insert_at append target entry_at take_item
    call_send call_type call_allocate call_insert_right step first
one_of_several_types = refl
