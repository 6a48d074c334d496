-- Believe. Only `fault_reply`. From Mach 3 Kernel Interfaces, mach_msg.
use Rattle.std.specs.Prelude.{ℕ, Ok}
use Rattle.mrc_base.specs.declared.Disp.{Disp}
use Rattle.mrc_model.specs.declared.Code.TheVariants.{MachSendInvalidRight}
use Rattle.mrc_model.specs.declared.Denied.TheVariants.{ReplySlot, NotForReply}
use Rattle.mrc_model.specs.declared.Verb.TheVariants.{Replies}
use Rattle.mrc_model.specs.declared.Item.{Item}
use Rattle.mrc_model.specs.Wiring.{Wiring}
use Rattle.mrc_model.specs.World.{Store}
use Rattle.mrc_model.specs.Reply as model
use Rattle.mrc_model.specs.Reply.{Try, ◌>>=◌, ◌>>◌, check}
use Rattle.mrc_model.specs.Trust.{may_item}
use Rattle.mrc_model.specs.CallSend.{take_item, admit_item, fits_item}
use Rattle.mrc_transit.specs.declared.sending.SendFault.{SendFault}
use Rattle.mrc_transit.specs.declared.sending.SendFault.TheVariants as faults

-- the reply that tells it
abbrev pub fault_reply : SendFault → model.Reply
fault_reply (faults.Refused code) = model.Refused code
fault_reply (faults.Denied denied) = model.DeniedBy denied

-- one name of an argument: what it carries is taken, the slot has to admit it, and a sender of
-- class `own` has to be trusted to send it
unfoldable pub take_admitted : Wiring → ℕ → ℕ → Disp → ℕ → ℕ → Store → ℕ → Try (Store × Item)
take_admitted W own t x sort i s n = do
  (s1, item) ← take_item s t n x (model.Refused MachSendInvalidRight)
  admit_item W own s1 sort i item
  Ok (s1, item)

-- what the reply port's name carries, in a request with this id to class d from a sender of class
-- `own`: it has to fit, and the sender to be trusted to name it
unfoldable pub judge_reply : Wiring → Store → ℕ → ℕ → ℕ → Item → Try (Unit {0})
judge_reply W s own d id item =
    check (fits_item W s d id item) (model.DeniedBy ReplySlot)
    >> check (may_item W s Replies own item) (model.DeniedBy NotForReply)
