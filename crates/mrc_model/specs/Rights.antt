-- Believe. Tests on rights. From Mach 3 Kernel Interfaces, "Port rights" and "Messages"
-- (mach_msg_type_name_t).
use Rattle.std.specs.Prelude.{ℕ, Bool, true, false}
use Rattle.mrc_base.specs.declared.PortRight.{PortRight}
use Rattle.mrc_base.specs.declared.PortRight.TheVariants.{Send, Receive, SendOnce}
use Rattle.mrc_base.specs.declared.Disp.{Disp}
use Rattle.mrc_base.specs.declared.Disp.TheVariants.{MoveReceive, MoveSend, MoveSendOnce}
use Rattle.mrc_base.specs.Disposition.{disp_number}

-- the receive right
abbrev pub is_receive : PortRight → Bool
is_receive Receive = true
is_receive Send = false
is_receive SendOnce = false

-- a send-once right
abbrev pub is_once : PortRight → Bool
is_once SendOnce = true
is_once Send = false
is_once Receive = false

-- the rights are the same
abbrev pub same_right : PortRight → PortRight → Bool
same_right Send Send = true
same_right Receive Receive = true
same_right SendOnce SendOnce = true
same_right r q = false

-- the disposition that moves the right
abbrev pub moving : PortRight → Disp
moving Receive = MoveReceive
moving Send = MoveSend
moving SendOnce = MoveSendOnce

-- the number that a receiver sees for a right that it was given
abbrev pub given_number : PortRight → ℕ
given_number r = disp_number (moving r)
