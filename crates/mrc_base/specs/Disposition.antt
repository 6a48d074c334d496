-- Believe. What a disposition needs and gives, and its number. The dispositions: their numbers,
-- what each needs of the name that a right is taken from, and what it gives. From Mach 3 Kernel
-- Interfaces, "Port rights" and mach_msg_type_name_t.
use Rattle.std.specs.Prelude.{◌≡◌, ◌↔◌, ℕ, Bool, ◌&&◌, ◌==◌, nat_le}
use Rattle.std.specs.Prelude.{Option, Some, None, is_some, if◌then◌else◌}
use Rattle.mrc_base.specs.declared.PortRight.{PortRight}
use Rattle.mrc_base.specs.declared.PortRight.TheVariants.{Send, Receive, SendOnce}
use Rattle.mrc_base.specs.declared.Disp.{Disp}
use Rattle.mrc_base.specs.declared.Disp.TheVariants.{MoveReceive, MoveSend, MoveSendOnce, CopySend}
use Rattle.mrc_base.specs.declared.Disp.TheVariants.{MakeSend, MakeSendOnce}

-- the right that the holder has to have
abbrev pub needed : Disp → PortRight
needed MoveReceive = Receive
needed MoveSend = Send
needed MoveSendOnce = SendOnce
needed CopySend = Send
needed MakeSend = Receive
needed MakeSendOnce = Receive

-- the right that the receiver gets
abbrev pub given : Disp → PortRight
given MoveReceive = Receive
given MoveSend = Send
given MoveSendOnce = SendOnce
given CopySend = Send
given MakeSend = Send
given MakeSendOnce = SendOnce

-- the number that stands for the disposition in a header or a descriptor
abbrev pub disp_number : Disp → ℕ
disp_number MoveReceive = 16
disp_number MoveSend = 17
disp_number MoveSendOnce = 18
disp_number CopySend = 19
disp_number MakeSend = 20
disp_number MakeSendOnce = 21

-- the disposition that a number stands for
abbrev pub disp_of_number : ℕ → Option Disp
disp_of_number number =
    if number == 16 then Some MoveReceive
    else if number == 17 then Some MoveSend
    else if number == 18 then Some MoveSendOnce
    else if number == 19 then Some CopySend
    else if number == 20 then Some MakeSend
    else if number == 21 then Some MakeSendOnce
    else None

-- the number of a type of port rights is that of a disposition
abbrev pub is_port_number : ℕ → Bool
is_port_number number = nat_le 16 number && nat_le number 21

-- the two tables are one: a number stands for a disposition exactly where it is that disposition's
abbrev pub NumbersAreDispositions : Type 0
NumbersAreDispositions = (number : ℕ) (disp : Disp) →
    (disp_of_number number ≡ Some disp) ↔ (disp_number disp ≡ number)

-- the numbers that stand for a disposition are those of port rights
abbrev pub PortNumbersAreDispositions : Type 0
PortNumbersAreDispositions = (number : ℕ) → is_some (disp_of_number number) ≡ is_port_number number
