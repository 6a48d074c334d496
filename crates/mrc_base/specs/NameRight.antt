-- Believe. Which of a name's five rights a right on a port is. From Mach 3 Kernel Interfaces,
-- mach_port_right_t.
use Rattle.mrc_base.specs.declared.Right.{Right}
use Rattle.mrc_base.specs.declared.Right.TheVariants as name
use Rattle.mrc_base.specs.declared.PortRight.{PortRight}
use Rattle.mrc_base.specs.declared.PortRight.TheVariants.{Send, Receive, SendOnce}

-- the right on a port, among the five that a name can stand for
abbrev pub name_right : PortRight → Right
name_right Send = name.Send
name_right Receive = name.Receive
name_right SendOnce = name.SendOnce
