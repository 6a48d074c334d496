-- Believe. What is prepared of bytes. This profile's own choice.
use Rattle.std.specs.Prelude.{◌≡◌, ℕ, List, Result, Ok, Err}
use Rattle.mrc_desc.specs.Reading.{message_at}
use Rattle.mrc_desc.specs.Spelling.{Spells}
use Rattle.mrc_desc.specs.declared.fault.ReadFault.{ReadFault}
use Rattle.mrc_machine.specs.declared.call.Call.{Call}
use Rattle.mrc_machine.specs.declared.call.Call.TheVariants.{Send}
use Rattle.mrc_model.specs.Message.{Message}

-- the call sends the message that the bytes spell
abbrev pub SendsWhat : List ℕ → Call → Type 0
SendsWhat bytes call = (m : Message) × (Spells bytes m × (call ≡ Send m))

-- the call that sends the message, where one is read, or the fault
abbrev pub sending : Result Message ReadFault → Result Call ReadFault
sending (Ok m) = Ok (Send m)
sending (Err fault) = Err fault

-- the call that sends the message of the bytes, or the first fault of them
abbrev pub prepared : List ℕ → Result Call ReadFault
prepared bytes = sending (message_at bytes)
