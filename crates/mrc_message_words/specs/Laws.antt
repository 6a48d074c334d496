-- Law. What holds of messages and of what is said. This profile's own choice.
use Rattle.std.specs.Prelude.{◌≡◌, List, Ok}
use Rattle.mrc_model.specs.Message.{Message, written}
use Rattle.mrc_desc.specs.Reading.{message_at}
use Rattle.mrc_forms.specs.Tables.{Table}
use Rattle.mrc_message_words.specs.Spoken.{Said, IsSpoken}

-- what is said is one message at most
abbrev pub SaysOneMessage : Type 0
SaysOneMessage =
    (tables : List Table) (said : Said) (m n : Message)
    → IsSpoken tables said m → IsSpoken tables said n → m ≡ n

-- a message is said in one way at most of a routine
abbrev pub IsSaidInOneWay : Type 0
IsSaidInOneWay =
    (tables : List Table) (said other : Said) (m : Message)
    → said.kind ≡ other.kind → said.interface ≡ other.interface → said.routine ≡ other.routine
    → IsSpoken tables said m → IsSpoken tables other m → said ≡ other

-- what is written of a message that is said is read as that message
abbrev pub SpokenIsRead : Type 0
SpokenIsRead =
    (tables : List Table) (said : Said) (m : Message)
    → IsSpoken tables said m → message_at (written m) ≡ Ok m
