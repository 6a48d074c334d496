-- Step. Queued arguments in code. Arguments of queued messages in code, read as the definitions';
-- and what a queued message is at all times. This profile's own choice.
use Rattle.std.specs.Prelude.{ℕ, ◌+◌, List, length, map, flat_map}
use Rattle.mrc_ports.specs.declared.parcel.QueuedArgument.{QueuedArgument}
use Rattle.mrc_ports.specs.declared.parcel.QueuedArgument.TheVariants.{Data, Items}
use Rattle.mrc_model.specs.declared.Item.{Item}
use Rattle.mrc_model.specs.Rights.{given_number}
use Rattle.mrc_model.specs.Message.{Arg, arg_bytes}
use Rattle.mrc_model.specs.Message as message
use Rattle.mrc_model.specs.World.{QueuedArg, QueuedData, QueuedItems}
use Rattle.mrc_model.specs.Death.{perished_item}
use Rattle.mrc_desc.specs.Lawful.{AreLawful}

-- an argument of a queued message
abbrev pub queued_of : QueuedArgument → QueuedArg
queued_of (Data desc bytes) = QueuedData desc.name desc.size desc.number bytes
queued_of (Items right items) = QueuedItems right items

-- the same, where these ports are dead
abbrev pub perished_argument : List ℕ → QueuedArgument → QueuedArgument
perished_argument dead (Data desc bytes) = Data desc bytes
perished_argument dead (Items right items) = Items right (map (perished_item dead) items)

-- a name that stands for no right, for each item
abbrev pub no_names : List Item → List ℕ
no_names items = map (λ item. 0) items

-- the argument as it is received, but with no names
abbrev pub unnamed : QueuedArg → Arg
unnamed (QueuedData name size number bytes) = message.Data name size number bytes
unnamed (QueuedItems right items) = message.Ports (given_number right) (no_names items)

-- a message has room for the arguments, whatever names their rights get
abbrev pub AreCarried : List QueuedArg → Type 0
AreCarried args = AreLawful (map unnamed args)

-- how many bytes a message with these arguments is written as, whatever names their rights get
abbrev pub carried_size : List QueuedArg → ℕ
carried_size args = 24 + length (flat_map arg_bytes (map unnamed args))
