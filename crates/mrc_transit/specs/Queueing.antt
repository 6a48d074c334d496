-- Step. What is queued of a message, by what its names carry. This profile's own choice.
use Rattle.std.specs.Prelude.{◌≡◌, ℕ, ◌+◌, List, [], ◌∷◌, length, take, drop, refl}
use Rattle.mrc_base.specs.declared.PortRight.{PortRight}
use Rattle.mrc_base.specs.declared.PortRight.TheVariants.{Send}
use Rattle.mrc_base.specs.Disposition.{given, disp_of_number}
use Rattle.std.specs.Option.{option_map, unwrap_or}
use Rattle.mrc_model.specs.declared.Item.{Item}
use Rattle.mrc_model.specs.declared.Item.TheVariants.{Null, Dead, Right}
use Rattle.mrc_model.specs.Message.{Arg, Data, Ports}
use Rattle.mrc_model.specs.World.{QueuedArg, QueuedData, QueuedItems}

-- how many names an argument has
abbrev pub names_in : Arg → ℕ
names_in (Data name size number bytes) = 0
names_in (Ports disp names) = length names

-- all of them
abbrev pub names_of : List Arg → ℕ
names_of [] = 0
names_of (a ∷ more) = names_in a + names_of more

-- the right that is given by a disposition of this number
abbrev pub given_by : ℕ → PortRight
given_by disp = unwrap_or (option_map given (disp_of_number disp)) Send

-- the argument, whose names carry the first of these items
abbrev pub queued_by : Arg → List Item → QueuedArg
queued_by (Data name size number bytes) items = QueuedData name size number bytes
queued_by (Ports disp names) items = QueuedItems (given_by disp) (take (length names) items)

-- the arguments, whose names carry these items in order
abbrev pub queued_from : List Arg → List Item → List QueuedArg
queued_from [] items = []
queued_from (a ∷ more) items = queued_by a items ∷ queued_from more (drop (names_in a) items)

-- two names by MACH_MSG_TYPE_MOVE_SEND, and data between them and one more
two_then_one :
    queued_from (Ports 17 (5 ∷ 6 ∷ []) ∷ Data 2 32 0 [] ∷ Ports 20 (7 ∷ []) ∷ [])
    (Null ∷ Dead ∷ Right 3 Send ∷ [])
    ≡ QueuedItems Send (Null ∷ Dead ∷ []) ∷ QueuedData 2 32 0 []
    ∷ QueuedItems Send (Right 3 Send ∷ []) ∷ []
two_then_one = refl
