-- Believe. What an argument is in a message. What an argument of a type is in a message: rights,
-- data of one type number, or data of any kind. What is no slot and has no lawful size and count is
-- data of any kind, by this profile's own choice.
use Rattle.std.specs.Prelude.{ℕ, ◌%◌, List, [], ◌∷◌, Bool, true, false, ◌&&◌, ◌||◌, ◌==◌, Option}
use Rattle.std.specs.Prelude.{Some, None, nat_lt, nat_le, if◌then◌else◌}
use Rattle.mrc_base.specs.Disposition.{is_port_number}
use Rattle.mrc_base.specs.Limits.{limit_of_items}
use Rattle.mrc_model.specs.Wiring.{ItemTypes, AnyData, OneOf}
use Rattle.mrc_mig_types.specs.declared.meaning.Count.{Count}
use Rattle.mrc_mig_types.specs.declared.meaning.Count.TheVariants.{Exactly, AtMost, Either, Away}
use Rattle.mrc_mig_types.specs.declared.meaning.Meaning.{Meaning}
use Rattle.mrc_mig_types.specs.declared.meaning.Tag.{Tag}
use Rattle.mrc_mig_types.specs.declared.meaning.Tag.TheVariants.{Picked, Fixed}
use Rattle.mrc_mig_types.specs.declared.shapes.By.{By}
use Rattle.mrc_mig_types.specs.declared.shapes.By.TheVariants as by
use Rattle.mrc_mig_types.specs.declared.shapes.Rights.{Rights}
use Rattle.mrc_mig_types.specs.declared.shapes.Rights.TheVariants as rights
use Rattle.mrc_mig_types.specs.declared.shapes.Shape.{Shape}
use Rattle.mrc_mig_types.specs.declared.shapes.Shape.TheVariants as shapes

-- the items of an argument, the bits of one and how many there are, or the most that there are;
-- data of any kind have any size and number
pub record Form : Type 0 where
  pub types : ItemTypes
  pub size : ℕ
  pub number : ℕ
  pub is_bound : Bool

-- any data
abbrev pub any_data : Form
any_data = record { types = AnyData; size = 0; number = 0; is_bound = false }

-- each type number
abbrev pub all_numbers : List ℕ
all_numbers =
    0 ∷ 1 ∷ 2 ∷ 3 ∷ 4 ∷ 5 ∷ 6 ∷ 7 ∷ 8 ∷ 9 ∷ 10 ∷ 11 ∷ 12 ∷ 13 ∷ 14 ∷ 15 ∷ 16 ∷ 17 ∷ 18 ∷ 19 ∷ 20
    ∷ 21 ∷ []

-- the dispositions that give a send right, and those that give a send-once right
abbrev pub sends : List ℕ
sends = 17 ∷ 19 ∷ 20 ∷ []

abbrev pub sends_once : List ℕ
sends_once = 18 ∷ 21 ∷ []

-- the dispositions that give the right which is received by this number
abbrev pub given_by : ℕ → List ℕ
given_by n =
    if n == 16 then 16 ∷ []
    else if (n == 17 || n == 19) || n == 20 then sends
    else if n == 18 || n == 21 then sends_once
    else []

-- The type numbers of an argument that is sent with this tag and received with that, where it
-- carries rights. If both are picked, data may be in the place of rights.
abbrev pub right_numbers : Tag → Tag → List ℕ
right_numbers (Fixed n) received = if is_port_number n then n ∷ [] else []
right_numbers Picked Picked = all_numbers
right_numbers Picked (Fixed n) = given_by n

-- a number of items that one message has, 1 to 8,192
abbrev pub items_fit : ℕ → Bool
items_fit n = nat_lt 0 n && nat_le n limit_of_items

-- the same with a word of whether it is the most
abbrev pub fitted : ℕ → Bool → Option (ℕ × Bool)
fitted n is_bound = if items_fit n then Some (n, is_bound) else None

-- how many items there are and whether that is the most, where a message has so many
abbrev pub fitting : Count → Option (ℕ × Bool)
fitting (Exactly n) = fitted n false
fitting (AtMost n) = fitted n true
fitting Either = None
fitting Away = None

-- that, or the most that a message has
abbrev pub or_most : Option (ℕ × Bool) → ℕ × Bool
or_most None = (limit_of_items, true)
or_most (Some found) = found

-- how many rights a slot may carry, and whether that is the most
abbrev pub slot_count : Count → ℕ × Bool
slot_count count = or_most (fitting count)

-- a slot of these rights
abbrev pub slot_of : List ℕ → ℕ × Bool → Form
slot_of numbers count =
    record { types = OneOf numbers; size = 32; number = count.0; is_bound = count.1 }

-- whole bytes, and no more than a descriptor can say
abbrev pub bits_fit : ℕ → Bool
bits_fit bits = nat_lt 0 bits && nat_le bits 65528 && (bits % 8 == 0)

-- data of one type number with this count, where there is one
abbrev pub data_by : ℕ → ℕ → Option (ℕ × Bool) → Form
data_by n bits None = any_data
data_by n bits (Some count) =
    record { types = OneOf (n ∷ []); size = bits; number = count.0; is_bound = count.1 }

-- data of one type number that is no right's, with a lawful size and count; else of any kind
abbrev pub data_of : Tag → ℕ → Count → Form
data_of Picked bits count = any_data
data_of (Fixed n) bits count =
    if nat_le n 15 && bits_fit bits then data_by n bits (fitting count) else any_data

-- a slot, where there are numbers of rights, or else data
abbrev pub form_by : List ℕ → Form → Count → Form
form_by [] other count = other
form_by (n ∷ numbers) other count = slot_of (n ∷ numbers) (slot_count count)

-- an argument whose rights are picked by one tag, and whose data by another
abbrev pub shape_by : Tag → Tag → Meaning → Form
shape_by picks tag found =
    form_by (right_numbers picks found.received) (data_of tag found.bits found.count) found.count

-- an argument of a type: by what is sent, by what is received, or with each disposition that gives
-- the right which is received; of data the number that is sent or received is meant then too
abbrev pub shape_of : Meaning → By → Form
shape_of found by.Sent = shape_by found.sent found.sent found
shape_of found by.Received = shape_by found.received found.received found
shape_of found by.Picked = shape_by Picked found.sent found
shape_of found by.PickedReceived = shape_by Picked found.received found

-- the type numbers that code keeps
abbrev pub numbers_of : Rights → List ℕ
numbers_of rights.Nothing = []
numbers_of (rights.Only n) = n ∷ []
numbers_of rights.Send = sends
numbers_of rights.SendOnce = sends_once
numbers_of rights.Any = all_numbers

-- the form that code keeps
abbrev pub form_of : Shape → Form
form_of shapes.AnyData = any_data
form_of (shapes.Data n bits count is_bound) =
    record { types = OneOf (n ∷ []); size = bits; number = count; is_bound = is_bound }
form_of (shapes.Slot picks count is_bound) = slot_of (numbers_of picks) (count, is_bound)
