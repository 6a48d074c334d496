-- Worked. What types mean, and what arguments of them are. Worked examples: each form of a type of
-- the second edition, laid out by hand, and what an argument of it is in a message.
use Rattle.std.specs.Prelude.{◌≡◌, ℕ, List, [], ◌∷◌, codes, false, true, Option, Some, None, refl}
use Rattle.std.specs.Prelude.{option_map}
use Rattle.mrc_model.specs.Wiring.{OneOf}
use Rattle.mrc_mig_symbols.specs.Tables.{entry_of}
use Rattle.mrc_mig_types.specs.declared.meaning.Count.{Count}
use Rattle.mrc_mig_types.specs.declared.meaning.Count.TheVariants.{Exactly, AtMost, Either, Away}
use Rattle.mrc_mig_types.specs.declared.meaning.Meaning.{Meaning}
use Rattle.mrc_mig_types.specs.declared.meaning.Tag.{Tag}
use Rattle.mrc_mig_types.specs.declared.meaning.Tag.TheVariants.{Picked, Fixed}
use Rattle.mrc_mig_types.specs.declared.layers.Layer.TheVariants as layers
use Rattle.mrc_mig_types.specs.declared.shapes.By.TheVariants as by
use Rattle.mrc_mig_types.specs.Basics.{basic_of, basic_item, polymorphic, numbered, pair_of}
use Rattle.mrc_mig_types.specs.Basics.{given_size}
use Rattle.mrc_mig_types.specs.Layout.{struct_of, no_length}
use Rattle.mrc_mig_types.specs.Meanings.{item, array, bounded, open_array, pointed, string, within}
use Rattle.mrc_mig_types.specs.Shapes.{all_numbers, any_data, shape_of, Form}
use Rattle.mrc_mig_types.specs.Table.{nothing_known, included, declared, type_of, standard_of}
use Rattle.mrc_mig_types.specs.Table.{undeclared}

-- a type by its numbers, bits, count and alignment
abbrev means : Tag → Tag → ℕ → Count → ℕ → Meaning
means sent received bits count alignment = record {
  sent = sent;
  received = received;
  bits = bits;
  count = count;
  alignment = alignment;
}

-- the type that a name of a basic type is
abbrev named : List ℕ → Option Meaning
named bytes = option_map basic_item (basic_of bytes)

-- `MACH_MSG_TYPE_INTEGER_64`: its items begin at a multiple of 4
pub integer_64 : named (codes "MACH_MSG_TYPE_INTEGER_64")
    ≡ Some (means (Fixed 11) (Fixed 11) 64 (Exactly 1) 4)
unfolding basic_of entry_of
integer_64 = refl

-- `MACH_MSG_TYPE_INTEGER_16`
pub integer_16 : named (codes "MACH_MSG_TYPE_INTEGER_16")
    ≡ Some (means (Fixed 1) (Fixed 1) 16 (Exactly 1) 2)
unfolding basic_of entry_of
integer_16 = refl

-- `MACH_MSG_TYPE_BIT`, which has one bit and begins nowhere in a struct
pub bit : named (codes "MACH_MSG_TYPE_BIT") ≡ Some (means (Fixed 0) (Fixed 0) 1 (Exactly 1) 0)
unfolding basic_of entry_of
bit = refl

-- the type number 23
pub number : basic_item (numbered 23) ≡ means (Fixed 23) (Fixed 23) 0 (Exactly 1) 0
number = refl

-- `MACH_MSG_TYPE_COPY_SEND`, which is received as a send right
pub copy_send : named (codes "MACH_MSG_TYPE_COPY_SEND")
    ≡ Some (means (Fixed 19) (Fixed 17) 32 (Exactly 1) 4)
unfolding basic_of entry_of
copy_send = refl

-- `MACH_MSG_TYPE_PORT_SEND_ONCE`, whose number the sender picks
pub port_send_once : named (codes "MACH_MSG_TYPE_PORT_SEND_ONCE")
    ≡ Some (means Picked (Fixed 18) 32 (Exactly 1) 4)
unfolding basic_of entry_of
port_send_once = refl

-- `polymorphic`, and `MACH_MSG_TYPE_POLYMORPHIC`, which has no bits of its own
pub picked : basic_item polymorphic ≡ means Picked Picked 32 (Exactly 1) 4
picked = refl

pub picked_by_name : named (codes "MACH_MSG_TYPE_POLYMORPHIC")
    ≡ Some (means Picked Picked 0 (Exactly 1) 0)
unfolding basic_of entry_of
picked_by_name = refl

-- `MACH_MSG_TYPE_FOO` is no basic type
pub no_basic : basic_of (codes "MACH_MSG_TYPE_FOO") ≡ None
unfolding basic_of entry_of
no_basic = refl

-- `MACH_MSG_TYPE_MAKE_SEND_ONCE | polymorphic`
pub pair : basic_item
    (pair_of (record { sent = Fixed 21; received = Fixed 18; bits = 32 }) polymorphic)
    ≡ means (Fixed 21) Picked 32 (Exactly 1) 4
pair = refl

-- `23 | MACH_MSG_TYPE_CHAR` has the bits of what is received
pub pair_of_number : basic_item
    (pair_of (numbered 23) (record { sent = Fixed 8; received = Fixed 8; bits = 8 }))
    ≡ means (Fixed 23) (Fixed 8) 8 (Exactly 1) 1
pair_of_number = refl

-- `(MACH_MSG_TYPE_REAL, 64)`, and without a value
pub real : given_size (record { sent = Fixed 10; received = Fixed 10; bits = 0 }) (Some 64)
    ≡ means (Fixed 10) (Fixed 10) 64 (Exactly 1) 4
real = refl

pub no_size : given_size (numbered 2) None ≡ means (Fixed 2) (Fixed 2) 0 (Exactly 1) 0
no_size = refl

-- `char`, `short`, `int`, and a right that is copied
abbrev char : Meaning
char = item (Fixed 8) (Fixed 8) 8

abbrev short : Meaning
short = item (Fixed 1) (Fixed 1) 16

abbrev int : Meaning
int = item (Fixed 2) (Fixed 2) 32

abbrev port : Meaning
port = item (Fixed 19) (Fixed 17) 32

-- `array[3] of struct[2] of int`
pub fixed_array : within (layers.Array (Some 3) ∷ layers.Array (Some 2) ∷ []) int
    ≡ means (Fixed 2) (Fixed 2) 32 (Exactly 6) 4
fixed_array = refl

-- `array[2-3] of int`, whose number has no value, and `array[0] of int`
pub no_number : array None int ≡ means (Fixed 2) (Fixed 2) 32 Away 4
no_number = refl

pub no_items : array (Some 0) int ≡ means (Fixed 2) (Fixed 2) 32 Away 4
no_items = refl

-- `array[*:3] of array[2] of int`, and the other way round
pub bounded_array : within (layers.Bounded (Some 3) ∷ layers.Array (Some 2) ∷ []) int
    ≡ means (Fixed 2) (Fixed 2) 32 (AtMost 6) 4
bounded_array = refl

pub bounded_inside : within (layers.Array (Some 2) ∷ layers.Bounded (Some 3) ∷ []) int
    ≡ means (Fixed 2) (Fixed 2) 32 Away 4
bounded_inside = refl

-- `array[*:0] of char`
pub bounded_by_0 : bounded (Some 0) char ≡ means (Fixed 8) (Fixed 8) 8 Either 1
bounded_by_0 = refl

-- `array[] of char`, and `array[] of array[] of char`
pub open_one : open_array char ≡ means (Fixed 8) (Fixed 8) 8 Either 1
open_one = refl

pub open_inside : open_array (open_array char) ≡ means (Fixed 8) (Fixed 8) 8 Away 1
open_inside = refl

-- `^array[] of char`
pub out_of_line : within (layers.Pointer ∷ layers.Open ∷ []) char
    ≡ means (Fixed 8) (Fixed 8) 8 Away 4
out_of_line = refl

-- `c_string[8]` and `c_string[*:9]`, and three of the first
pub fixed_string : string (Some 8) false ≡ means (Fixed 12) (Fixed 12) 8 (Exactly 8) 1
fixed_string = refl

pub bounded_string : string (Some 9) true ≡ means (Fixed 12) (Fixed 12) 8 (AtMost 9) 1
bounded_string = refl

pub strings : array (Some 3) (string (Some 8) false)
    ≡ means (Fixed 12) (Fixed 12) 8 (Exactly 24) 1
strings = refl

-- `struct { char a; int b; short c; }`: three words; two `char`: two bytes; a struct and a port:
-- four words, which carry no right
pub words : struct_of (Some char ∷ Some int ∷ Some short ∷ [])
    ≡ means (Fixed 2) (Fixed 2) 32 (Exactly 3) 4
words = refl

pub bytes : struct_of (Some char ∷ Some char ∷ []) ≡ means (Fixed 9) (Fixed 9) 8 (Exactly 2) 1
bytes = refl

pub port_inside : struct_of (Some (means (Fixed 2) (Fixed 2) 32 (Exactly 3) 4) ∷ Some port ∷ [])
    ≡ means (Fixed 2) (Fixed 2) 32 (Exactly 4) 4
port_inside = refl

-- three `char` and a `short` are three numbers of 16 bits; a string of at most 9 has room for 9
pub half_words : struct_of (Some (array (Some 3) char) ∷ Some short ∷ [])
    ≡ means (Fixed 1) (Fixed 1) 16 (Exactly 3) 2
half_words = refl

pub room_for_most : struct_of (Some (string (Some 9) true) ∷ Some int ∷ [])
    ≡ means (Fixed 2) (Fixed 2) 32 (Exactly 4) 4
room_for_most = refl

-- a field out of line, one of one bit and one that is not known leave a struct without a length
pub away_inside : struct_of (Some int ∷ Some (pointed char) ∷ []) ≡ no_length
away_inside = refl

pub bit_inside : struct_of (Some (item (Fixed 0) (Fixed 0) 1) ∷ []) ≡ no_length
bit_inside = refl

pub unknown_inside : struct_of (Some int ∷ None ∷ []) ≡ no_length
unknown_inside = refl

-- a statement wins over a standard type, in either order
pub declared_wins : type_of (included (declared nothing_known (codes "int64_t") (Some char)))
    (codes "int64_t") ≡ Some char
declared_wins = refl

pub standard_type : type_of (included nothing_known) (codes "int64_t")
    ≡ Some (means (Fixed 11) (Fixed 11) 64 (Exactly 1) 4)
unfolding undeclared standard_of entry_of
standard_type = refl

pub not_included : type_of nothing_known (codes "int64_t") ≡ None
unfolding undeclared standard_of entry_of
not_included = refl

pub standard_ports : type_of (included nothing_known) (codes "mach_port_array_t")
    ≡ Some (means (Fixed 19) (Fixed 17) 32 Either 4)
unfolding undeclared standard_of entry_of
standard_ports = refl

pub made_unknown : type_of (declared nothing_known (codes "int") None) (codes "int") ≡ None
made_unknown = refl

-- ---- arguments in a message

-- so many rights with these numbers
abbrev slot : List ℕ → ℕ → Form
slot numbers count = record { types = OneOf numbers; size = 32; number = count; is_bound = false }

-- a copied right, as it is sent, as it is received, and with each number that gives that
pub one_right : shape_of port by.Sent ≡ slot (19 ∷ []) 1
one_right = refl

pub received_right : shape_of port by.Received ≡ slot (17 ∷ []) 1
received_right = refl

pub each_right : shape_of port by.Picked ≡ slot (17 ∷ 19 ∷ 20 ∷ []) 1
each_right = refl

-- data that is sent as one number and received as another
abbrev two_numbers : Meaning
two_numbers = item (Fixed 2) (Fixed 11) 32

pub data_as_sent : shape_of two_numbers by.Picked
    ≡ record { types = OneOf (2 ∷ []); size = 32; number = 1; is_bound = false }
data_as_sent = refl

pub data_as_received : shape_of two_numbers by.PickedReceived
    ≡ record { types = OneOf (11 ∷ []); size = 32; number = 1; is_bound = false }
data_as_received = refl

-- a right that the sender picks
pub picked_right : shape_of (item Picked (Fixed 18) 32) by.Sent ≡ slot (18 ∷ 21 ∷ []) 1
picked_right = refl

-- `polymorphic`
pub any_right : shape_of (basic_item polymorphic) by.Sent ≡ slot all_numbers 1
any_right = refl

-- what is received as a number that is no right's is none
pub no_right : shape_of (item Picked (Fixed 2) 32) by.Sent ≡ any_data
no_right = refl

-- rights of which there are too many, or any number
pub most_rights : shape_of (array (Some 9000) port) by.Sent
    ≡ record { types = OneOf (19 ∷ []); size = 32; number = 8192; is_bound = true }
most_rights = refl

pub open_rights : shape_of (pointed (open_array port)) by.Sent
    ≡ record { types = OneOf (19 ∷ []); size = 32; number = 8192; is_bound = true }
open_rights = refl

pub bounded_rights : shape_of (bounded (Some 4) port) by.Sent
    ≡ record { types = OneOf (19 ∷ []); size = 32; number = 4; is_bound = true }
bounded_rights = refl

-- plain data
pub plain : shape_of (bounded (Some 4) int) by.Sent
    ≡ record { types = OneOf (2 ∷ []); size = 32; number = 4; is_bound = true }
plain = refl

pub plain_64 : shape_of (item (Fixed 11) (Fixed 11) 64) by.Sent
    ≡ record { types = OneOf (11 ∷ []); size = 64; number = 1; is_bound = false }
plain_64 = refl

-- data of any kind: any number of them, too many, of one bit, and of a number above 21
pub any_number : shape_of (open_array char) by.Sent ≡ any_data
any_number = refl

pub too_many : shape_of (array (Some 9000) char) by.Sent ≡ any_data
too_many = refl

pub one_bit : shape_of (item (Fixed 0) (Fixed 0) 1) by.Sent ≡ any_data
one_bit = refl

pub other_number : shape_of (item (Fixed 23) (Fixed 23) 32) by.Sent ≡ any_data
other_number = refl
