-- Believe. Messages, and the bytes that they are written as. A message as a task writes and reads
-- it: a header, and arguments in which port rights stand as names; and the bytes that such a
-- message is written as. From Mach 3 Kernel Interfaces, "Messages" (mach_msg_header_t,
-- mach_msg_type_t, mach_msg_type_long_t). The choice between the short and the long descriptor is
-- this profile's own.
use Rattle.std.specs.Prelude.{ℕ, ◌+◌, ◌*◌, ◌/◌, ◌%◌, ◌-◌, ◌^◌, Bool, true, false, List, [], ◌∷◌}
use Rattle.std.specs.Prelude.{◌++◌, length, flat_map, replicate, nat_le, ◌&&◌, ◌||◌, if◌then◌else◌}

-- An argument of a body. As in mach_msg_type_t, `name` is the type number, `size` the bits of an
-- item and `number` how many items there are.
pub data Arg : Type 0 where
  -- items of data, as their bytes
  Data : (name size number : ℕ) → (bytes : List ℕ) → Arg
  -- port rights, by the names that the task has for them; the type number is that of a disposition
  Ports : (disp : ℕ) → (names : List ℕ) → Arg

-- A message with its header. `remote` and `local` are the names of the destination and of the reply
-- port, and `remote_disp` and `local_disp` the numbers of their dispositions.
pub record Message : Type 0 where
  pub remote_disp : ℕ
  pub local_disp : ℕ
  pub remote : ℕ
  pub local : ℕ
  pub seqno : ℕ
  pub id : ℕ
  pub args : List Arg

-- a number as four bytes, the low one first
abbrev pub word : ℕ → List ℕ
word n = n % 256 ∷ n / 256 % 256 ∷ n / 65536 % 256 ∷ n / 16777216 % 256 ∷ []

-- a number as two bytes, the low one first
abbrev pub half : ℕ → List ℕ
half n = n % 256 ∷ n / 256 % 256 ∷ []

-- zeros up to a multiple of four
abbrev pub padded : List ℕ → List ℕ
padded bytes = bytes ++ replicate ((4 - length bytes % 4) % 4) 0

-- the short descriptor is one word; the long one has a word, the name and the size as halves, and
-- the number as a word
abbrev pub descriptor : ℕ → ℕ → ℕ → List ℕ
descriptor name size number =
    if nat_le name 255 && (nat_le size 255 && nat_le number 4095)
    then word (name + 256 * size + 65536 * number + 2 ^ 28)
    else word (2 ^ 28 + 2 ^ 29) ++ half name ++ half size ++ word number

-- the bytes of an argument: its descriptor, and its data padded, or names of ports
abbrev pub arg_bytes : Arg → List ℕ
arg_bytes (Data name size number bytes) = descriptor name size number ++ padded bytes
arg_bytes (Ports disp names) = descriptor disp 32 (length names) ++ flat_map word names

-- the argument has port rights
abbrev pub is_port_arg : Arg → Bool
is_port_arg (Data name size number bytes) = false
is_port_arg (Ports disp names) = true

-- some argument has port rights
abbrev pub any_port_arg : List Arg → Bool
any_port_arg [] = false
any_port_arg (arg ∷ more) = is_port_arg arg || any_port_arg more

-- the size of the message in bytes, with its header
abbrev pub written_size : Message → ℕ
written_size m = 24 + length (flat_map arg_bytes m.args)

-- the bytes of a message: the complex bit stands exactly where an argument has port rights
abbrev pub written : Message → List ℕ
written m =
    word (m.remote_disp + 256 * m.local_disp + (if any_port_arg m.args then 2 ^ 31 else 0))
    ++ word (written_size m) ++ word m.remote ++ word m.local ++ word m.seqno ++ word m.id
    ++ flat_map arg_bytes m.args
