-- Believe. Which messages the format has room for. From Mach 3 Kernel Interfaces, "Messages". The
-- limit of a message's bytes is this profile's own choice.
use Rattle.std.specs.Prelude.{◌≡◌, ℕ, ◌+◌, ◌*◌, ◌/◌, ◌%◌, ◌^◌, ◌<◌, ◌≤◌, Bool, List, length}
use Rattle.std.specs.Prelude.{flat_map}
use Rattle.std.specs.Prelude.{nat_le, ◌==◌, ◌&&◌, ◌||◌}
use Rattle.std.specs.List.{AllByRecursion}
use Rattle.mrc_base.specs.Limits.{limit_of_message}
use Rattle.mrc_model.specs.Message.{Arg, Data, Ports, Message, arg_bytes}

-- items of data: a name of data, whole bytes in an item, and as many bytes as the items have
pub record IsLawfulData (name size number : ℕ) (bytes : List ℕ) : Type 0 where
  pub data_name : name < 16
  pub some_bits : 0 < size
  pub whole_bytes : size % 8 ≡ 0
  pub size_fits : size < 2 ^ 16
  pub number_fits : number < 2 ^ 32
  pub all_items : length bytes ≡ number * size / 8

-- port rights: a disposition, and their names
pub record IsLawfulPorts (name : ℕ) (names : List ℕ) : Type 0 where
  pub least : 16 ≤ name
  pub most : name ≤ 21
  pub number_fits : length names < 2 ^ 32
  pub names_fit : AllByRecursion (λ name. name < 2 ^ 32) names

-- an argument that the format has room for
abbrev pub IsLawfulArg : Arg → Type 0
IsLawfulArg (Data name size number bytes) = IsLawfulData name size number bytes
IsLawfulArg (Ports name names) = IsLawfulPorts name names

-- arguments that a message has room for
abbrev pub AreLawful : List Arg → Type 0
AreLawful args =
    AllByRecursion IsLawfulArg args × (24 + length (flat_map arg_bytes args) ≤ limit_of_message)

-- each number of the header fits its field
pub record HeaderFits (m : Message) : Type 0 where
  pub remote_disp : m.remote_disp < 2 ^ 8
  pub local_disp : m.local_disp < 2 ^ 8
  pub remote : m.remote < 2 ^ 32
  pub local : m.local < 2 ^ 32
  pub seqno : m.seqno < 2 ^ 32
  pub id : m.id < 2 ^ 32

-- a message that can be written, whatever its dispositions: the header has room for its numbers,
-- and the message for its arguments
pub record IsLawful (m : Message) : Type 0 where
  pub header : HeaderFits m
  pub args : AreLawful m.args

-- A sent message names its destination by any disposition but that of a receive right, and its
-- reply port too. Without a disposition the reply port's name is 0 as well.
abbrev pub is_admitted : (remote_disp local_disp local : ℕ) → Bool
is_admitted remote_disp local_disp local =
    (nat_le 17 remote_disp && nat_le remote_disp 21)
    && (((local_disp == 0) && (local == 0)) || (nat_le 17 local_disp && nat_le local_disp 21))
