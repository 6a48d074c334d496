-- Believe. What a descriptor may say. From Mach 3 Kernel Interfaces, mach_msg_type_t. Which names
-- and sizes are refused is this profile's own choice.
use Rattle.std.specs.Prelude.{ℕ, ◌*◌, ◌/◌, ◌%◌, ◌-◌, ◌^◌, Bool, List, nat_lt, nat_le, ◌==◌, ◌&&◌}
use Rattle.std.specs.Prelude.{◌||◌}
use Rattle.std.specs.Int.{w16, w32, from_le_bytes}
use Rattle.mrc_desc.specs.declared.argument.Desc.{Desc}
use Rattle.mrc_desc.specs.declared.argument.FirstWord.{FirstWord}

-- the names go up to that of the last disposition; a size is a multiple of eight bits and not 0,
-- and that of a port name is 32 bits
abbrev pub is_lawful_desc : Desc → Bool
is_lawful_desc desc =
    (nat_lt 0 desc.size && (desc.size % 8 == 0))
    && (nat_lt desc.name 16 || (nat_le desc.name 21 && (desc.size == 32)))

-- the short form has room for it
abbrev pub is_short : Desc → Bool
is_short desc = nat_le desc.name 255 && (nat_le desc.size 255 && nat_le desc.number 4095)

-- how many bytes the data of a descriptor has
abbrev pub data_len : Desc → ℕ
data_len desc = desc.number * desc.size / 8

-- how many bytes of padding follow data of this length, up to a multiple of four
abbrev pub padding_len : ℕ → ℕ
padding_len len = (4 - len % 4) % 4

-- the number that the first two bytes make, the low one first
abbrev pub half_at : List ℕ → ℕ
half_at bytes = from_le_bytes w16 bytes

-- the number that the first four bytes make, the low one first
abbrev pub word_at : List ℕ → ℕ
word_at bytes = from_le_bytes w32 bytes

-- the low bits first: the name and the size, eight bits each, twelve bits of the number, and four
-- bits
abbrev pub first_word : ℕ → FirstWord
first_word word = record {
  name = word % 256;
  size = word / 256 % 256;
  number = word / 65536 % 4096;
  inline = word / 2 ^ 28 % 2 == 1;
  longform = word / 2 ^ 29 % 2 == 1;
  deallocate = word / 2 ^ 30 % 2 == 1;
  unused = word / 2 ^ 31 % 2 == 1;
}
