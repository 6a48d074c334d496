-- Believe. How the fields of a struct lie, and the items it is sent as. How the fields of a struct
-- lie, by C's rules on i386, and the items as which GNU MIG's stubs send it where addresses have 32
-- bits. That a struct with a field of no length has no length is this profile's own choice.
use Rattle.std.specs.Prelude.{◌≡◌, ℕ, ◌+◌, ◌*◌, ◌/◌, ◌==◌, List, [], ◌∷◌, true, false, Option, Some}
use Rattle.std.specs.Prelude.{None, option_and_then, option_map, min, max, if◌then◌else◌}
use Rattle.std.specs.Int.{next_multiple_of}
use Rattle.std.specs.List.{fold}
use Rattle.mrc_mig_types.specs.declared.layout.Field.{Field}
use Rattle.mrc_mig_types.specs.declared.layout.Laid.{Laid}
use Rattle.mrc_mig_types.specs.declared.layout.TheConstants.{TOO_LARGE}
use Rattle.mrc_mig_types.specs.declared.meaning.Count.{Count}
use Rattle.mrc_mig_types.specs.declared.meaning.Count.TheVariants.{Exactly, AtMost, Either, Away}
use Rattle.mrc_mig_types.specs.declared.meaning.Meaning.{Meaning}
use Rattle.mrc_mig_types.specs.declared.meaning.Tag.TheVariants.{Fixed}
use Rattle.mrc_mig_types.specs.Meanings.{counted, exactly}

-- how many bytes so many items of so many bits have, rounded up
abbrev pub bytes_of : ℕ → ℕ → ℕ
bytes_of number bits = (number * bits + 7) / 8

-- so many bytes that begin at a multiple of an alignment, which is not 0
abbrev pub placed : ℕ → ℕ → Option Field
placed bytes alignment =
    if alignment == 0 then None else Some (record { bytes = bytes; alignment = alignment })

-- a field of so many items: of at most so many it has room for the most
abbrev pub field_by : Count → Meaning → Option Field
field_by (Exactly n) found = placed (bytes_of n found.bits) found.alignment
field_by (AtMost n) found = placed (bytes_of n found.bits) found.alignment
field_by Either found = None
field_by Away found = None

-- the field that a type is, if it is known and has a length and an alignment
abbrev pub field_of : Option Meaning → Option Field
field_of None = None
field_of (Some found) = field_by found.count found

-- the fields that types are, if each is one
abbrev pub all_fields_of : List (Option Meaning) → Option (List Field)
all_fields_of [] = Some []
all_fields_of (found ∷ others) =
    option_and_then (λ field. option_map (λ fields. field ∷ fields) (all_fields_of others))
    (field_of found)

-- where a field begins that stands behind so many bytes: at the least multiple of its alignment
abbrev pub place_of : ℕ → Field → ℕ
place_of bytes field = next_multiple_of bytes field.alignment

-- where the last of the fields ends
abbrev pub end_of : List Field → ℕ
end_of fields = fold (λ bytes field. place_of bytes field + field.bytes) 0 fields

-- the alignment of a struct: the largest of its fields
abbrev pub alignment_of : List Field → ℕ
alignment_of fields = fold (λ most field. max most field.alignment) 1 fields

-- how many bytes a struct has: its end is padded to its alignment
abbrev pub size_of : List Field → ℕ
size_of fields = next_multiple_of (end_of fields) (alignment_of fields)

-- the bytes of the items that a struct is sent as
abbrev pub unit_of : ℕ → ℕ
unit_of alignment = if alignment == 4 then 4 else if alignment == 2 then 2 else 1

-- the type number of items of so many bytes: INTEGER_32, INTEGER_16 or BYTE
abbrev pub number_of : ℕ → ℕ
number_of bytes = if bytes == 4 then 2 else if bytes == 2 then 1 else 9

-- a struct of these fields as it is sent: so many numbers or bytes as fill it, which carry no right
abbrev pub whole_of : List Field → Meaning
whole_of fields = let unit = unit_of (alignment_of fields) in record {
  sent = Fixed (number_of unit);
  received = Fixed (number_of unit);
  bits = unit * 8;
  count = exactly (counted (size_of fields / unit));
  alignment = alignment_of fields;
}

-- data of no length
abbrev pub no_length : Meaning
no_length = record {
  sent = Fixed 0;
  received = Fixed 0;
  bits = 0;
  count = Away;
  alignment = 0;
}

-- a struct of these fields, if each is one
abbrev pub struct_by : Option (List Field) → Meaning
struct_by None = no_length
struct_by (Some fields) = whole_of fields

-- what a struct means whose fields are of these types: one that is not known, or has no length,
-- leaves it without one
abbrev pub struct_of : List (Option Meaning) → Meaning
struct_of found = struct_by (all_fields_of found)

-- what code keeps of these fields
abbrev pub IsLaid : Option (List Field) → Laid → Type 0
IsLaid (Some fields) laid =
    (laid.has_length ≡ true)
    × (laid.size ≡ min (end_of fields) TOO_LARGE)
    × (laid.alignment ≡ alignment_of fields)
IsLaid None laid = laid.has_length ≡ false
