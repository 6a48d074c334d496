-- Believe. Basic types. The names of the basic types of MIG (Server Writer's Guide for MIG, and GNU
-- Mach's file of standard types), with the type numbers that are sent and received and the bits of
-- an item.
use Rattle.std.specs.Prelude.{ℕ, List, [], ◌∷◌, Option, Some, None, option_map, codes, Bool, ◌||◌}
use Rattle.std.specs.Prelude.{◌==◌, if◌then◌else◌}
use Rattle.std.specs.Str.{bytes_eq, str_to_ascii_lowercase}
use Rattle.mrc_mig_symbols.specs.Tables.{entry_of}
use Rattle.mrc_mig_types.specs.declared.basics.Basic.{Basic}
use Rattle.mrc_mig_types.specs.declared.basics.Row.{Row}
use Rattle.mrc_mig_types.specs.declared.basics.Row.TheVariants as rows
use Rattle.mrc_mig_types.specs.declared.meaning.Meaning.{Meaning}
use Rattle.mrc_mig_types.specs.declared.meaning.Tag.TheVariants.{Picked, Fixed}
use Rattle.mrc_mig_types.specs.Meanings.{item}

-- the names of basic types: a type number and the bits of an item, or the numbers by which a right
-- is sent and received
abbrev pub named : List (List ℕ × Row)
named =
    (codes "MACH_MSG_TYPE_UNSTRUCTURED", rows.Plain 0 0) ∷
    (codes "MACH_MSG_TYPE_BIT", rows.Plain 0 1) ∷
    (codes "MACH_MSG_TYPE_BOOLEAN", rows.Plain 0 32) ∷
    (codes "MACH_MSG_TYPE_INTEGER_16", rows.Plain 1 16) ∷
    (codes "MACH_MSG_TYPE_INTEGER_32", rows.Plain 2 32) ∷
    (codes "MACH_MSG_TYPE_CHAR", rows.Plain 8 8) ∷
    (codes "MACH_MSG_TYPE_BYTE", rows.Plain 9 8) ∷
    (codes "MACH_MSG_TYPE_INTEGER_8", rows.Plain 9 8) ∷
    (codes "MACH_MSG_TYPE_REAL", rows.Plain 10 0) ∷
    (codes "MACH_MSG_TYPE_INTEGER_64", rows.Plain 11 64) ∷
    (codes "MACH_MSG_TYPE_STRING", rows.Plain 12 0) ∷
    (codes "MACH_MSG_TYPE_STRING_C", rows.Plain 12 0) ∷
    (codes "MACH_MSG_TYPE_PORT_NAME", rows.Plain 15 32) ∷
    (codes "MACH_MSG_TYPE_MOVE_RECEIVE", rows.Right 16 16) ∷
    (codes "MACH_MSG_TYPE_MOVE_SEND", rows.Right 17 17) ∷
    (codes "MACH_MSG_TYPE_MOVE_SEND_ONCE", rows.Right 18 18) ∷
    (codes "MACH_MSG_TYPE_COPY_SEND", rows.Right 19 17) ∷
    (codes "MACH_MSG_TYPE_MAKE_SEND", rows.Right 20 17) ∷
    (codes "MACH_MSG_TYPE_MAKE_SEND_ONCE", rows.Right 21 18) ∷
    (codes "MACH_MSG_TYPE_PORT_RECEIVE", rows.Received 16) ∷
    (codes "MACH_MSG_TYPE_PORT_SEND", rows.Received 17) ∷
    (codes "MACH_MSG_TYPE_PORT_SEND_ONCE", rows.Received 18) ∷
    (codes "MACH_MSG_TYPE_POLYMORPHIC", rows.Picked) ∷ []

-- what a row stands for
abbrev pub basic_by : Row → Basic
basic_by (rows.Plain number bits) =
    record { sent = Fixed number; received = Fixed number; bits = bits }
basic_by (rows.Right sent received) =
    record { sent = Fixed sent; received = Fixed received; bits = 32 }
basic_by (rows.Received received) =
    record { sent = Picked; received = Fixed received; bits = 32 }
basic_by rows.Picked = record { sent = Picked; received = Picked; bits = 0 }

-- the basic type that these bytes name, in their case alone
unfoldable pub basic_of : List ℕ → Option Basic
basic_of bytes = option_map basic_by (entry_of named bytes)

-- `polymorphic`
abbrev pub polymorphic : Basic
polymorphic = record { sent = Picked; received = Picked; bits = 32 }

-- a type number
abbrev pub numbered : ℕ → Basic
numbered n = record { sent = Fixed n; received = Fixed n; bits = 0 }

-- `A | B`: sent as A and received as B, with the bits of A, or of B where A has none
abbrev pub pair_of : Basic → Basic → Basic
pair_of a b = record {
  sent = a.sent;
  received = b.received;
  bits = if a.bits == 0 then b.bits else a.bits;
}

-- one item of a basic type
abbrev pub basic_item : Basic → Meaning
basic_item basic = item basic.sent basic.received basic.bits

-- the bits that are given, or 0 without a value
abbrev pub bits_of : Option ℕ → ℕ
bits_of None = 0
bits_of (Some n) = n

-- `(T, n)`
abbrev pub given_size : Basic → Option ℕ → Meaning
given_size basic n = item basic.sent basic.received (bits_of n)

-- the flags that are no reserved words, in any case
abbrev pub is_flag_name : List ℕ → Bool
is_flag_name bytes =
    bytes_eq (str_to_ascii_lowercase bytes) (codes "notdealloc")
    || bytes_eq (str_to_ascii_lowercase bytes) (codes "retcode")
