-- Believe. The types that are known by name. Those of MIG itself and those of the file of standard
-- types are GNU Mach's where addresses have 32 bits. That a statement wins over both, and that a
-- type which cannot be read is unknown, is this profile's own choice.
use Rattle.std.specs.Prelude.{ℕ, List, [], ◌∷◌, Bool, true, false, Option, Some, None, codes}
use Rattle.std.specs.Prelude.{option_map, if◌then◌else◌}
use Rattle.std.specs.BTreeMap.{get_by}
use Rattle.std.specs.Cmp.Lexicographic.{slice_cmp}
use Rattle.std.specs.Ordering.{nat_cmp}
use Rattle.std.specs.Str.{bytes_eq}
use Rattle.mrc_mig_symbols.specs.Tables.{entry_of}
use Rattle.mrc_mig_types.specs.declared.meaning.Meaning.{Meaning}
use Rattle.mrc_mig_types.specs.declared.meaning.Tag.TheVariants.{Picked, Fixed}
use Rattle.mrc_mig_types.specs.declared.table.Types.{Types}
use Rattle.mrc_mig_types.specs.declared.basics.Row.{Row}
use Rattle.mrc_mig_types.specs.declared.basics.Row.TheVariants as rows
use Rattle.mrc_mig_types.specs.Basics.{basic_by, basic_item}
use Rattle.mrc_mig_types.specs.Meanings.{item, open_array, pointed}

-- what statements declare: under a name a type, or that it is unknown
abbrev pub Declared : Type 0
Declared = List ℕ → Option (Option Meaning)

-- what a text knows of types: what statements declare, and whether the standard types are included
pub record Known : Type 0 where
  pub declared : Declared
  pub is_included : Bool

-- the types of MIG itself: they need no statement
abbrev pub built_in : List (List ℕ × Row)
built_in =
    (codes "char", rows.Plain 8 8) ∷
    (codes "short", rows.Plain 1 16) ∷
    (codes "int", rows.Plain 2 32) ∷
    (codes "uintptr_t", rows.Plain 2 32) ∷
    (codes "intptr_t", rows.Plain 2 32) ∷ []

-- the types of the file of standard types that are one item
abbrev pub standard : List (List ℕ × Row)
standard =
    (codes "int32_t", rows.Plain 2 32) ∷
    (codes "uint32_t", rows.Plain 2 32) ∷
    (codes "unsigned", rows.Plain 2 32) ∷
    (codes "integer_t", rows.Plain 2 32) ∷
    (codes "natural_t", rows.Plain 2 32) ∷
    (codes "kern_return_t", rows.Plain 2 32) ∷
    (codes "rpc_long_natural_t", rows.Plain 2 32) ∷
    (codes "rpc_long_integer_t", rows.Plain 2 32) ∷
    (codes "long_natural_t", rows.Plain 2 32) ∷
    (codes "long_integer_t", rows.Plain 2 32) ∷
    (codes "mach_port_right_t", rows.Plain 2 32) ∷
    (codes "mach_port_type_t", rows.Plain 2 32) ∷
    (codes "mach_port_urefs_t", rows.Plain 2 32) ∷
    (codes "mach_port_delta_t", rows.Plain 2 32) ∷
    (codes "mach_port_seqno_t", rows.Plain 2 32) ∷
    (codes "mach_port_mscount_t", rows.Plain 2 32) ∷
    (codes "mach_port_msgcount_t", rows.Plain 2 32) ∷
    (codes "mach_port_rights_t", rows.Plain 2 32) ∷
    (codes "mach_msg_id_t", rows.Plain 2 32) ∷
    (codes "mach_msg_type_name_t", rows.Plain 2 32) ∷
    (codes "mach_msg_type_number_t", rows.Plain 2 32) ∷
    (codes "int64_t", rows.Plain 11 64) ∷
    (codes "uint64_t", rows.Plain 11 64) ∷
    (codes "rpc_phys_addr_t", rows.Plain 11 64) ∷
    (codes "boolean_t", rows.Plain 0 32) ∷
    (codes "mach_port_name_t", rows.Plain 15 32) ∷
    (codes "mach_port_t", rows.Right 19 17) ∷
    (codes "mach_port_copy_send_t", rows.Right 19 17) ∷
    (codes "mach_port_move_receive_t", rows.Right 16 16) ∷
    (codes "mach_port_move_send_t", rows.Right 17 17) ∷
    (codes "mach_port_move_send_once_t", rows.Right 18 18) ∷
    (codes "mach_port_make_send_t", rows.Right 20 17) ∷
    (codes "mach_port_make_send_once_t", rows.Right 21 18) ∷
    (codes "mach_port_receive_t", rows.Received 16) ∷
    (codes "mach_port_send_t", rows.Received 17) ∷
    (codes "mach_port_send_once_t", rows.Received 18) ∷ []

-- those of them that are arrays of any number, and of what
abbrev pub standard_arrays : List (List ℕ × Row)
standard_arrays =
    (codes "mach_port_array_t", rows.Right 19 17) ∷
    (codes "mach_port_name_array_t", rows.Plain 15 32) ∷
    (codes "mach_port_type_array_t", rows.Plain 2 32) ∷ []

-- one item of what a table has under a name
abbrev pub item_in : List (List ℕ × Row) → List ℕ → Option Meaning
item_in table name = option_map (λ row. basic_item (basic_by row)) (entry_of table name)

-- the first of two, where there are two
abbrev pub or_else : Option Meaning → Option Meaning → Option Meaning
or_else (Some found) other = Some found
or_else None other = other

-- an address of bytes
abbrev pub pointer : Meaning
pointer = pointed (open_array (item (Fixed 9) (Fixed 9) 8))

-- the type of this name in the file of standard types
unfoldable pub standard_of : List ℕ → Option Meaning
standard_of name =
    if bytes_eq name (codes "mach_port_poly_t") then Some (item Picked Picked 32)
    else if bytes_eq name (codes "pointer_t") then Some pointer
    else or_else (item_in standard name) (option_map open_array (item_in standard_arrays name))

-- the types that need no statement
unfoldable pub undeclared : Bool → List ℕ → Option Meaning
undeclared is_included name =
    or_else (item_in built_in name) (if is_included then standard_of name else None)

-- the type of this name: what a statement declares, or else one that needs none
abbrev pub type_by : Option (Option Meaning) → Bool → List ℕ → Option Meaning
type_by (Some found) is_included name = found
type_by None is_included name = undeclared is_included name

-- the type of this name, if it is known
abbrev pub type_of : Known → List ℕ → Option Meaning
type_of types name = type_by (types.declared name) types.is_included name

-- nothing is declared, and nothing included
abbrev pub nothing_known : Known
nothing_known = record { declared = λ name. None; is_included = false }

-- with the standard types
abbrev pub included : Known → Known
included types = record types { is_included = true }

-- with a type under a name, or with a name that is unknown
abbrev pub declared : Known → List ℕ → Option Meaning → Known
declared types name found = record types {
  declared = λ other. if bytes_eq name other then Some found else types.declared other;
}

-- what a table of code knows
abbrev pub known : Types → Known
known types = record {
  declared = λ name. get_by (λ k. slice_cmp nat_cmp name k.now) types.declared;
  is_included = types.is_included;
}
