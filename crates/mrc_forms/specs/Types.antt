-- Believe. What the items of an argument may be. The numbers are those of mach_msg_type_name_t
-- (Mach 3 Kernel Interfaces); that a sender chooses among those that give one right is MIG's rule
-- for MACH_MSG_TYPE_PORT_SEND and its like.
use Rattle.std.specs.Prelude.{ℕ, Bool, true, false, List, [], ◌∷◌}
use Rattle.std.specs.List.{filter_map, list_any}
use Rattle.mrc_base.specs.declared.Disp.{Disp}
use Rattle.mrc_base.specs.Disposition.{disp_of_number, is_port_number}
use Rattle.mrc_forms.specs.declared.types.ItemTypes.{ItemTypes}
use Rattle.mrc_forms.specs.declared.types.ItemTypes.TheVariants.{AnyData, One, Send, SendOnce, Any}
use Rattle.mrc_model.specs.Wiring.{ItemTypes as Types, OneOf, type_numbers}
use Rattle.mrc_model.specs.Wiring.{AnyData as NoNumber}

-- each type number
abbrev pub all_numbers : List ℕ
all_numbers =
    0 ∷ 1 ∷ 2 ∷ 3 ∷ 4 ∷ 5 ∷ 6 ∷ 7 ∷ 8 ∷ 9 ∷ 10 ∷ 11 ∷ 12 ∷ 13 ∷ 14 ∷ 15 ∷ 16 ∷ 17 ∷ 18 ∷ 19 ∷ 20
    ∷ 21 ∷ []

-- the type numbers that the items may have
abbrev pub types_of : ItemTypes → Types
types_of AnyData = NoNumber
types_of (One number) = OneOf (number ∷ [])
types_of Send = OneOf (17 ∷ 19 ∷ 20 ∷ [])
types_of SendOnce = OneOf (18 ∷ 21 ∷ [])
types_of Any = OneOf all_numbers

-- data of any kind
abbrev pub is_any_data : ItemTypes → Bool
is_any_data AnyData = true
is_any_data (One number) = false
is_any_data Send = false
is_any_data SendOnce = false
is_any_data Any = false

-- one of the type numbers is that of port rights
abbrev pub has_rights : ItemTypes → Bool
has_rights types = list_any is_port_number (type_numbers (types_of types))

-- the dispositions by which the items may hand over rights
abbrev pub dispositions_of : ItemTypes → List Disp
dispositions_of types = filter_map disp_of_number (type_numbers (types_of types))
