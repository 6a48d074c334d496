-- Believe. The types of port arguments, by numbers: one number for each pair of an interface and
-- the name of a type that one of its port arguments has; with laws. The numbers are this profile's
-- own choice; what types and port arguments are is MIG's (Server Writer's Guide).
use Rattle.std.specs.Prelude.{◌≡◌, ◌↔◌, ℕ, ◌+◌, ◌++◌, ◌<◌, ◌==◌, ◌&&◌, Bool, List, [], ◌∷◌, length}
use Rattle.std.specs.Prelude.{map, flat_map, bytes_eq, Option, Some, None, position, unwrap_or}
use Rattle.mrc_forms.specs.Forms.{Slot, Form}
use Rattle.mrc_forms.specs.Tables.{Row, Table as Interface}
use Rattle.mrc_model.specs.IsIn.{IsIn}

-- a type of a port argument: the number of the interface, and the type's name
pub record Sort : Type 0 where
  pub interface : ℕ
  pub type_name : List ℕ

-- it is this type
abbrev pub is_sort : ℕ → List ℕ → Sort → Bool
is_sort s type_name sort = sort.interface == s && bytes_eq type_name sort.type_name

-- the port arguments of a form that is there
abbrev pub form_slots : Option Form → List Slot
form_slots None = []
form_slots (Some form) = form.slots

-- the port arguments of the forms of an id
abbrev pub row_slots : Row → List Slot
row_slots row = form_slots row.request ++ form_slots row.reply

-- the type of a port argument of the interface of this number
abbrev pub slot_sort : ℕ → Slot → Sort
slot_sort s slot = record { interface = s; type_name = slot.type_name }

-- the types of the port arguments of the interface of this number, one for each argument
abbrev pub interface_sorts : ℕ → Interface → List Sort
interface_sorts s interface = map (slot_sort s) (flat_map row_slots interface.rows)

-- the same for interfaces of which the first has this number
abbrev pub sorts_from : ℕ → List Interface → List Sort
sorts_from s [] = []
sorts_from s (interface ∷ interfaces) =
    interface_sorts s interface ++ sorts_from (s + 1) interfaces

-- the types of all port arguments, in order; a type is there once for each argument
abbrev pub sorts_of : List Interface → List Sort
sorts_of interfaces = sorts_from 0 interfaces

-- The number of a type is its first place among these. What is no type of a port argument has the
-- number that is none of them, their length.
abbrev pub sort_number : List Sort → ℕ → List ℕ → ℕ
sort_number sorts s type_name =
    unwrap_or (position (is_sort s type_name) sorts) (length sorts)

-- Two types of port arguments have one number if and only if they are of one interface and have
-- one name.
abbrev pub SortsAreTypes : Type 0
SortsAreTypes =
    (sorts : List Sort) (s t : ℕ) (name other : List ℕ)
    → IsIn record { interface = s; type_name = name } sorts
    → IsIn record { interface = t; type_name = other } sorts
    → (sort_number sorts s name ≡ sort_number sorts t other) ↔ ((s ≡ t) × (name ≡ other))

-- And a type of a port argument has no number that is none of theirs.
abbrev pub SortsAreNumbered : Type 0
SortsAreNumbered =
    (sorts : List Sort) (s : ℕ) (name : List ℕ)
    → IsIn record { interface = s; type_name = name } sorts
    ↔ (sort_number sorts s name < length sorts)
